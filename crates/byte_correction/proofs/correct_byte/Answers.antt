use Rattle.corrections.proofs.CorrectionSteps.{standing_few, standing_room}
use Rattle.byte_correction.proofs.ByteMade.{byte_rom, byte_full, byte_page, byte_offset, byte_made_lem}
use borrow.Author.Rules.{rules}
use Rattle.byte_correction.proofs.correct_byte.Goals as goal

pub returns-in-Rom : goal.returns-in-Rom
returns-in-Rom c = search byte_rom

pub returns-then-capacity-n : goal.returns-then-capacity-n
returns-then-capacity-n c = search byte_full

pub byte_in-requires : goal.byte_in-requires
byte_in-requires c = (search byte_page, (search byte_offset, (search rules, (search standing_few, search standing_room))))

pub returns-in-Ram : goal.returns-in-Ram
returns-in-Ram c = search byte_made_lem
