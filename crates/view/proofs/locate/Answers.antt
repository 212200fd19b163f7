use Rattle.view.proofs.ViewParts.{part_none, part_area, part_rom}
use Rattle.view.proofs.locate.Goals as goal

pub returns-in-Err : goal.returns-in-Err
returns-in-Err c = search part_none

pub returns-then-p-lt8 : goal.returns-then-p-lt8
returns-then-p-lt8 c = search part_area

pub returns-in-Ok : goal.returns-in-Ok
returns-in-Ok c = search part_rom
