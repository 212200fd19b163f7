use Rattle.header_canonical.proofs.Canonical.{decoded_length, taken_none, decoded_mode_lem}
use Rattle.header_canonical.proofs.decode_header.Goals as goal

pub returns-then-s-ne86 : goal.returns-then-s-ne86
returns-then-s-ne86 c = search decoded_length

pub returns-in-NotCarried : goal.returns-in-NotCarried
returns-in-NotCarried c = search taken_none

pub returns-in-Carried : goal.returns-in-Carried
returns-in-Carried c = search decoded_mode_lem
