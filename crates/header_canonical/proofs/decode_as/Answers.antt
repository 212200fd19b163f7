use Rattle.header_canonical.proofs.Canonical.{taken_good, taken_other, taken_invalid}
use Rattle.header_canonical.proofs.decode_as.Goals as goal

pub returns-then-is_header : goal.returns-then-is_header
returns-then-is_header c = search taken_good

pub returns-then-valid : goal.returns-then-valid
returns-then-valid c = search taken_other

pub returns : goal.returns
returns c = search taken_invalid
