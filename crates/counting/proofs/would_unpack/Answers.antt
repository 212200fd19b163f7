use Rattle.counting.proofs.Counts.{never_good, bad_code, right_length, length_stays}
use Rattle.counting.proofs.would_unpack.Goals as goal

pub returns-then-n-due : goal.returns-then-n-due
returns-then-n-due c = search right_length

pub returns-in-Good : goal.returns-in-Good
returns-in-Good c = search never_good

pub returns-in-Malformed : goal.returns-in-Malformed
returns-in-Malformed c = search bad_code

pub returns-else-n-due : goal.returns-else-n-due
returns-else-n-due c = search length_stays
