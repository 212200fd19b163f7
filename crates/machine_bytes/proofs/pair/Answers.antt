use Rattle.machine_bytes.proofs.Told.{no_pair, pair_told, pair_refused}
use Rattle.machine_bytes.proofs.pair.Goals as goal

pub returns-then-number-gt11 : goal.returns-then-number-gt11
returns-then-number-gt11 c = search no_pair

pub returns-then-decoded : goal.returns-then-decoded
returns-then-decoded c = search pair_told

pub returns : goal.returns
returns c = search pair_refused
