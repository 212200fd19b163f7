use Rattle.stores.proofs.StoredBytes.{put_2}
use native.Mathlib.Omega.{arith}
use lib.ListN.{length-set}
use Rattle.stores.proofs.put_two.Goals as goal

pub bounds-dst-o-2 : goal.bounds-dst-o-2
bounds-dst-o-2 c = simp length-set (omega arith)

pub returns : goal.returns
returns c = search put_2
