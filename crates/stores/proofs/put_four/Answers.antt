use Rattle.stores.proofs.StoredBytes.{put_4}
use native.Mathlib.Omega.{arith}
use lib.ListN.{length-set}
use Rattle.stores.proofs.put_four.Goals as goal

pub bounds-dst-o-2 : goal.bounds-dst-o-2
bounds-dst-o-2 c = simp length-set (omega arith)

pub bounds-dst-o-3 : goal.bounds-dst-o-3
bounds-dst-o-3 c = simp length-set (omega arith)

pub bounds-dst-o-4 : goal.bounds-dst-o-4
bounds-dst-o-4 c = simp length-set (omega arith)

pub returns : goal.returns
returns c = search put_4
