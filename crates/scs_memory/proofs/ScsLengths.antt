-- How many bytes of memory are written.
use mathlib.Core.Path.{◌≡◌}
use Prim.Native.Nat.{ℕ}
use native.Mathlib.Omega.{arith}
use mathlib.Core.List.{List, ◌++◌}
use lib.ListN.{length, length-append}
use Rattle.pages.specs.declared.Model.{Model}
use Rattle.pages.specs.declared.Model.TheVariants.{K48, K128}
use Rattle.pages.specs.Pages.{page_in}
use Rattle.pages.proofs.Inside.{page_long}
use Rattle.scs_memory.specs.ScsMemory.{memory_size, scs_data}

three_long : (p q r : List ℕ) → length p ≡ 16384 → length q ≡ 16384 → length r ≡ 16384 → length (p ++ (q ++ r)) ≡ 49152
three_long p q r a b c = simp length-append (omega arith)

pub data_long : (model : Model) (area : List ℕ) → length area ≡ 131072 → length (scs_data model area) ≡ memory_size model
unfolding scs_data
data_long K48 area l = three_long (page_in area 5) (page_in area 2) (page_in area 0) (page_long area 5 l (omega arith)) (page_long area 2 l (omega arith)) (page_long area 0 l (omega arith))
data_long K128 area l = l
