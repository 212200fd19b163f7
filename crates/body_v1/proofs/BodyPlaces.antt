-- The place of a fault of a v1 body is not 0, and not behind the file's end; 14 is where the file ends.
use Prim.Native.Nat.{ℕ, ◌+◌, ◌-◌, ◌<◌, ◌≤◌}
use native.Mathlib.Omega.{arith}
use mathlib.Core.Path.{◌≡◌, refl}
use mathlib.Core.Bool.{Bool, true, false}
use mathlib.Core.List.{List}
use lib.Dec.{eqb}
use lib.ListN.{length, take, length-take}
use Rattle.slices.proofs.Chosen.{either}
use Rattle.packed.specs.Packed.{Found, malformed, bytes, unpacked}
use Rattle.packed.proofs.Enough.{bad_inside}
use Rattle.packed.specs.Unpacking.{length_counted}
use Rattle.numbers.proofs.FaultPlaces.{somewhere, where_it_ends, in_a_block, of_a_length}
use Rattle.blocks.proofs.BlockPlaces.{BodyPlaced}
use Rattle.body_v1.specs.Body.{spread_from, marked, body_into}

spread_placed : (place size : ℕ) (d : Found) (area : List ℕ) → 0 < place → place ≤ size → ((i : ℕ) → d ≡ malformed i → place + i ≤ size) → BodyPlaced size (spread_from place d area)
spread_placed place size (malformed i) area h l f = (somewhere 11 (place + i) size refl (λ e. omega arith) (omega arith) (f i refl), in_a_block 11 1 refl refl (omega arith))
spread_placed place size (bytes xs) area h l f = either (BodyPlaced size) (eqb (length xs) 49152) _ _ (λ t. tt)
    (λ t. (somewhere 12 place size refl (λ e. omega arith) h l, of_a_length 1 (length_counted (length xs)) 49152 (omega arith) (omega arith)))

pub v1_placed : (packed : Bool) (area : List ℕ) (place : ℕ) (s : List ℕ) → 0 < place → BodyPlaced (place + length s) (body_into packed area place s)
unfolding body_into
v1_placed true area place s h =
    let packed-bytes = take (length s - 4) s in
    either (BodyPlaced (place + length s)) (marked s) _ _
    (λ t. spread_placed place (place + length s) (unpacked packed-bytes) area h (omega arith) (λ i e. omega (arith, bad_inside packed-bytes i e, length-take (length s - 4) s)))
    (λ t. (where_it_ends (place + length s) (omega arith), in_a_block 14 1 refl refl (omega arith)))
v1_placed false area place s h =
    spread_placed place (place + length s) (bytes s) area h (omega arith) (λ i e. let z : ◌≡◌ {A = ℕ} 0 1 = cc in absurd (omega arith))
