-- How long a body that is read is at most.
use Prim.Native.Nat.{ℕ, ◌+◌, ◌-◌, ◌*◌, ◌≤◌}
use mathlib.Core.Path.{◌≡◌, refl, ap}
use mathlib.Core.Bool.{Bool, true, false}
use mathlib.Core.List.{List}
use native.Mathlib.Omega.{arith}
use borrow.Author.Tests.{eqb-true}
use lib.Dec.{eqb}
use lib.ListN.{length, take, length-take}
use Rattle.slices.specs.Choose.{choose}
use Rattle.packed.specs.Packed.{Found, malformed, bytes, unpacked}
use Rattle.packed.proofs.Enough.{unpacked_long}
use Rattle.packed.specs.Unpacking.{length_counted}
use Rattle.numbers.specs.declared.FileFault.{FileFault}
use Rattle.numbers.specs.Faults.{fault_in, length_fault}
use Rattle.numbers.specs.declared.Refusal.TheVariants.{EndMarker}
use Rattle.blocks.specs.Blocks.{BodyResult, body_refused, body_read}
use Rattle.body_v1.specs.Body.{spread, spread_from, marked, body_into}

only_read : (P : Type 0) (t : Bool) (x : BodyResult) (fault : FileFault) (a : List ℕ) → (t ≡ true → x ≡ body_read a → P) → choose t x (body_refused fault) ≡ body_read a → P
only_read P true x fault a f e = f refl e
only_read P false x fault a f e = let z : ◌≡◌ {A = ℕ} 0 1 = cc in absurd (omega arith)

spread_most : (n place : ℕ) (d : Found) (area a : List ℕ) → ((xs : List ℕ) → d ≡ bytes xs → n ≤ 4 + 4 * length xs) → spread_from place d area ≡ body_read a → n ≤ 196612
spread_most n place (malformed i) area a f e = let z : ◌≡◌ {A = ℕ} 0 1 = cc in absurd (omega arith)
spread_most n place (bytes xs) area a f e =
    only_read (n ≤ 196612) (eqb (length xs) 49152) (body_read (spread area xs)) (length_fault 1 place (length_counted (length xs)) 49152) a (λ t q. omega (arith, f xs refl, eqb-true (length xs) 49152 t)) e

-- 4 * 49,152 and the four bytes of the end marker
pub body_most : (packed : Bool) (area : List ℕ) (place : ℕ) (s a : List ℕ) → body_into packed area place s ≡ body_read a → length s ≤ 196612
unfolding body_into
body_most true area place s a e =
    let n = length s - 4 in
    only_read (length s ≤ 196612) (marked s) (spread_from place (unpacked (take n s)) area) (fault_in 1 (place + length s) EndMarker) a
    (λ t. spread_most (length s) place (unpacked (take n s)) area a (λ xs h. omega (arith, unpacked_long (take n s) xs h, length-take n s))) e
body_most false area place s a e = spread_most (length s) place (bytes s) area a (λ xs h. let p : s ≡ xs = cc in omega (arith, ap length p)) e
