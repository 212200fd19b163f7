-- The length of the packed form.
use Prim.Native.Nat.{ℕ, ◌+◌, ◌*◌, ◌/◌, ◌≤◌, ◌<◌}
use native.Mathlib.Omega.{arith}
use mathlib.Core.Path.{◌≡◌, refl, ap, ◌∙◌}
use mathlib.Core.List.{List}
use lib.ListN.{length, get_or, drop, length-append, length-replicate, drop_of_length-le}
use Rattle.packed.specs.Packed.{packed}
use Rattle.packed.specs.Packed.CodeLaws.{packed_nil}
use Rattle.packed.specs.Packed.Promise.{packed_short}
use Rattle.runs.specs.Inner.{RunLeft}
use Rattle.runs.proofs.RunCodes.{Coded, next_run_ed, next_run, next_short, next_single, next_last}

-- the length: i bytes of s pack to o bytes
pub record Measured (s : List ℕ) (i o : ℕ) : Type 0 where
  pub reach : i ≤ length s
  pub same : length (packed s) ≡ o + length (packed (drop i s))

pub measured_none : (s : List ℕ) → Measured s 0 0
measured_none s = record { reach = omega arith; same = omega arith }

pub measured_most : (s : List ℕ) (i o : ℕ) → Measured s i o → o ≤ length s + 2 * ((length s + 1) / 3)
measured_most s i o g = omega (arith, packed_short s, g.same)

pub measured_all : (s : List ℕ) (i o : ℕ) → Measured s i o → length s ≤ i → o ≡ length (packed s)
measured_all s i o g h =
    let z : length (packed (drop i s)) ≡ 0 = ap (λ (l : List ℕ). length (packed l)) (drop_of_length-le s {i = i} h) ∙ ap length packed_nil in
    omega (arith, g.same)

module _ (s : List ℕ) (i o : ℕ) (g : Measured s i o) where
  measured : (ws : List ℕ) (j k : ℕ) → Coded s i ws j → length ws ≡ k → Measured s j (o + k)
  measured ws j k n e =
      record {
        reach = n.inside;
        same = let l : length (packed (drop i s)) ≡ length ws + length (packed (drop j s)) = ap length n.step ∙ length-append ws (packed (drop j s)) in omega (arith, g.same);
      }

  module _ (h : i < length s) (r : ℕ) (l : RunLeft s i r) where
    pub measured_run_ed : get_or s i 0 ≡ 237 → 2 ≤ r → Measured s (i + r) (o + 4)
    measured_run_ed e k = measured _ (i + r) 4 (next_run_ed s i h r l e k) refl

    pub measured_single : get_or s i 0 ≡ 237 → r < 2 → i + 1 < length s → Measured s (i + 2) (o + 2)
    measured_single e k m = measured _ (i + 2) 2 (next_single s i h r l e k m) refl

    pub measured_last : get_or s i 0 ≡ 237 → r < 2 → length s ≤ i + 1 → Measured s (i + 1) (o + 1)
    measured_last e k m = measured _ (i + 1) 1 (next_last s i h r l e k m) refl

    pub measured_run : (get_or s i 0 ≡ 237 → ⊥) → 5 ≤ r → Measured s (i + r) (o + 4)
    measured_run e k = measured _ (i + r) 4 (next_run s i h r l e k) refl

    pub measured_short : (get_or s i 0 ≡ 237 → ⊥) → r < 5 → Measured s (i + r) (o + r)
    measured_short e k = measured _ (i + r) r (next_short s i h r l e k) (length-replicate r (get_or s i 0))
