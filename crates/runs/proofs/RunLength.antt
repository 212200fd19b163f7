-- How long a run is.
use Prim.Native.Nat.{ℕ, zero, suc, ◌+◌, ◌-◌, ◌≤◌, ◌<◌}
use native.Mathlib.Nat.{not-suc-le-zero, le_of_suc-le-suc, suc-le-suc_iff}
use native.Mathlib.Omega.{arith}
use mathlib.Core.Path.{◌≡◌, refl, sym, ap, ◌∙◌}
use mathlib.Core.Bool.{Bool, true, false}
use mathlib.Core.List.{List, [], ◌∷◌}
use lib.ListN.{length, get_or, drop, length-drop}
use lib.Seq.{get_or-drop}
use lib.Dec.{eqb}
use borrow.Author.Tests.{eqb-true, eq-eqb}
use Rattle.slices.specs.Choose.{choose}
use Rattle.packed.specs.Packed.{front}
use Rattle.packed.specs.Packed.Promise.{front_le}
use Rattle.runs.specs.Inner.{run_at, RunLeft}

-- the bytes of a run
pub front_at : (x : ℕ) (xs : List ℕ) (k : ℕ) → k < front x xs → get_or xs k 0 ≡ x
front_at x [] k h = absurd (not-suc-le-zero h)
front_at x (y ∷ ys) zero h = go (eqb y x) refl h
  where
    go : (t : Bool) → eqb y x ≡ t → 0 < choose t (suc (front x ys)) 0 → y ≡ x
    go true e h = eqb-true y x e
    go false e h = absurd (not-suc-le-zero h)
front_at x (y ∷ ys) (suc k) h = go (eqb y x) h (front_at x ys k)
  where
    go : (t : Bool) → suc k < choose t (suc (front x ys)) 0 → (k < front x ys → get_or ys k 0 ≡ x) → get_or ys k 0 ≡ x
    go true h ih = ih (le_of_suc-le-suc h)
    go false h ih = absurd (not-suc-le-zero h)

front_more : (x : ℕ) (xs : List ℕ) (k : ℕ) → k ≤ front x xs → k < length xs → get_or xs k 0 ≡ x → k < front x xs
front_more x [] k h l e = absurd (not-suc-le-zero l)
front_more x (y ∷ ys) zero h l e = rw (eq-eqb y x e) (omega arith)
front_more x (y ∷ ys) (suc k) h l e = go (eqb y x) h (λ i. front_more x ys k i (le_of_suc-le-suc l) e)
  where
    go : (t : Bool) → suc k ≤ choose t (suc (front x ys)) 0 → (k ≤ front x ys → k < front x ys) → suc k < choose t (suc (front x ys)) 0
    go true h ih = suc-le-suc_iff.1 (ih (le_of_suc-le-suc h))
    go false h ih = absurd (not-suc-le-zero h)

-- n bytes of the run at i are found
pub record Running (s : List ℕ) (i v n : ℕ) : Type 0 where
  pub some : 1 ≤ n
  pub most : n ≤ 255
  pub inside : i + n ≤ length s
  pub value : v ≡ get_or s i 0
  pub run : n ≤ run_at s i

pub running_one : (s : List ℕ) (i : ℕ) → i < length s → Running s i (get_or s i 0) 1
running_one s i h = record { some = omega arith; most = omega arith; inside = omega arith; value = refl; run = omega arith }

module _ (s : List ℕ) (i v n : ℕ) (g : Running s i v n) where
  run_byte : get_or s (i + n) 0 ≡ get_or (drop (i + 1) s) (n - 1) 0
  run_byte = let e : i + n ≡ i + 1 + (n - 1) = omega (arith, g.some) in ap (λ (k : ℕ). get_or s k 0) e ∙ sym (get_or-drop (i + 1) s (n - 1) 0)

  pub running_more : n < 255 → i + n < length s → get_or s (i + n) 0 ≡ v → Running s i v (n + 1)
  running_more h k e =
      let q : n - 1 < front (get_or s i 0) (drop (i + 1) s) =
      front_more (get_or s i 0) (drop (i + 1) s) (n - 1) (omega (arith, g.run)) (simp length-drop (omega (arith, g.some))) (sym run_byte ∙ e ∙ g.value) in
      record { some = omega arith; most = omega arith; inside = omega arith; value = g.value; run = omega (arith, g.some) }

  pub run_stops : (get_or s (i + n) 0 ≡ v → ⊥) → RunLeft s i n
  run_stops h =
      let q : n - 1 < front (get_or s i 0) (drop (i + 1) s) → ⊥ = λ z. h (run_byte ∙ front_at (get_or s i 0) (drop (i + 1) s) (n - 1) z ∙ sym g.value) in
      record { counted = omega (arith, g.some, g.most, g.run); inside = g.inside }

  pub run_ends : length s ≤ i + n → RunLeft s i n
  run_ends h =
      let q : length (drop (i + 1) s) ≡ length s - (i + 1) = length-drop (i + 1) s in
      record { counted = omega (arith, g.some, g.most, g.run, front_le (get_or s i 0) (drop (i + 1) s)); inside = g.inside }

  pub run_full : 255 ≤ n → RunLeft s i n
  run_full h = record { counted = omega (arith, g.most, g.run); inside = g.inside }
