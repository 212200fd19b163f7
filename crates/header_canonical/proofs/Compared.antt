-- Two lists compared byte by byte: whether they are the same.
use Prim.Native.Nat.{ℕ, ◌+◌, ◌≤◌, ◌<◌}
use native.Mathlib.Omega.{arith}
use mathlib.Core.Path.{◌≡◌, refl, sym, ap, ◌∙◌}
use mathlib.Core.Bool.{Bool, true, false}
use mathlib.Core.List.{List, [], ◌∷◌}
use lib.ListN.{length, get_or, drop, drop_of_length-le}
use lib.Dec.{eqb}
use Rattle.slices.specs.Choose.{both}
use Rattle.slices.specs.Same.{same}
use Rattle.slices.proofs.Drops.{drop_next}
use Rattle.slices.proofs.Chosen.{both_end, both_again, same_true}

pub other_length : (s h : List ℕ) → (length s ≡ length h → ⊥) → false ≡ same s h
other_length s h n = go (same s h) refl
  where
    go : (t : Bool) → same s h ≡ t → false ≡ same s h
    go true e = absurd (n (ap length (same_true s h e)))
    go false e = sym e

-- i bytes of both were compared, and t says whether all of them are equal
pub record Compared (s h : List ℕ) (i : ℕ) (t : Bool) : Type 0 where
  pub lengths : length s ≡ length h
  pub reach : i ≤ length s
  pub so_far : both t (same (drop i s) (drop i h)) ≡ same s h

pub compared_none : (s h : List ℕ) → length s ≡ length h → Compared s h 0 true
compared_none s h e = record { lengths = e; reach = omega arith; so_far = refl }

module _ (s h : List ℕ) (i : ℕ) (t : Bool) (g : Compared s h i t) where
  same_next : i < length s → same (drop i s) (drop i h) ≡ both (eqb (get_or s i 0) (get_or h i 0)) (same (drop (i + 1) s) (drop (i + 1) h))
  same_next b = ap (λ (l : List ℕ). same l (drop i h)) (drop_next s i b) ∙ ap (same (get_or s i 0 ∷ drop (i + 1) s)) (drop_next h i (rw (sym g.lengths) b))

  pub compared_more : (u : Bool) → i < length s → u ≡ both t (eqb (get_or s i 0) (get_or h i 0)) → Compared s h (i + 1) u
  compared_more u b e =
      let rest = same (drop (i + 1) s) (drop (i + 1) h) in
      record { lengths = g.lengths; reach = omega arith; so_far = ap (λ (v : Bool). both v rest) e ∙ both_again t (eqb (get_or s i 0) (get_or h i 0)) rest ∙ ap (both t) (sym (same_next b)) ∙ g.so_far }

  pub compared_all : length s ≤ i → t ≡ same s h
  compared_all b =
      sym (both_end t)
      ∙ ap (both t) (sym (ap (λ (l : List ℕ). same l (drop i h)) (drop_of_length-le s {i = i} b) ∙ ap (same []) (drop_of_length-le h {i = i} (rw (sym g.lengths) b))))
      ∙ g.so_far
