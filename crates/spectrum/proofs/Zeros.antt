-- Bytes looked at one by one: whether all are 0.
use Prim.Native.Nat.{ℕ, zero, suc, ◌+◌, ◌≤◌, ◌<◌}
use native.Mathlib.Omega.{arith}
use mathlib.Core.Path.{◌≡◌, refl, sym, ap, ◌∙◌}
use mathlib.Core.Bool.{Bool, true}
use mathlib.Core.List.{List, [], ◌∷◌}
use lib.ListN.{length, get_or, drop, replicate, drop_of_length-le}
use lib.Dec.{eqb}
use borrow.Author.Tests.{eqb-true}
use Rattle.slices.specs.Choose.{both}
use Rattle.slices.proofs.Drops.{drop_next}
use Rattle.slices.proofs.Chosen.{both_true, both_end, both_again}
use Rattle.spectrum.specs.Valid.{zeros}

-- i bytes of s were looked at, and t says whether all of them are 0
pub record ZeroSoFar (s : List ℕ) (i : ℕ) (t : Bool) : Type 0 where
  pub reach : i ≤ length s
  pub so_far : both t (zeros (drop i s)) ≡ zeros s

pub looked_none : (s : List ℕ) → ZeroSoFar s 0 true
looked_none s = record { reach = omega arith; so_far = refl }

module _ (s : List ℕ) (i : ℕ) (t : Bool) (g : ZeroSoFar s i t) where
  zeros_next : i < length s → zeros (drop i s) ≡ both (eqb (get_or s i 0) 0) (zeros (drop (i + 1) s))
  zeros_next h = ap zeros (drop_next s i h)

  pub looked_more : (u : Bool) → i < length s → u ≡ both t (eqb (get_or s i 0) 0) → ZeroSoFar s (i + 1) u
  looked_more u h e = record { reach = omega arith; so_far = ap (λ (v : Bool). both v (zeros (drop (i + 1) s))) e ∙ both_again t (eqb (get_or s i 0) 0) (zeros (drop (i + 1) s)) ∙ ap (both t) (sym (zeros_next h)) ∙ g.so_far }

  pub looked_all : length s ≤ i → t ≡ zeros s
  looked_all h = sym (both_end t) ∙ ap (λ (l : List ℕ). both t (zeros l)) (sym (drop_of_length-le s {i = i} h)) ∙ g.so_far

-- the test's meaning
pub zeros_are : (s : List ℕ) → zeros s ≡ true → s ≡ replicate (length s) 0
zeros_are [] h = refl
zeros_are (x ∷ xs) h =
    let p = both_true (eqb x 0) (zeros xs) h in
    (λ k. eqb-true x 0 p.0 k ∷ zeros_are xs p.1 k)

pub zeros_of : (n : ℕ) → zeros (replicate n 0) ≡ true
zeros_of zero = refl
zeros_of (suc n) = zeros_of n
