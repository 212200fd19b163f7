-- Laws of a chosen case and of equality as a test.
use mathlib.Core.Path.{◌≡◌, refl, sym, ap, ◌∙◌}
use mathlib.Core.Bool.{Bool, true, false, not}
use Prim.Native.Nat.{ℕ}
use native.Mathlib.Omega.{arith}
use mathlib.Core.List.{List, [], ◌∷◌}
use lib.Dec.{eqb}
use borrow.Author.Tests.{eqb-true, eq-eqb}
use Rattle.slices.specs.Choose.{choose, both}
use Rattle.slices.specs.Same.{same}

-- what holds of both sides holds of the chosen one
pub either {ℓ} : {A : Type 0} (P : A → Type ℓ) (t : Bool) (a b : A) → (t ≡ true → P a) → (t ≡ false → P b) → P (choose t a b)
either P true a b f g = f refl
either P false a b f g = g refl

pub both_true : (a b : Bool) → both a b ≡ true → (a ≡ true) × (b ≡ true)
both_true true b h = (refl, h)
both_true false b h = let z : ◌≡◌ {A = ℕ} 0 1 = cc in absurd (omega arith)

pub both_end : (t : Bool) → both t true ≡ t
both_end true = refl
both_end false = refl

pub both_again : (t u v : Bool) → both (both t u) v ≡ both t (both u v)
both_again true u v = refl
both_again false u v = refl

-- the test is equality
pub same_refl : (xs : List ℕ) → same xs xs ≡ true
same_refl [] = refl
same_refl (x ∷ xs) = rw (eq-eqb x x refl) (same_refl xs)

pub same_true : (xs ys : List ℕ) → same xs ys ≡ true → xs ≡ ys
same_true [] [] h = refl
same_true [] (y ∷ ys) h = let z : ◌≡◌ {A = ℕ} 0 1 = cc in absurd (omega arith)
same_true (x ∷ xs) [] h = let z : ◌≡◌ {A = ℕ} 0 1 = cc in absurd (omega arith)
same_true (x ∷ xs) (y ∷ ys) h =
    let p = both_true (eqb x y) (same xs ys) h in
    (λ k. eqb-true x y p.0 k ∷ same_true xs ys p.1 k)

-- a test that is equality says what `same` says
pub same_is : (xs ys : List ℕ) (r : Bool) → (r ≡ true → xs ≡ ys) → (xs ≡ ys → r ≡ true) → r ≡ same xs ys
same_is xs ys r f g = go r (same xs ys) refl refl
  where
    go : (a b : Bool) → r ≡ a → same xs ys ≡ b → r ≡ same xs ys
    go true true p q = cc
    go true false p q = let z : true ≡ false = sym (same_refl ys) ∙ ap (λ (l : List ℕ). same l ys) (sym (f p)) ∙ q in cc
    go false true p q = let z : false ≡ true = sym p ∙ g (same_true xs ys q) in cc
    go false false p q = cc

pub not_flip : (t : Bool) → not t ≡ false → t ≡ true
not_flip true e = refl
not_flip false e = let z : ◌≡◌ {A = ℕ} 0 1 = cc in absurd (omega arith)
