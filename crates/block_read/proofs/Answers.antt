-- What each answer of unpacking into a part of m bytes tells of the data: the cases of `answer_of`, taken back.
use Prim.Native.Nat.{ℕ}
use mathlib.Core.Path.{◌≡◌, refl, ◌∙◌}
use mathlib.Core.Bool.{Bool, true, false}
use mathlib.Core.List.{List}
use lib.Dec.{eqb}
use lib.ListN.{length, replicate}
use borrow.Author.Tests.{eqb-true}
use Rattle.slices.specs.Choose.{choose}
use Rattle.packed.specs.Packed.{Found, malformed, bytes}
use Rattle.packed.specs.Unpacking.{Unpacks, length_counted, answer_of, left_by}
use Rattle.packed.specs.declared.Unpacked.{Unpacked}
use Rattle.packed.specs.declared.Unpacked.TheVariants.{Good, WrongLength, Malformed}

abbrev UnpackedSays : Found → ℕ → List ℕ → Unpacked → Type 0
UnpackedSays u m d Good = (u ≡ bytes d) × (length d ≡ m)
UnpackedSays u m d (WrongLength n) = (xs : List ℕ) × ((u ≡ bytes xs) × ((eqb (length xs) m ≡ false) × (n ≡ length_counted (length xs))))
UnpackedSays u m d (Malformed i) = u ≡ malformed i

unpacked_says : (u : Found) (m : ℕ) → UnpackedSays u m (left_by u m) (answer_of u m)
unpacked_says (malformed i) m = refl
unpacked_says (bytes xs) m = go (eqb (length xs) m) refl
  where
    go : (b : Bool) → eqb (length xs) m ≡ b → UnpackedSays (bytes xs) m (choose b xs (replicate m 0)) (choose b Good (WrongLength (length_counted (length xs))))
    go true e = (refl, eqb-true _ _ e)
    go false e = (xs, (refl, (e, refl)))

module _ (u : Found) (n m : ℕ) (r : Unpacked) (d : List ℕ) (h : Unpacks u n r d) (l : n ≡ m) where
  told_here : UnpackedSays u m d r
  told_here = rw (h.answer, h.memory, l) (unpacked_says u m)

  pub good_is : r ≡ Good → (u ≡ bytes d) × (length d ≡ m)
  good_is e = rw e at told_here

  pub malformed_is : (i : ℕ) → r ≡ Malformed i → u ≡ malformed i
  malformed_is i e = rw e at told_here

  pub wrong_is : (k : ℕ) → r ≡ WrongLength k → (xs : List ℕ) × ((u ≡ bytes xs) × ((eqb (length xs) m ≡ false) × (k ≡ length_counted (length xs))))
  wrong_is k e = rw e at told_here

-- a refused part is all zero
left_zeros : (u : Found) (m : ℕ) → (answer_of u m ≡ Good → ⊥) → left_by u m ≡ replicate m 0
left_zeros (malformed i) m f = refl
left_zeros (bytes xs) m f = go (eqb (length xs) m) f
  where
    go : (b : Bool) → (choose b Good (WrongLength (length_counted (length xs))) ≡ Good → ⊥) → choose b xs (replicate m 0) ≡ replicate m 0
    go true f = absurd (f refl)
    go false f = refl

pub refused_zeros : (u : Found) (n : ℕ) (r : Unpacked) (d : List ℕ) → Unpacks u n r d → (r ≡ Good → ⊥) → d ≡ replicate n 0
refused_zeros u n r d h e = h.memory ∙ left_zeros u n (λ g. e (h.answer ∙ g))
