-- From what was counted to the answer of unpacking into a part of a length below 65,536.
use Prim.Native.Nat.{ℕ, ◌+◌, ◌<◌}
use native.Mathlib.Omega.{arith}
use mathlib.Core.Path.{◌≡◌, refl, sym, ap, ◌∙◌}
use mathlib.Core.List.{List}
use lib.ListN.{length}
use borrow.Author.Tests.{eq-eqb, ne_eqb}
use Rattle.packed.specs.Packed.{Found, malformed, bytes, unpacked}
use Rattle.packed.specs.Unpacking.{length_counted, answer_of}
use Rattle.packed.specs.Inner.{over}
use Rattle.packed.specs.declared.Unpacked.{Unpacked}
use Rattle.packed.specs.declared.Unpacked.TheVariants.{Good, WrongLength, Malformed}

-- what each answer of counting becomes
abbrev Becomes : ℕ → Found → Unpacked → Type 0
Becomes due u Good = ⊥
Becomes due u (Malformed i) = Malformed i ≡ answer_of u due
Becomes due u (WrongLength n) = (n ≡ due → Good ≡ answer_of u due) × ((n ≡ due → ⊥) → WrongLength n ≡ answer_of u due)

over_becomes : (due : ℕ) (u : Found) → due < 65536 → Becomes due u (over 0 u)
over_becomes due (malformed i) h = refl
over_becomes due (bytes xs) h =
    (λ e. rw (eq-eqb (length xs) due (omega arith)), λ e. rw (ne_eqb (length xs) due (λ q. e (omega arith))) (ap WrongLength (omega arith)))

module _ (s : List ℕ) (due : ℕ) (r : Unpacked) (h : due < 65536) (e : r ≡ over 0 (unpacked s)) where
  counted_becomes : Becomes due (unpacked s) r
  counted_becomes = rw e (over_becomes due (unpacked s) h)

  pub never_good : r ≡ Good → Good ≡ answer_of (unpacked s) due
  never_good q = absurd (rw q at counted_becomes)

  pub bad_code : (i : ℕ) → r ≡ Malformed i → Malformed i ≡ answer_of (unpacked s) due
  bad_code i q = rw q at counted_becomes

  pub right_length : (n : ℕ) → r ≡ WrongLength n → n ≡ due → Good ≡ answer_of (unpacked s) due
  right_length n q z = let b : Becomes due (unpacked s) (WrongLength n) = rw q at counted_becomes in b.0 z

  pub length_stays : (n : ℕ) → r ≡ WrongLength n → (n ≡ due → ⊥) → WrongLength n ≡ answer_of (unpacked s) due
  length_stays n q z = let b : Becomes due (unpacked s) (WrongLength n) = rw q at counted_becomes in b.1 z
