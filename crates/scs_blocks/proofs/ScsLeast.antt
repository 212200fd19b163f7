-- A list taken or dropped as far as it goes.
use Prim.Native.Nat.{ℕ, min}
use native.Mathlib.Omega.{arith}
use mathlib.Core.Path.{◌≡◌, refl, sym, ap, ◌∙◌}
use mathlib.Core.Bool.{Bool, true, false}
use mathlib.Core.List.{List}
use lib.ListN.{length, take, drop, drop_of_length-le}
use lib.Seq.{take_all}
use lib.Dec.{ltb}
use borrow.Author.Tests.{ltb-true, ltb-false}

module _ (l : List ℕ) (k n : ℕ) where
  pub take_least : n ≡ min k (length l) → take n l ≡ take k l
  take_least e = go (ltb (length l) k) refl
    where
      go : (b : Bool) → ltb (length l) k ≡ b → take n l ≡ take k l
      go true q =
          let h = ltb-true (length l) k q in
          take_all n l (omega arith) ∙ sym (take_all k l (omega arith))
      go false q =
          let h = ltb-false (length l) k q in
          let z : n ≡ k = omega arith in
          ap (λ (j : ℕ). take j l) z

  pub drop_least : n ≡ min k (length l) → drop n l ≡ drop k l
  drop_least e = go (ltb (length l) k) refl
    where
      go : (b : Bool) → ltb (length l) k ≡ b → drop n l ≡ drop k l
      go true q =
          let h = ltb-true (length l) k q in
          drop_of_length-le l {i = n} (omega arith) ∙ sym (drop_of_length-le l {i = k} (omega arith))
      go false q =
          let h = ltb-false (length l) k q in
          let z : n ≡ k = omega arith in
          ap (λ (j : ℕ). drop j l) z
