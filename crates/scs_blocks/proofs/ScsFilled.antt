-- The bytes that are due of a block's data: how many they are, and each of them.
use Prim.Native.Nat.{ℕ, ◌+◌, ◌-◌, ◌<◌, ◌≤◌}
use native.Mathlib.Omega.{arith}
use mathlib.Core.Path.{◌≡◌, refl, sym, ap, ◌∙◌}
use mathlib.Core.Bool.{Bool, true, false}
use mathlib.Core.List.{List, ◌++◌, append-nil}
use lib.ListN.{length, get_or, take, drop, replicate, length-append, length-take, length-drop, length-replicate, get_or-replicate, get_or-eq_default, get_or-append}
use lib.Seq.{get_or-take, get_or-drop, get_or-append-add, take_all, ext_get_or}
use lib.Dec.{ltb}
use borrow.Author.Tests.{ltb-true, ltb-false}
use Rattle.scs_blocks.specs.ScsBlocks.{zero_filled}

pub filled_long : (n : ℕ) (xs : List ℕ) → length (zero_filled n xs) ≡ n
unfolding zero_filled
filled_long n xs = simp (length-append, length-take, length-replicate) (omega arith)

-- what is missing reads as zero, as it does in the data themselves
pub filled_at : (n : ℕ) (xs : List ℕ) (i : ℕ) → i < n → get_or (zero_filled n xs) i 0 ≡ get_or xs i 0
unfolding zero_filled
filled_at n xs i h = go (ltb i (length xs)) refl
  where
    l : length (take n xs) ≡ length xs → length xs ≤ i → get_or (take n xs ++ replicate (n - length xs) 0) i 0 ≡ get_or xs i 0
    l e k =
        let j : length (take n xs) + (i - length xs) ≡ i = omega arith in
        ap (λ (m : ℕ). get_or (take n xs ++ replicate (n - length xs) 0) m 0) (sym j)
        ∙ get_or-append-add (take n xs) (replicate (n - length xs) 0) (i - length xs) 0
        ∙ get_or-replicate (n - length xs) (i - length xs) 0 0 (omega arith)
        ∙ sym (get_or-eq_default xs 0 k)

    go : (b : Bool) → ltb i (length xs) ≡ b → get_or (take n xs ++ replicate (n - length xs) 0) i 0 ≡ get_or xs i 0
    go true e =
        let k = ltb-true i (length xs) e in
        get_or-append (take n xs) (replicate (n - length xs) 0) 0 i (simp length-take (omega arith)) ∙ get_or-take n xs i 0 h
    go false e = let k = ltb-false i (length xs) e in l (simp length-take (omega arith)) k

-- data that are as long as is due are taken as they are
pub filled_whole : (n : ℕ) (xs : List ℕ) → length xs ≡ n → zero_filled n xs ≡ xs
unfolding zero_filled
filled_whole n xs e =
    let z : n - length xs ≡ 0 = omega arith in
    rw z (append-nil (take n xs) ∙ take_all n xs (omega arith))

-- a part of them is due of the data from there on
pub filled_part : (m n k : ℕ) (xs : List ℕ) → k + n ≤ m → take n (drop k (zero_filled m xs)) ≡ zero_filled n (drop k xs)
filled_part m n k xs h =
    let l : length (take n (drop k (zero_filled m xs))) ≡ n = simp (length-take, length-drop, filled_long m xs) (omega arith) in
    ext_get_or 0 _ _ (l ∙ sym (filled_long n (drop k xs)))
    (λ i q.
    get_or-take n (drop k (zero_filled m xs)) i 0 (omega arith)
    ∙ get_or-drop k (zero_filled m xs) i 0
    ∙ filled_at m xs (k + i) (omega arith)
    ∙ sym (get_or-drop k xs i 0)
    ∙ sym (filled_at n (drop k xs) i (omega arith)))
