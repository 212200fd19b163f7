-- Laws of bytes written over others.
use Prim.Native.Nat.{ℕ, ◌+◌, ◌-◌, ◌≤◌, ◌<◌}
use native.Mathlib.Nat.{add_assoc, zero-add, add-sub_cancel_left}
use native.Mathlib.Omega.{arith}
use mathlib.Core.Path.{◌≡◌, sym, ap, ◌∙◌}
use mathlib.Core.List.{List, ◌++◌, append_assoc, append-nil}
use lib.ListN.{length, get_or, take, drop, length-append, length-drop, drop_of_length-le, get_or-append}
use lib.Seq.{get_or-drop, get_or-take, get_or-append-add, take_all, take-length, length-take-le, take_at, drop_at, drop-drop}
use borrow.Rule.Slice.PartMut.{put_mid, mid_of, Post-is}
use Rattle.slices.specs.Put.{put}

-- what a copy into the part from i on leaves
pub put_is : (d src l : List ℕ) (i : ℕ) → i + length src ≤ length d
    → l ≡ take (length src) src ++ drop (length src) (mid_of i (length d - i) d) → put_mid i (length d - i) d l ≡ put d i src
unfolding put
put_is d src l i h q =
    let e : length (drop i d) ≡ length d - i = length-drop i d in
    rw (q, take-length src, take_all (length d - i) (drop i d) (omega arith), drop_of_length-le (drop i d) {i = length d - i} (omega arith), append-nil, drop-drop)

-- what a copy into the part from i on leaves, where the part is as long as what is copied
pub put_span : (d src l : List ℕ) (i : ℕ) → l ≡ src → put_mid i (i + length src - i) d l ≡ put d i src
unfolding put
put_span d src l i e =
    ap (λ (z : List ℕ). take i d ++ (l ++ z)) (Post-is i (i + length src) d (omega arith))
    ∙ ap (λ (z : List ℕ). take i d ++ (z ++ drop (i + length src) d)) e

pub length-put : (d src : List ℕ) (i : ℕ) → i + length src ≤ length d → length (put d i src) ≡ length d
unfolding put
length-put d src i h =
    let t : length (take i d) ≡ i = length-take-le i d (omega arith) in
    simp (length-append, length-drop) (omega arith)

-- two pieces written one after the other are one piece
pub put-put : (d p q : List ℕ) (i n : ℕ) → i + length p ≡ n → n ≤ length d → put (put d i p) n q ≡ put d i (p ++ q)
unfolding put
put-put d p q i n e h =
    let k : length (take i d ++ p) ≡ n = length-append (take i d) p ∙ ap (λ (m : ℕ). m + length p) (length-take-le i d (omega arith)) ∙ e in
    rw (
      ← append_assoc (take i d) p (drop (i + length p) d),
      take_at (take i d ++ p) (drop (i + length p) d) n k,
      ← drop-drop (length q) n ((take i d ++ p) ++ drop (i + length p) d),
      drop_at (take i d ++ p) (drop (i + length p) d) n k,
      drop-drop,
    )
    (simp (append_assoc, length-append, add_assoc))

pub put_zero : (d l : List ℕ) (n : ℕ) → length l ≡ n → put d 0 l ≡ l ++ drop n d
unfolding put
put_zero d l n q = ap (λ (m : ℕ). l ++ drop m d) (zero-add (length l) ∙ q)

-- a part of a slice, copied over an array of its length, is the array
over_all : (n : ℕ) (p t : List ℕ) → length p ≡ n → length t ≡ n → take (length p) p ++ drop (length p) t ≡ p
over_all n p t h k = rw (take-length, drop_of_length-le t {i = length p} (omega arith), append-nil)

pub part_copied : (n from : ℕ) (s t : List ℕ) → from + n ≤ length s → length t ≡ n
    → take (length (take (from + n - from) (drop from s))) (take (from + n - from) (drop from s)) ++ drop (length (take (from + n - from) (drop from s))) t ≡ take n (drop from s)
part_copied n from s t h k =
    rw (add-sub_cancel_left from n) (over_all n (take n (drop from s)) t (length-take-le n (drop from s) (simp length-drop (omega arith))) k)

-- what stands before and in a piece that was written
pub take_put : (d p : List ℕ) (i : ℕ) → i ≤ length d → take (i + length p) (put d i p) ≡ take i d ++ p
unfolding put
take_put d p i h =
    ap (take (i + length p)) (sym (append_assoc (take i d) p (drop (i + length p) d)))
    ∙ take_at (take i d ++ p) (drop (i + length p) d) (i + length p) (length-append (take i d) p ∙ ap (λ (m : ℕ). m + length p) (length-take-le i d h))

-- bytes before, in and after a piece that was written
module _ (a p : List ℕ) (b : ℕ) (h : b + length p ≤ length a) where
  front_long : length (take b a) ≡ b
  front_long = length-take-le b a (omega arith)

  pub put_below : (i : ℕ) → i < b → get_or (put a b p) i 0 ≡ get_or a i 0
  unfolding put
  put_below i q = get_or-append (take b a) _ 0 i (omega (arith, front_long)) ∙ get_or-take b a i 0 q

  past_front : (j : ℕ) → get_or (put a b p) (b + j) 0 ≡ get_or (p ++ drop (b + length p) a) j 0
  unfolding put
  past_front j = ap (λ (n : ℕ). get_or (put a b p) (n + j) 0) (sym front_long) ∙ get_or-append-add (take b a) (p ++ drop (b + length p) a) j 0

  pub put_in : (j : ℕ) → j < length p → get_or (put a b p) (b + j) 0 ≡ get_or p j 0
  put_in j q = past_front j ∙ get_or-append p _ 0 j q

  pub put_above : (j : ℕ) → get_or (put a b p) (b + (length p + j)) 0 ≡ get_or a (b + length p + j) 0
  put_above j = past_front (length p + j) ∙ get_or-append-add p _ j 0 ∙ get_or-drop (b + length p) a j 0
