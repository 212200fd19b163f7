-- A block's data laid into the area, part by part: the parts in their order are the area, and so are the three pages of v1 over zeros.
use Prim.Native.Nat.{ℕ, ◌+◌, ◌-◌, ◌≤◌, min}
use native.Mathlib.Omega.{arith}
use mathlib.Core.Path.{◌≡◌, refl, sym, ap, ◌∙◌}
use mathlib.Core.List.{List, [], ◌++◌, append_assoc, append-nil}
use lib.ListN.{length, take, drop, replicate, length-append, length-take, length-drop, length-replicate, replicate-append-replicate, drop_of_length-le}
use lib.Seq.{take_all, take_at, drop_at, drop-drop}
use borrow.Rule.Slice.PartMut.{put_mid, mid_of}
use Rattle.slices.specs.Put.{put}
use Rattle.slices.specs.Blank.{blank}
use Rattle.slices.proofs.Puts.{put-put, put_zero}
use Rattle.pages.specs.declared.Model.{Model}
use Rattle.pages.specs.declared.Model.TheVariants.{K48, K128}
use Rattle.body_v1.specs.Body.{spread}
use Rattle.scs_blocks.specs.ScsBlocks.{zero_filled}
use Rattle.scs_blocks.proofs.ScsLeast.{drop_least}
use Rattle.scs_blocks.proofs.ScsFilled.{filled_long, filled_part}
use Rattle.scs_memory.specs.ScsMemory.{scs_memory}

-- a part of so many bytes, replaced by as many
mid_put : (d l : List ℕ) (i n : ℕ) → length l ≡ n → put_mid i n d l ≡ put d i l
unfolding put
mid_put d l i n e = rw (e, drop-drop n i d)

mid_long : (d : List ℕ) (i n : ℕ) → i + n ≤ length d → length (mid_of i n d) ≡ n
mid_long d i n h = simp (length-take, length-drop) (omega arith)

pub part_cleared : (d l : List ℕ) (from to : ℕ) → from ≤ to → to ≤ length d → l ≡ replicate (length (mid_of from (to - from) d)) 0
    → put_mid from (to - from) d l ≡ put d from (replicate (to - from) 0)
part_cleared d l from to h k e =
    let q : l ≡ replicate (to - from) 0 = e ∙ ap (λ (n : ℕ). replicate n 0) (mid_long d from (to - from) (omega arith)) in
    rw q (mid_put d (replicate (to - from) 0) from (to - from) (length-replicate (to - from) 0))

-- the data from a place on; past their end there are none
data_from : (src : List ℕ) (k from : ℕ) → from ≡ min k (length src) → take (length src - from) (drop from src) ≡ drop k src
data_from src k from e = take_all (length src - from) (drop from src) (simp length-drop (omega arith)) ∙ drop_least src k from e

pub page_loaded : (src d l : List ℕ) (k from base : ℕ) → from ≡ min k (length src) → base + 16384 ≤ length d
    → l ≡ zero_filled (length (mid_of base (base + 16384 - base) d)) (take (length src - from) (drop from src))
    → put_mid base (base + 16384 - base) d l ≡ put d base (zero_filled 16384 (drop k src))
page_loaded src d l k from base e h q =
    let z : base + 16384 - base ≡ 16384 = omega arith in
    let p : l ≡ zero_filled 16384 (drop k src) = q ∙ (λ i. zero_filled ((mid_long d base (base + 16384 - base) (omega arith) ∙ z) i) (data_from src k from e i)) in
    rw p (mid_put d (zero_filled 16384 (drop k src)) base (base + 16384 - base) (filled_long 16384 (drop k src) ∙ sym z))

-- six parts put one after the other
six_parts : (d a b c e f g : List ℕ) → length a ≡ 16384 → length b ≡ 16384 → length c ≡ 16384 → length e ≡ 32768 → length f ≡ 16384 → length g ≡ 32768
    → length d ≡ 131072 → put (put (put (put (put (put d 0 a) 16384 b) 32768 c) 49152 e) 81920 f) 98304 g ≡ a ++ (b ++ (c ++ (e ++ (f ++ g))))
six_parts d a b c e f g ha hb hc he hf hg h =
    rw (
      put-put d a b 0 16384 (omega arith) (omega arith),
      put-put d (a ++ b) c 0 32768 (simp length-append (omega arith)) (omega arith),
      put-put d ((a ++ b) ++ c) e 0 49152 (simp length-append (omega arith)) (omega arith),
      put-put d (((a ++ b) ++ c) ++ e) f 0 81920 (simp length-append (omega arith)) (omega arith),
      put-put d ((((a ++ b) ++ c) ++ e) ++ f) g 0 98304 (simp length-append (omega arith)) (omega arith),
    )
    (put_zero d (((((a ++ b) ++ c) ++ e) ++ f) ++ g) 131072 (simp length-append (omega arith))
    ∙ ap (λ (l : List ℕ). (((((a ++ b) ++ c) ++ e) ++ f) ++ g) ++ l) (drop_of_length-le d {i = 131072} (omega arith))
    ∙ append-nil (((((a ++ b) ++ c) ++ e) ++ f) ++ g)
    ∙ simp append_assoc)

blank_join : (n m : ℕ) → blank n ++ blank m ≡ blank (n + m)
unfolding blank
blank_join n m = replicate-append-replicate n m 0

blank_count : (n : ℕ) → length (blank n) ≡ n
unfolding blank
blank_count n = length-replicate n 0

-- a piece of n bytes put over zeros, with something behind them
blank_put : (m a n : ℕ) (p t : List ℕ) → length p ≡ n → a + n ≤ m → put (blank m ++ t) a p ≡ blank a ++ (p ++ (blank (m - (a + n)) ++ t))
unfolding put
blank_put m a n p t e h =
    let x = blank (m - (a + n)) ++ t in
    let k : a + (n + (m - (a + n))) ≡ m = omega arith in
    let z : blank m ++ t ≡ blank a ++ (blank n ++ x) =
    ap (λ (l : List ℕ). l ++ t) (sym (ap (λ (l : List ℕ). blank a ++ l) (blank_join n (m - (a + n))) ∙ blank_join a (n + (m - (a + n))) ∙ ap blank k))
    ∙ append_assoc (blank a) (blank n ++ blank (m - (a + n))) t
    ∙ ap (λ (l : List ℕ). blank a ++ l) (append_assoc (blank n) (blank (m - (a + n))) t) in
    let d : drop (a + length p) (blank a ++ (blank n ++ x)) ≡ x =
    ap (λ (j : ℕ). drop (a + j) (blank a ++ (blank n ++ x))) e
    ∙ sym (drop-drop n a (blank a ++ (blank n ++ x)))
    ∙ ap (drop n) (drop_at (blank a) (blank n ++ x) a (blank_count a))
    ∙ drop_at (blank n) x n (blank_count n) in
    rw z (λ i. take_at (blank a) (blank n ++ x) a (blank_count a) i ++ (p ++ d i))

blank_0 : (l : List ℕ) → blank 0 ++ l ≡ l
unfolding blank
blank_0 l = refl

-- the three pages of v1 over zeros, in the order of the area
spread_parts : (xs : List ℕ) → length xs ≡ 49152
    → spread (blank 131072) xs ≡ take 16384 (drop 32768 xs) ++ (blank 16384 ++ (take 16384 (drop 16384 xs) ++ (blank 32768 ++ (take 16384 (drop 0 xs) ++ blank 32768))))
unfolding spread
spread_parts xs l =
    let p0 = take 16384 (drop 32768 xs) in
    let p2 = take 16384 (drop 16384 xs) in
    let p5 = take 16384 (drop 0 xs) in
    let long : (k : ℕ) → k + 16384 ≤ 49152 → length (take 16384 (drop k xs)) ≡ 16384 = λ k h. simp (length-take, length-drop) (omega arith) in
    ap (λ (d : List ℕ). put (put (put d 81920 p5) 32768 p2) 0 p0) (sym (append-nil (blank 131072)))
    ∙ ap (λ (d : List ℕ). put (put d 32768 p2) 0 p0) (blank_put 131072 81920 16384 p5 [] (long 0 (omega arith)) (omega arith))
    ∙ ap (λ (d : List ℕ). put d 0 p0) (blank_put 81920 32768 16384 p2 _ (long 16384 (omega arith)) (omega arith))
    ∙ blank_put 32768 0 16384 p0 _ (long 32768 (omega arith)) (omega arith)
    ∙ blank_0 _
    ∙ ap (λ (d : List ℕ). p0 ++ (blank 16384 ++ (p2 ++ (blank 32768 ++ (p5 ++ d))))) (append-nil (blank 32768))

pub loaded_48k : (src area a b c d e f : List ℕ) → length area ≡ 131072
    → a ≡ put area 0 (zero_filled 16384 (drop 32768 src)) → b ≡ put a 16384 (replicate 16384 0)
    → c ≡ put b 32768 (zero_filled 16384 (drop 16384 src)) → d ≡ put c 49152 (replicate 32768 0)
    → e ≡ put d 81920 (zero_filled 16384 (drop 0 src)) → f ≡ put e 98304 (replicate 32768 0) → f ≡ scs_memory K48 src
unfolding scs_memory blank
loaded_48k src area a b c d e f l ha hb hc hd he hf =
    let page : (k : ℕ) → k + 16384 ≤ 49152 → zero_filled 16384 (drop k src) ≡ take 16384 (drop k (zero_filled 49152 src)) = λ k h. sym (filled_part 49152 16384 k src h) in
    let long : (k : ℕ) → length (zero_filled 16384 (drop k src)) ≡ 16384 = λ k. filled_long 16384 (drop k src) in
    rw (hf, he, hd, hc, hb, ha)
    (six_parts area _ _ _ _ _ _ (long 32768) (length-replicate {A = ℕ} 16384 0) (long 16384) (length-replicate {A = ℕ} 32768 0) (long 0) (length-replicate {A = ℕ} 32768 0) l
    ∙ (λ i. page 32768 (omega arith) i ++ (blank 16384 ++ (page 16384 (omega arith) i ++ (blank 32768 ++ (page 0 (omega arith) i ++ blank 32768)))))
    ∙ sym (spread_parts (zero_filled 49152 src) (filled_long 49152 src)))

module _ (model : Model) (src area after : List ℕ) where
  pub loads_48 : model ≡ K48 → after ≡ scs_memory K48 src → after ≡ scs_memory model src
  loads_48 e h = rw e h

  pub loads_128 : model ≡ K128 → length area ≡ 131072 → after ≡ zero_filled (length area) src → after ≡ scs_memory model src
  unfolding scs_memory
  loads_128 e l h = rw e (h ∙ ap (λ (n : ℕ). zero_filled n src) l)
