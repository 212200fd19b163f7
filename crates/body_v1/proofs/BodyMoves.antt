-- A packed v1 body: unpacked into pages 5, 6 and 7 of an area of zeros, and its second and third page moved to their places.
use Prim.Native.Nat.{ℕ, ◌+◌, ◌-◌, ◌≤◌, ◌<◌}
use native.Mathlib.Numerals.{add-one}
use native.Mathlib.Omega.{arith}
use mathlib.Core.Path.{◌≡◌, refl, sym, ap, ◌∙◌}
use mathlib.Core.Bool.{Bool, true, false}
use mathlib.Core.List.{List, ◌++◌, append_assoc, append-nil}
use lib.Dec.{eqb}
use borrow.Author.Tests.{eq-eqb}
use Rattle.slices.specs.Choose.{choose}
use lib.ListN.{length, get_or, take, drop, set, replicate, length-append, length-drop, length-set, length-replicate, replicate-append-replicate, take-append-drop}
use lib.Seq.{
  paste,
  paste-zero,
  paste-suc,
  drop-paste,
  length-take-le,
  take_all,
  get_or-drop,
  take_at,
  drop_at,
  drop-append-add,
  take-append-le,
  drop-append-le,
  drop-drop,
  drop-length,
}
use borrow.Rule.Slice.PartMut.{put_mid, mid_of, Post-is, mid_len, put_same}
use Rattle.slices.specs.Blank.{blank}
use Rattle.slices.specs.Put.{put}
use Rattle.slices.proofs.Puts.{length-put}
use Rattle.packed.specs.Packed.{Found, malformed, bytes}
use Rattle.packed.specs.Unpacking.{Unpacks, length_counted, answer_of}
use Rattle.packed.specs.declared.Unpacked.{Unpacked}
use Rattle.packed.specs.declared.Unpacked.TheVariants.{Good, WrongLength, Malformed}
use Rattle.body_v1.specs.Body.{spread}
use Rattle.body_v1.specs.Inner.{page_moved, top_cleared, settled, pages_from, FillsPages}
use Rattle.blocks.specs.Blocks.{ZerosLent}
use Rattle.block_read.proofs.Answers.{good_is, refused_zeros}

-- k bytes of the page at `from` stand at `to` too
pub record Shifted (d : List ℕ) (from to : ℕ) (a : List ℕ) (k : ℕ) : Type 0 where
  pub reach : k ≤ 16384
  pub long : length a ≡ length d
  pub is : a ≡ paste d to (drop from d) k

pub shifted_none : (d : List ℕ) (from to : ℕ) → Shifted d from to d 0
shifted_none d from to = record { reach = omega arith; long = refl; is = paste-zero d to (drop from d) }

module _ (d : List ℕ) (from to : ℕ) (h : to + 16384 ≤ from) (l : from + 16384 ≤ length d) where
  pub shifted_more : (a : List ℕ) (k : ℕ) → Shifted d from to a k → k < 16384 → Shifted d from to (set a (to + k) (get_or a (from + k) 0)) (k + 1)
  shifted_more a k g q =
      let s = drop from d in
      let p = paste d to s k in
      let n = length-drop from d in
      let m = from - to in
      let e : from + k ≡ to + k + m = omega arith in
      let v : get_or a (from + k) 0 ≡ get_or s k 0 =
      ap (λ (x : List ℕ). get_or x (from + k) 0) g.is
      ∙ ap (λ (i : ℕ). get_or p i 0) e
      ∙ sym (get_or-drop (to + k) p m 0)
      ∙ ap (λ (x : List ℕ). get_or x m 0) (drop-paste d to s k (omega arith) (omega arith))
      ∙ get_or-drop (to + k) d m 0
      ∙ ap (λ (i : ℕ). get_or d i 0) (sym e)
      ∙ sym (get_or-drop from d k 0) in
      record {
        reach = omega arith;
        long = length-set a (to + k) _ ∙ g.long;
        is = ap (λ (x : ℕ). set a (to + k) x) v ∙ ap (λ (x : List ℕ). set x (to + k) (get_or s k 0)) g.is ∙ paste-suc d to s k 0 (omega arith) (omega arith)
            ∙ ap (paste d to s) (sym (add-one k));
      }

  pub shifted_all : (a : List ℕ) (k : ℕ) → Shifted d from to a k → 16384 ≤ k → a ≡ page_moved d from to
  unfolding put page_moved
  shifted_all a k g q =
      let s = drop from d in
      let r = g.reach in
      let n = length-drop from d in
      let e : k ≡ 16384 = omega arith in
      let t : length (take 16384 s) ≡ 16384 = length-take-le 16384 s (omega arith) in
      g.is ∙ ap (paste d to s) e ∙ append_assoc (take to d) (take 16384 s) (drop (to + 16384) d)
      ∙ ap (λ (i : ℕ). take to d ++ (take 16384 s ++ drop (to + i) d)) (sym t)

pub top_cleared_lem : (a b : List ℕ) → b ≡ take 98304 a ++ replicate (length a - 98304) 0 → b ≡ top_cleared a
unfolding top_cleared
top_cleared_lem a b e = e

pub settle_is : (a b c d : List ℕ) → b ≡ page_moved a 98304 32768 → c ≡ page_moved b 114688 0 → d ≡ top_cleared c → d ≡ settled a
unfolding settled
settle_is a b c d p q r = rw (r, q, p)

-- bytes written within the front of a list
put_in_front : (x y s : List ℕ) (at : ℕ) → at + length s ≤ length x → put (x ++ y) at s ≡ put x at s ++ y
unfolding put
put_in_front x y s at h = rw (take-append-le at x y (omega arith), drop-append-le (at + length s) x y h) (simp append_assoc)

end_zeros : (b : List ℕ) (n m k : ℕ) → b ≡ blank (n + m) → k ≡ m → replicate k 0 ≡ drop n b
unfolding blank
end_zeros b n m k e h =
    ap (λ (i : ℕ). replicate i 0) h
    ∙ sym (ap (drop n) (e ∙ sym (replicate-append-replicate n m 0)) ∙ drop_at (replicate n 0) (replicate m 0) n (length-replicate n 0))

module _ (b xs : List ℕ) (lb : length b ≡ 131072) (eb : b ≡ blank 131072) (lx : length xs ≡ 49152) where
  up_to_first : List ℕ
  up_to_first = take 81920 b ++ take 16384 xs

  last_two : List ℕ
  last_two = drop 16384 xs

  long_page : (s : List ℕ) → 16384 ≤ length s → length (take 16384 s) ≡ 16384
  long_page s = length-take-le 16384 s

  long_front : length up_to_first ≡ 98304
  unfolding up_to_first
  long_front = let p = length-take-le 81920 b (omega arith) in let q = long_page xs (omega arith) in simp length-append (omega arith)

  long_back : length last_two ≡ 32768
  unfolding last_two
  long_back = simp length-drop (omega arith)

  unpacked_in : put_mid 81920 (length b - 81920) b xs ≡ up_to_first ++ last_two
  unfolding up_to_first last_two
  unpacked_in =
      ap (λ (z : List ℕ). take 81920 b ++ (xs ++ z)) (Post-is 81920 (length b) b (omega arith) ∙ drop-length b)
      ∙ ap (λ (z : List ℕ). take 81920 b ++ z) (append-nil xs ∙ sym (take-append-drop 16384 xs))
      ∙ sym (append_assoc (take 81920 b) (take 16384 xs) (drop 16384 xs))

  second : List ℕ
  second = put up_to_first 32768 (take 16384 last_two)

  long_second : length second ≡ 98304
  unfolding second
  long_second = let f = long_front in let p = long_page last_two (omega (arith, long_back)) in length-put up_to_first (take 16384 last_two) 32768 (omega arith) ∙ f

  third : List ℕ
  third = put second 0 (take 16384 (drop 16384 last_two))

  long_rest : length (take 16384 (drop 16384 last_two)) ≡ 16384
  long_rest = long_page (drop 16384 last_two) (omega (arith, long_back, length-drop 16384 last_two))

  long_third : length third ≡ 98304
  unfolding third
  long_third = let f = long_second in let p = long_rest in length-put second (take 16384 (drop 16384 last_two)) 0 (omega arith) ∙ f

  moved_second : page_moved (up_to_first ++ last_two) 98304 32768 ≡ second ++ last_two
  unfolding second page_moved
  moved_second =
      let f = long_front in
      let p = long_page last_two (omega (arith, long_back)) in
      ap (λ (z : List ℕ). put (up_to_first ++ last_two) 32768 (take 16384 z)) (drop_at up_to_first last_two 98304 long_front) ∙ put_in_front up_to_first last_two (take 16384 last_two) 32768 (omega arith)

  moved_third : page_moved (second ++ last_two) 114688 0 ≡ third ++ last_two
  unfolding third page_moved
  moved_third =
      let f = long_second in
      let p = long_rest in
      ap (λ (z : List ℕ). put (second ++ last_two) 0 (take 16384 z)) (ap (λ (n : ℕ). drop (n + 16384) (second ++ last_two)) (sym long_second) ∙ drop-append-add second last_two 16384)
      ∙ put_in_front second last_two (take 16384 (drop 16384 last_two)) 0 (omega arith)

  -- the same bytes written over zeros one by one
  first_written : put b 81920 (take 16384 xs) ≡ up_to_first ++ drop 98304 b
  unfolding put up_to_first
  first_written =
      ap (λ (n : ℕ). take 81920 b ++ (take 16384 xs ++ drop (81920 + n) b)) (long_page xs (omega arith))
      ∙ sym (append_assoc (take 81920 b) (take 16384 xs) (drop 98304 b))

  second_written : put (up_to_first ++ drop 98304 b) 32768 (take 16384 (drop 16384 xs)) ≡ second ++ drop 98304 b
  unfolding second last_two
  second_written =
      let f = long_front in
      let p = long_page last_two (omega (arith, long_back)) in
      put_in_front up_to_first (drop 98304 b) (take 16384 (drop 16384 xs)) 32768 (omega arith)

  third_written : put (second ++ drop 98304 b) 0 (take 16384 (drop 32768 xs)) ≡ third ++ drop 98304 b
  unfolding third last_two
  third_written =
      let f = long_second in
      let p = long_rest in
      ap (λ (z : List ℕ). put (second ++ drop 98304 b) 0 (take 16384 z)) (sym (drop-drop 16384 16384 xs))
      ∙ put_in_front second (drop 98304 b) (take 16384 (drop 16384 (drop 16384 xs))) 0 (omega arith)

  spread_is : spread b xs ≡ third ++ drop 98304 b
  unfolding spread
  spread_is =
      ap (λ (z : List ℕ). put (put z 32768 (take 16384 (drop 16384 xs))) 0 (take 16384 (drop 32768 xs))) first_written
      ∙ ap (λ (z : List ℕ). put z 0 (take 16384 (drop 32768 xs))) second_written
      ∙ third_written

  zeros_on_top : top_cleared (third ++ last_two) ≡ third ++ drop 98304 b
  unfolding top_cleared
  zeros_on_top =
      let n : length (third ++ last_two) - 98304 ≡ 32768 = omega (arith, length-append third last_two, long_third, long_back) in
      ap (λ (z : List ℕ). z ++ replicate (length (third ++ last_two) - 98304) 0) (take_at third last_two 98304 long_third)
      ∙ ap (λ (z : List ℕ). third ++ z) (end_zeros b 98304 32768 (length (third ++ last_two) - 98304) eb n)

  pub settled_is : (a : List ℕ) → a ≡ settled (put_mid 81920 (length b - 81920) b xs) → a ≡ spread b xs
  unfolding settled
  settled_is a e =
      e
      ∙ ap settled unpacked_in
      ∙ ap (λ (z : List ℕ). top_cleared (page_moved z 114688 0)) moved_second
      ∙ ap top_cleared moved_third
      ∙ zeros_on_top
      ∙ sym spread_is

-- the answers of unpacking into pages 5, 6 and 7
module _ (u : Found) (area : List ℕ) (r : Unpacked) (body : List ℕ) (h : Unpacks u (length (mid_of 81920 (length area - 81920) area)) r body) (l : length area ≡ 131072) (lent : ZerosLent area) where
  area_zeros : area ≡ blank 131072
  area_zeros = lent.zeros l

  body_room : length (mid_of 81920 (length area - 81920) area) ≡ 49152
  body_room = mid_len 81920 (length area) area (omega arith) ∙ omega arith

  answer_is : r ≡ answer_of u 49152
  answer_is = h.answer ∙ ap (answer_of u) body_room

  pub pages_good : (after : List ℕ) → r ≡ Good → after ≡ settled (put_mid 81920 (length area - 81920) area body) → FillsPages u (length area) Good after
  pages_good after e q =
      let w = good_is u _ 49152 r body h body_room e in
      record {
        answer = sym e ∙ answer_is;
        memory = λ _. rw (w.0, eq-eqb (length body) 49152 w.1) (settled_is area body l area_zeros w.1 after q ∙ ap (λ (a : List ℕ). spread a body) area_zeros);
      }

  -- zeros written over zeros
  still_zero : (r ≡ Good → ⊥) → put_mid 81920 (length area - 81920) area body ≡ blank 131072
  still_zero e =
      let part : body ≡ mid_of 81920 (length area - 81920) area =
      refused_zeros u _ r body h e
      ∙ end_zeros area 81920 49152 _ area_zeros body_room
      ∙ sym (take_all (length area - 81920) (drop 81920 area) (omega (arith, length-drop 81920 area))) in
      ap (put_mid 81920 (length area - 81920) area) part ∙ put_same 81920 (length area - 81920) area ∙ area_zeros

  pages_refused : (r ≡ Good → ⊥) → FillsPages u (length area) r (put_mid 81920 (length area - 81920) area body)
  pages_refused e = record { answer = answer_is; memory = λ _. still_zero e ∙ sym (go u (λ q. e (answer_is ∙ q))) }
    where
      go : (u : Found) → (answer_of u 49152 ≡ Good → ⊥) → pages_from u ≡ blank 131072
      go (malformed i) f = refl
      go (bytes xs) f = two (eqb (length xs) 49152) f
        where
          two : (t : Bool) → (choose t Good (WrongLength (length_counted (length xs))) ≡ Good → ⊥) → choose t (spread (blank 131072) xs) (blank 131072) ≡ blank 131072
          two true f = absurd (f refl)
          two false f = refl

  pub pages_malformed : (i : ℕ) → r ≡ Malformed i → FillsPages u (length area) (Malformed i) (put_mid 81920 (length area - 81920) area body)
  pages_malformed i e = rw e at (pages_refused (λ g. let z : ◌≡◌ {A = ℕ} 0 1 = cc in omega arith))

  pub pages_wrong : (n : ℕ) → r ≡ WrongLength n → FillsPages u (length area) (WrongLength n) (put_mid 81920 (length area - 81920) area body)
  pages_wrong n e = rw e at (pages_refused (λ g. let z : ◌≡◌ {A = ℕ} 0 1 = cc in omega arith))

pub pages_none : (u : Found) (area : List ℕ) (r : Unpacked) → (length area ≡ 131072 → ⊥) → r ≡ answer_of u 49152 → FillsPages u (length area) r area
pages_none u area r h e = record { answer = e; memory = λ l. absurd (h l) }
