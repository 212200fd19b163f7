-- What a store leaves.
use Prim.Native.Nat.{ℕ, ◌+◌, ◌-◌, ◌≤◌, ◌<◌}
use native.Mathlib.Nat.{add-zero}
use native.Mathlib.Numerals.{towards_suc}
use native.Mathlib.Omega.{arith}
use mathlib.Core.Path.{◌≡◌, refl, sym, ap, subst, ◌∙◌}
use mathlib.Core.List.{List, [], ◌∷◌, ◌++◌, append_assoc}
use lib.ListN.{length, get_or, take, drop, set, replicate, length-append, length-drop, length-replicate, replicate-append-replicate, take-append-drop}
use lib.Seq.{drop-append-add, get_or-drop, get_or-take, take_at, take-take, take-add, drop-drop, length-take-le, sets, sets-eq}
use borrow.Rule.Slice.PartMut.{put_mid, mid_of, post_of, mid_len, Post-is}
use Rattle.slices.specs.Put.{put}
use Rattle.slices.proofs.Puts.{length-put, take_put, put-put}

-- one byte after the other
sets_put : (d ws : List ℕ) (o : ℕ) → o + length ws ≤ length d → sets d o ws ≡ put d o ws
unfolding put
sets_put d ws o h = sets-eq ws d o h ∙ append_assoc (take o d) ws (drop (o + length ws) d)

pub put_1 : (d : List ℕ) (o v : ℕ) → o < length d → set d o v ≡ put d o (v ∷ [])
put_1 d o v h = sets_put d (v ∷ []) o (omega arith)

pub put_2 : (d : List ℕ) (o v w : ℕ) → o + 2 ≤ length d → set (set d o v) (o + 1) w ≡ put d o (v ∷ w ∷ [])
put_2 d o v w h = simp towards_suc (sets_put d (v ∷ w ∷ []) o h)

pub put_4 : (d : List ℕ) (o a b x y : ℕ) → o + 4 ≤ length d → set (set (set (set d o a) (o + 1) b) (o + 2) x) (o + 3) y ≡ put d o (a ∷ b ∷ x ∷ y ∷ [])
put_4 d o a b x y h = simp towards_suc (sets_put d (a ∷ b ∷ x ∷ y ∷ []) o h)

pub put_part : (d l : List ℕ) (o n v : ℕ) → o + n ≤ length d → l ≡ replicate (length (mid_of o (o + n - o) d)) v → put_mid o (o + n - o) d l ≡ put d o (replicate n v)
unfolding put
put_part d l o n v h e =
    let k : length (mid_of o (o + n - o) d) ≡ n = mid_len o (o + n) d h ∙ (omega arith) in
    let q : l ≡ replicate n v = e ∙ ap (λ (m : ℕ). replicate m v) k in
    ap (λ (x : List ℕ). take o d ++ (x ++ post_of o (o + n - o) d)) q
    ∙ ap (λ (x : List ℕ). take o d ++ (replicate n v ++ x)) (Post-is o (o + n) d (omega arith) ∙ ap (λ (m : ℕ). drop (o + m) d) (sym (length-replicate n v)))

-- the front of what was written: ws stands in d, which was d₀, from o on
pub record Stored (d₀ : List ℕ) (o : ℕ) (ws d : List ℕ) : Type 0 where
  pub long : length d ≡ length d₀
  pub wrote : take (o + length ws) d ≡ take o d₀ ++ ws

pub stored_put : (d₀ d ws : List ℕ) (o : ℕ) → o + length ws ≤ length d₀ → d ≡ put d₀ o ws → Stored d₀ o ws d
stored_put d₀ d ws o h e = rw e (record { long = length-put d₀ ws o h; wrote = take_put d₀ ws o (omega arith) })

-- of what was written, the front was
put_less : (d₀ d us vs : List ℕ) (o : ℕ) → o + length us ≤ length d₀ → Stored d₀ o (us ++ vs) d → Stored d₀ o us d
put_less d₀ d us vs o h p =
    let l : length (us ++ vs) ≡ length us + length vs = length-append us vs in
    record {
      long = p.long;
      wrote =
          sym (take-take (o + length us) (o + length (us ++ vs)) d (omega arith))
          ∙ ap (take (o + length us)) (p.wrote ∙ sym (append_assoc (take o d₀) us vs))
          ∙ take_at (take o d₀ ++ us) vs (o + length us) (length-append (take o d₀) us ∙ ap (λ (n : ℕ). n + length us) (length-take-le o d₀ (omega arith)));
    }

-- more of one byte was written: the first n of them
pub put_fewer : (d₀ d : List ℕ) (o n m v : ℕ) → n ≤ m → o + m ≤ length d₀ → Stored d₀ o (replicate m v) d → Stored d₀ o (replicate n v) d
put_fewer d₀ d o n m v k h p =
    let e : n + (m - n) ≡ m = omega arith in
    let q : replicate m v ≡ replicate n v ++ replicate (m - n) v = sym (replicate-append-replicate n (m - n) v ∙ ap (λ (i : ℕ). replicate i v) e) in
    put_less d₀ d (replicate n v) (replicate (m - n) v) o (omega (arith, length-replicate n v)) (subst (λ (l : List ℕ). Stored d₀ o l d) q p)

-- 16 bytes of s
pub at_block : (s b : List ℕ) (i j : ℕ) → b ≡ take 16 (drop i s) → j < 16 → get_or b j 0 ≡ get_or s (i + j) 0
at_block s b i j e h = ap (λ (x : List ℕ). get_or x j 0) e ∙ get_or-take 16 (drop i s) j 0 h ∙ get_or-drop i s j 0

pub block_long : (s b : List ℕ) (i n : ℕ) → i + n ≤ length s → b ≡ take n (drop i s) → length b ≡ n
block_long s b i n h e = ap length e ∙ length-take-le n (drop i s) (simp length-drop (omega arith))

-- of n bytes of s, the first k
pub put_front : (s : List ℕ) (i : ℕ) (d : List ℕ) (o n k : ℕ) (d' : List ℕ) → d' ≡ put d o (take n (drop i s)) → k ≤ n → i + n ≤ length s → o + n ≤ length d → Stored d o (take k (drop i s)) d'
put_front s i d o n k d' p few hs hd =
    let l : length (take k (drop i s)) ≡ k = length-take-le k (drop i s) (simp length-drop (omega arith)) in
    let m : k + (n - k) ≡ n = omega arith in
    let e : take n (drop i s) ≡ take k (drop i s) ++ take (n - k) (drop k (drop i s)) =
    ap (λ (x : ℕ). take x (drop i s)) (sym m) ∙ take-add k (n - k) (drop i s) in
    let w : length (take n (drop i s)) ≡ n = length-take-le n (drop i s) (simp length-drop (omega arith)) in
    put_less d d' (take k (drop i s)) (take (n - k) (drop k (drop i s))) o (omega arith)
    (subst (λ (ws : List ℕ). Stored d o ws d') e (stored_put d d' (take n (drop i s)) o (omega arith) p))

pub put_none : (d : List ℕ) (o : ℕ) → put d o [] ≡ d
unfolding put
put_none d o = ap (λ (n : ℕ). take o d ++ drop n d) (add-zero o) ∙ take-append-drop o d

-- so many bytes of s, and then more of them
pub put_more : (s : List ℕ) (i : ℕ) (d₀ d d' : List ℕ) (o n m : ℕ) → i + n ≤ length s → o + n ≤ length d₀ → d ≡ put d₀ o (take n (drop i s)) → d' ≡ put d (o + n) (take m (drop (i + n) s))
    → d' ≡ put d₀ o (take (n + m) (drop i s))
put_more s i d₀ d d' o n m h k x y =
    let l : length (take n (drop i s)) ≡ n = length-take-le n (drop i s) (simp length-drop (omega arith)) in
    let e : take n (drop i s) ++ take m (drop (i + n) s) ≡ take (n + m) (drop i s) =
    ap (λ (z : List ℕ). take n (drop i s) ++ take m z) (sym (drop-drop n i s)) ∙ sym (take-add n m (drop i s)) in
    y ∙ ap (λ (z : List ℕ). put z (o + n) (take m (drop (i + n) s))) x
    ∙ put-put d₀ (take n (drop i s)) (take m (drop (i + n) s)) o (o + n) (ap (λ (j : ℕ). o + j) l) k
    ∙ ap (put d₀ o) e

-- written again at the same place, as many bytes or more
put_again : (d b y : List ℕ) (p : ℕ) → p + length y ≤ length d → length b ≤ length y → put (put d p b) p y ≡ put d p y
unfolding put
put_again d b y p h few =
    let t : length (take p d) ≡ p = length-take-le p d (omega arith) in
    let l : length (take p d ++ b) ≡ p + length b = length-append (take p d) b ∙ ap (λ (n : ℕ). n + length b) t in
    let e : p + length y ≡ length (take p d ++ b) + (length y - length b) = omega arith in
    let g : p + length b + (length y - length b) ≡ p + length y = omega arith in
    let z : drop (p + length y) (take p d ++ (b ++ drop (p + length b) d)) ≡ drop (p + length y) d =
    ap (drop (p + length y)) (sym (append_assoc (take p d) b (drop (p + length b) d)))
    ∙ ap (λ (n : ℕ). drop n ((take p d ++ b) ++ drop (p + length b) d)) e
    ∙ drop-append-add (take p d ++ b) (drop (p + length b) d) (length y - length b)
    ∙ drop-drop (length y - length b) (p + length b) d
    ∙ ap (λ (n : ℕ). drop n d) g in
    (λ j. take_at (take p d) (b ++ drop (p + length b) d) p t j ++ (y ++ z j))

-- n + m bytes of s, and then k of them over the last m
pub put_over : (s : List ℕ) (i : ℕ) (d : List ℕ) (o n m k : ℕ) → i + n + k ≤ length s → o + n + k ≤ length d → m ≤ k
    → put (put d o (take (n + m) (drop i s))) (o + n) (take k (drop (i + n) s)) ≡ put d o (take (n + k) (drop i s))
put_over s i d o n m k hs hd few =
    let a = take n (drop i s) in
    let b = take m (drop (i + n) s) in
    let y = take k (drop (i + n) s) in
    let la = block_long s a i n (omega arith) refl in
    let lb = block_long s b (i + n) m (omega arith) refl in
    let ly = block_long s y (i + n) k (omega arith) refl in
    let ld : length (put d o a) ≡ length d = length-put d a o (omega arith) in
    ap (λ (l : List ℕ). put l (o + n) y) (sym (put_more s i d (put d o a) (put (put d o a) (o + n) b) o n m (omega arith) (omega arith) refl refl))
    ∙ put_again (put d o a) b y (o + n) (omega arith) (omega arith)
    ∙ put_more s i d (put d o a) (put (put d o a) (o + n) y) o n k (omega arith) (omega arith) refl refl
