-- One block: each way out of `write_block`.
use Prim.Native.Nat.{ℕ, ◌+◌, ◌-◌, ◌/◌, ◌%◌, ◌≤◌, ◌<◌, min}
use native.Mathlib.Omega.{arith}
use mathlib.Core.Path.{◌≡◌, sym, ap, subst, ◌∙◌}
use mathlib.Core.Bool.{Bool, true, false}
use mathlib.Core.List.{List, [], ◌∷◌, ◌++◌, append_assoc}
use lib.ListN.{length, take, drop, set, replicate, length-drop, replicate-append-replicate}
use lib.Seq.{take_at, drop_at, take-append-add, length-take-le, sets-eq}
use lib.Dec.{ltb}
use borrow.Author.Tests.{lt-ltb, le-ltb, ltb-true}
use borrow.Rule.Slice.PartMut.{put_mid, mid_of, post_of, mid_len, same_len_mid}
use Rattle.slices.specs.Choose.{choose}
use Rattle.slices.specs.Put.{put}
use Rattle.slices.proofs.Chosen.{either}
use Rattle.slices.proofs.Puts.{length-put, take_put}
use Rattle.packed.specs.Packed.{packed}
use Rattle.packed.specs.Packing.{Packs}
use Rattle.packed.specs.declared.Fit.{Fit}
use Rattle.packed.specs.declared.Fit.TheVariants.{Length, TooShort}
use Rattle.block_write.specs.BlockFor.{block_for}
use Rattle.block_write.proofs.Fits.{InRoom, OutOfRoom, FitSays, says, packs_stands, packs_over}

pub head_put : (d : List ℕ) (a b x : ℕ) → 3 ≤ length d → set (set (set d 0 a) 1 b) 2 x ≡ a ∷ b ∷ x ∷ drop 3 d
head_put d a b x h = sets-eq (a ∷ b ∷ x ∷ []) d 0 h

-- a block, packed or plain
block_packed : (number : ℕ) (p : List ℕ) → length (packed p) < 16384 → block_for number p ≡ length (packed p) % 256 ∷ length (packed p) / 256 ∷ number ∷ packed p
unfolding block_for
block_packed number p h = rw (lt-ltb (length (packed p)) 16384 h)

pub block_plain : (number : ℕ) (p : List ℕ) → 16384 ≤ length (packed p) → block_for number p ≡ 255 ∷ 255 ∷ number ∷ p
unfolding block_for
block_plain number p h = rw (le-ltb (length (packed p)) 16384 h)

pub block_size : (number : ℕ) (p : List ℕ) → length (block_for number p) ≡ 3 + choose (ltb (length (packed p)) 16384) (length (packed p)) (length p)
unfolding block_for
block_size number p = go (ltb (length (packed p)) 16384)
  where
    go : (t : Bool)
        → length (choose t (length (packed p) % 256 ∷ length (packed p) / 256 ∷ number ∷ packed p) (255 ∷ 255 ∷ number ∷ p)) ≡ 3 + choose t (length (packed p)) (length p)
    go true = omega arith
    go false = omega arith

pub block_most : (number : ℕ) (p : List ℕ) → length p ≤ 16384 → length (block_for number p) ≤ 16387
block_most number p h =
    let most : choose (ltb (length (packed p)) 16384) (length (packed p)) (length p) ≤ 16384 =
    either (λ (n : ℕ). n ≤ 16384) (ltb (length (packed p)) 16384) (length (packed p)) (length p) (λ e. omega (arith, ltb-true (length (packed p)) 16384 e)) (λ e. h) in
    omega (arith, block_size number p)

-- the ways out of write_block
module _ (number : ℕ) (s d₀ : List ℕ) (h : length s ≡ 16384) where
  pub no_head : (d : List ℕ) → length d₀ < 3 → d ≡ replicate (length d₀) 0 → Packs (block_for number s) (length d₀) TooShort d
  no_head d k w = packs_over (block_for number s) (length d₀) d (omega (arith, block_size number s)) w

  -- the page packed into the part from 3 on, of m bytes
  module _ (r : Fit) (l : List ℕ) (m most : ℕ) (k : 3 ≤ length d₀) (e : m ≡ min (length d₀ - 3) most) (w : Packs (packed s) (length (mid_of 3 (3 + m - 3) d₀)) r l) where
    data_room : length (mid_of 3 (3 + m - 3) d₀) ≡ m
    data_room = mid_len 3 (3 + m) d₀ (omega arith) ∙ (omega arith)

    pack_says : FitSays (packed s) m r l
    pack_says = says (packed s) m r l (subst (λ (n : ℕ). Packs (packed s) n r l) data_room w)

    data_in_room : (n : ℕ) → r ≡ Length n → InRoom (packed s) m n l
    data_in_room n q = subst (λ (x : Fit). FitSays (packed s) m x l) q pack_says

    no_fit : r ≡ TooShort → OutOfRoom (packed s) m l
    no_fit q = subst (λ (x : Fit). FitSays (packed s) m x l) q pack_says

    -- the output then, and from its fourth byte on
    abbrev with_packed : List ℕ
    with_packed = put_mid 3 (3 + m - 3) d₀ l

    with_packed_long : length l ≡ m → length with_packed ≡ length d₀
    with_packed_long g = same_len_mid 3 (3 + m - 3) d₀ l (g ∙ sym data_room)

    past_head : drop 3 with_packed ≡ l ++ post_of 3 (3 + m - 3) d₀
    past_head = drop_at (take 3 d₀) (l ++ post_of 3 (3 + m - 3) d₀) 3 (length-take-le 3 d₀ (omega arith))

    pub packed_room : (n : ℕ) → r ≡ Length n → n ≤ m
    packed_room n q = let f = data_in_room n q in f.room

    pub laid_packed : most ≡ 16383 → (n : ℕ) (d₂ d : List ℕ) → r ≡ Length n → d₂ ≡ n % 256 ∷ n / 256 ∷ number ∷ drop 3 with_packed
        → d ≡ take (3 + m) d₂ ++ replicate (length d₂ - (3 + m)) 0 → Packs (block_for number s) (length d₀) (Length (3 + n)) d
    laid_packed c n d₂ d q x y =
        let f = data_in_room n q in
        let ws = n % 256 ∷ n / 256 ∷ number ∷ [] in
        let p = m - length (packed s) in
        let t = with_packed_long f.long in
        let g : length d₂ ≡ length d₀ = ap length x ∙ simp length-drop (omega arith) in
        let b : block_for number s ≡ ws ++ packed s =
        block_packed number s (omega (arith, f.size, f.room)) ∙ ap (λ (j : ℕ). j % 256 ∷ j / 256 ∷ number ∷ packed s) (sym f.size) in
        let u : take (3 + m) d₂ ≡ block_for number s ++ replicate p 0 =
        ap (take (3 + m)) (x ∙ ap (λ (o : List ℕ). ws ++ o) past_head)
        ∙ take-append-add ws (l ++ post_of 3 (3 + m - 3) d₀) m
        ∙ ap (λ (o : List ℕ). ws ++ o) (take_at l (post_of 3 (3 + m - 3) d₀) m f.long ∙ f.there)
        ∙ ap (λ (o : List ℕ). o ++ replicate p 0) (sym b) in
        let z : p + (length d₂ - (3 + m)) ≡ length d₀ - length (block_for number s) = omega (arith, ap length b, f.size, f.room) in
        packs_stands (block_for number s) (length d₀) d (3 + n) (omega (arith, ap length b, f.size)) (omega (arith, ap length b, f.size, f.room))
        (y
        ∙ ap (λ (o : List ℕ). o ++ replicate (length d₂ - (3 + m)) 0) u
        ∙ append_assoc (block_for number s) (replicate p 0) (replicate (length d₂ - (3 + m)) 0)
        ∙ ap (λ (o : List ℕ). block_for number s ++ o) (replicate-append-replicate p (length d₂ - (3 + m)) 0 ∙ ap (λ (j : ℕ). replicate j 0) z))

    -- not packed into 16,383 bytes
    module _ (c : most ≡ 16383) (q : r ≡ TooShort) where
      pub no_block : (d : List ℕ) → length d₀ - 3 < 16384 → d ≡ replicate (length with_packed) 0 → Packs (block_for number s) (length d₀) TooShort d
      no_block d j y =
          let f = no_fit q in
          packs_over (block_for number s) (length d₀) d (go (ltb (length (packed s)) 16384) (block_size number s)) (y ∙ ap (λ (n : ℕ). replicate n 0) (with_packed_long f.long))
        where
          go : (t : Bool) → length (block_for number s) ≡ 3 + choose t (length (packed s)) (length s) → length d₀ < length (block_for number s)
          go true b = let f = no_fit q in omega (arith, f.over)
          go false b = omega (arith, h)

      pub laid_plain : (d₂ d₃ d : List ℕ) → 16384 ≤ length d₀ - 3 → d₂ ≡ 255 ∷ 255 ∷ number ∷ drop 3 with_packed → d₃ ≡ put d₂ 3 s
          → d ≡ take 16387 d₃ ++ replicate (length d₃ - 16387) 0 → Packs (block_for number s) (length d₀) (Length 16387) d
      laid_plain d₂ d₃ d j x y w =
          let f = no_fit q in
          let ws : List ℕ = 255 ∷ 255 ∷ number ∷ [] in
          let b : block_for number s ≡ ws ++ s = block_plain number s (omega (arith, f.over)) in
          let t = with_packed_long f.long in
          let g : length d₂ ≡ length d₀ = ap length x ∙ simp length-drop (omega arith) in
          let i : 3 + length s ≤ length d₂ = omega (arith, h) in
          let u : length d₃ ≡ length d₂ = ap length y ∙ length-put d₂ s 3 i in
          let c : 16387 ≡ 3 + length s = omega (arith, h) in
          let v : length (block_for number s) ≡ 16387 = ap length b ∙ omega (arith, h) in
          let z : length d₃ - 16387 ≡ length d₀ - length (block_for number s) = omega (arith, v) in
          packs_stands (block_for number s) (length d₀) d 16387 (sym v) (omega arith)
          (w
          ∙ ap (λ (n : ℕ). take n d₃ ++ replicate (length d₃ - 16387) 0) c
          ∙ ap (λ (o : List ℕ). take (3 + length s) o ++ replicate (length d₃ - 16387) 0) y
          ∙ ap (λ (o : List ℕ). o ++ replicate (length d₃ - 16387) 0) (take_put d₂ s 3 (omega arith) ∙ ap (λ (o : List ℕ). take 3 o ++ s) x ∙ sym b)
          ∙ ap (λ (n : ℕ). block_for number s ++ replicate n 0) z)
