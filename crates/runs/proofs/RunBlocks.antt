-- A run counted by flags: 16 bytes at a time, or up to the first byte unlike the next.
use Prim.Native.Nat.{ℕ, zero, suc, ◌+◌, ◌-◌, ◌*◌, ◌≤◌, ◌<◌}
use native.Mathlib.Nat.{not-suc-le-zero, add-zero}
use native.Mathlib.Numerals.{add-one}
use native.Mathlib.Omega.{arith}
use mathlib.Core.Path.{◌≡◌, refl, sym, ap, subst, ◌∙◌}
use mathlib.Core.Bool.{Bool, true, false, not}
use mathlib.Core.List.{List}
use lib.ListN.{length, get_or, take, drop, get_or-eq_default}
use lib.Dec.{eqb, ltb}
use lib.Count.{count_trailing_zeros}
use borrow.Author.Tests.{eqb-true, eqb-false, not-true, not-false, ltb-true, ltb-false}
use Rattle.flags.specs.Weight.{weight}
use Rattle.flags.specs.Places.{Flagged, Seen, First, Ahead}
use Rattle.flags.proofs.Places.{seen_flags, seen_clear, seen_first, some_set, first_few}
use Rattle.runs.specs.Inner.{RunLeft, unlike_at}
use Rattle.stores.proofs.StoredBytes.{at_block}
use Rattle.runs.proofs.RunLength.{Running, running_one, running_more, run_stops, run_full}

-- n bytes from i on are v
module _ (s : List ℕ) (i v : ℕ) (e : v ≡ get_or s i 0) where
  running_all : (n : ℕ) → i + suc n ≤ length s → suc n ≤ 255 → ((j : ℕ) → j < suc n → get_or s (i + j) 0 ≡ v) → Running s i v (suc n)
  running_all zero h k f = subst (λ (x : ℕ). Running s i x 1) (sym e) (running_one s i (omega arith))
  running_all (suc m) h k f =
      subst (λ (x : ℕ). Running s i v x) (add-one (suc m))
      (running_more s i v (suc m) (running_all m (omega arith) (omega arith) (λ j l. f j (omega arith))) (omega arith) (omega arith) (f (suc m) (omega arith)))

  stops_at : (n : ℕ) → i + n ≤ length s → n ≤ 255 → ((j : ℕ) → j < n → get_or s (i + j) 0 ≡ v) → (get_or s (i + n) 0 ≡ v → ⊥) → RunLeft s i n
  stops_at zero h k f g = absurd (g (ap (λ (x : ℕ). get_or s x 0) (add-zero i) ∙ sym e))
  stops_at (suc m) h k f g = run_stops s i v (suc m) (running_all m h k f) g

-- q blocks of the run at i are found
pub record RunBlocks (s : List ℕ) (i v q : ℕ) : Type 0 where
  pub most : q ≤ 16
  pub inside : i + 16 * q ≤ length s
  pub value : v ≡ get_or s i 0
  pub each : (j : ℕ) → j < 16 * q → get_or s (i + j) 0 ≡ v

pub run_blocks_none : (s : List ℕ) (i : ℕ) → i < length s → RunBlocks s i (get_or s i 0) 0
run_blocks_none s i h = record { most = omega arith; inside = omega arith; value = refl; each = λ j l. absurd (not-suc-le-zero l) }

pub run_blocks_full : (s : List ℕ) (i v q : ℕ) → RunBlocks s i v q → 16 ≤ q → RunLeft s i 255
run_blocks_full s i v q g h = run_full s i v 255 (running_all s i v g.value 254 (omega (arith, g.inside)) (omega arith) (λ j l. g.each j (omega arith))) (omega arith)

-- whether the byte at p is not v
abbrev isnt : List ℕ → ℕ → ℕ → Bool
isnt s v p = not (eqb (get_or s p 0) v)

-- one more block, in which m flags what is not v
module _ (s : List ℕ) (i v q : ℕ) (g : RunBlocks s i v q) (b : List ℕ) (c : List Bool) (m : ℕ) (h : q < 16) (hs : i + 16 * q + 16 ≤ length s) (eb : b ≡ take 16 (drop (i + 16 * q) s))
    (f : Flagged (isnt b v) c 16) (em : m ≡ weight c) where
  others_seen : Seen (isnt s v) (i + 16 * q) 16 m
  others_seen =
      seen_flags (isnt s v) (isnt b v) (i + 16 * q) c m f em
      (λ j l. ap (λ (x : ℕ). not (eqb x v)) (at_block s b (i + 16 * q) j eb l))

  more : (k : ℕ) → ((j : ℕ) → j < k → isnt s v (i + 16 * q + j) ≡ false) → (j : ℕ) → j < 16 * q + k → get_or s (i + j) 0 ≡ v
  more k n j l = go (ltb j (16 * q)) refl
    where
      go : (t : Bool) → ltb j (16 * q) ≡ t → get_or s (i + j) 0 ≡ v
      go true e = g.each j (ltb-true j (16 * q) e)
      go false e =
          let w : 16 * q ≤ j = ltb-false j (16 * q) e in
          let x : i + 16 * q + (j - 16 * q) ≡ i + j = omega arith in
          eqb-true _ _ (not-false _ (ap (isnt s v) (sym x) ∙ n (j - 16 * q) (omega arith)))

  pub run_blocks_more : m ≡ 0 → RunBlocks s i v (q + 1)
  run_blocks_more z =
      record { most = omega arith; inside = omega arith; value = g.value; each = λ j l. more 16 (seen_clear (isnt s v) (i + 16 * q) 16 m others_seen z) j (omega arith) }

  pub run_blocks_stop : (m ≡ 0 → ⊥) → (k : ℕ) → k ≡ count_trailing_zeros 64 m → RunLeft s i (16 * q + k)
  run_blocks_stop z k ek =
      let w : First (isnt s v) (i + 16 * q) 16 k = subst (First (isnt s v) (i + 16 * q) 16) (sym ek) (seen_first (isnt s v) (i + 16 * q) 16 m others_seen (omega arith) z) in
      let x : i + 16 * q + k ≡ i + (16 * q + k) = omega arith in
      stops_at s i v g.value (16 * q + k) (omega (arith, w.inside)) (omega (arith, w.inside)) (more k w.before)
      (eqb-false _ _ (not-true _ (ap (isnt s v) (sym x) ∙ w.here)))

-- the bytes up to the first that is unlike the next
module _ (s : List ℕ) (i n k : ℕ) (w : First (unlike_at s) i n k) where
  alike : (j : ℕ) → j ≤ k → get_or s (i + j) 0 ≡ get_or s i 0
  alike zero h = ap (λ (x : ℕ). get_or s x 0) (add-zero i)
  alike (suc j) h =
      let x : i + j + 1 ≡ i + suc j = omega arith in
      ap (λ (y : ℕ). get_or s y 0) (sym x) ∙ sym (eqb-true _ _ (not-false _ (w.before j h))) ∙ alike j (omega arith)

  differs : get_or s (i + k) 0 ≡ get_or s (i + k + 1) 0 → ⊥
  differs = eqb-false _ _ (not-true _ w.here)

  reaches : (t : Bool) → ltb (i + k) (length s) ≡ t → i + k < length s
  reaches true e = ltb-true (i + k) (length s) e
  reaches false e =
      let l : length s ≤ i + k = ltb-false (i + k) (length s) e in
      absurd (differs (get_or-eq_default s 0 l ∙ sym (get_or-eq_default s 0 (omega arith))))

  first_unlike : k < 64 → RunLeft s i (k + 1)
  first_unlike h =
      let l : i + k < length s = reaches (ltb (i + k) (length s)) refl in
      let x : i + (k + 1) ≡ i + k + 1 = omega arith in
      stops_at s i (get_or s i 0) refl (k + 1) (omega arith) (omega arith) (λ j m. alike j (omega arith))
      (λ z. differs (alike k (omega arith) ∙ sym z ∙ ap (λ (y : ℕ). get_or s y 0) x))

pub run_seen : (s : List ℕ) (i u k : ℕ) → Ahead (unlike_at s) i u → k ≡ count_trailing_zeros 64 u → (k ≡ 64 → ⊥) → RunLeft s i (k + 1)
run_seen s i u k a e h =
    let t : count_trailing_zeros 64 u < 64 = omega (arith, first_few u k e) in
    let w = seen_first (unlike_at s) i a.places u a.seen a.most (some_set u t) in
    first_unlike s i a.places k (subst (First (unlike_at s) i a.places) (sym e) w) (omega arith)
