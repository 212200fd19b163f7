-- Where a code may begin in 16 bytes, and the bytes before it.
use Prim.Native.Nat.{ℕ, ◌+◌, ◌-◌, ◌/◌, ◌^◌, ◌≤◌, ◌<◌}
use native.Mathlib.Nat.{add-zero}
use native.Mathlib.Omega.{arith}
use mathlib.Core.Path.{◌≡◌, refl, sym, ap, ◌∙◌}
use mathlib.Core.Bool.{Bool, false, not, ◌&&◌}
use mathlib.Core.List.{List, ◌∷◌}
use lib.ListN.{length, get_or, take, drop}
use lib.Seq.{get_or-drop}
use lib.Dec.{eqb}
use lib.Count.{count_trailing_zeros}
use borrow.Author.Tests.{eqb-false, eq-eqb}
use Rattle.slices.specs.Put.{put}
use Rattle.flags.specs.Weight.{weight}
use Rattle.flags.specs.Places.{Flagged, Seen, Ahead}
use Rattle.flags.proofs.Weights.{true_not_false, neither}
use Rattle.flags.proofs.Places.{seen_none, seen_flags, seen_clear, seen_first, seen_after}
use Rattle.packed.specs.Packed.{bytes, front, packed}
use Rattle.packed.specs.Packed.CodeLaws.{plain_code}
use Rattle.runs.specs.Inner.{unlike_at}
use Rattle.stretches.specs.Inner.{may_code, may_code_at, Stopped}
use Rattle.stores.proofs.StoredBytes.{at_block, put_over}
use Rattle.runs.proofs.RunLength.{front_at}
use Rattle.packed.proofs.Frame.{Verbatim, packed_as, verbatim}

-- where no code may begin, a byte packs to itself
front_few : (x : ℕ) (xs : List ℕ) → may_code x (get_or xs 0 0) (get_or xs 3 0) ≡ false → front x xs < 4
front_few x xs c =
    let p = neither (eqb x 237) (eqb x (get_or xs 0 0) && eqb (get_or xs 3 0) (get_or xs 0 0)) c in
    let q : 3 < front x xs → ⊥ = λ h.
    (let a = front_at x xs 0 (omega arith) in
    true_not_false (sym (rw (eq-eqb x (get_or xs 0 0) (sym a), eq-eqb (get_or xs 3 0) (get_or xs 0 0) (front_at x xs 3 h ∙ sym a)) refl) ∙ p.1)) in
    omega arith

one_plain : (x : ℕ) (xs : List ℕ) → may_code x (get_or xs 0 0) (get_or xs 3 0) ≡ false → packed_as (x ∷ xs) ≡ bytes (x ∷ packed xs)
one_plain x xs c =
    let p = neither (eqb x 237) (eqb x (get_or xs 0 0) && eqb (get_or xs 3 0) (get_or xs 0 0)) c in
    ap bytes (plain_code x xs (eqb-false x 237 p.0) (front_few x xs c))

-- what is stopped before stands for itself, and the flags say something of what is ahead
module _ (s : List ℕ) (i : ℕ) (d : List ℕ) (o k u : ℕ) (d' : List ℕ) (t : Stopped s i d o k u d') where
  pub stopped_part : i + 20 ≤ length s → Verbatim packed_as s i k
  stopped_part h =
      verbatim packed_as (λ (l : List ℕ). may_code (get_or l 0 0) (get_or l 1 0) (get_or l 4 0) ≡ false) one_plain s i k (omega (arith, t.few))
      (λ j l. rw (get_or-drop (i + j) s 0 0, get_or-drop (i + j) s 1 0, get_or-drop (i + j) s 4 0, add-zero (i + j)) (t.before j l))

  pub stopped_ahead : Ahead (unlike_at s) (i + k) u
  stopped_ahead = record { places = 16 - k; most = omega arith; seen = t.unlike }

-- 17 bytes are stored, and 16 looked at
module _ (s : List ℕ) (i : ℕ) (d d₁ d₂ : List ℕ) (o : ℕ) (b n f : List ℕ) (cu cs : List Bool) (u m : ℕ) (hs : i + 20 ≤ length s) (hd : o + 17 ≤ length d)
    (eb : b ≡ take 16 (drop i s)) (e₁ : d₁ ≡ put d o b) (en : n ≡ take 16 (drop (i + 1) s)) (gu : Flagged (λ j. not (eqb (get_or b j 0) (get_or n j 0))) cu 16) (eu : u ≡ weight cu)
    (e₂ : d₂ ≡ put d₁ (o + 1) n) (ef : f ≡ take 16 (drop (i + 4) s)) (gs : Flagged (λ j. may_code (get_or b j 0) (get_or n j 0) (get_or f j 0)) cs 16) (em : m ≡ weight cs) where
  blocks_stored : d₂ ≡ put d o (take 17 (drop i s))
  blocks_stored =
      e₂ ∙ ap (put d₁ (o + 1)) en
      ∙ ap (λ (l : List ℕ). put l (o + 1) (take 16 (drop (i + 1) s))) (e₁ ∙ ap (put d o) eb)
      ∙ put_over s i d o 1 15 16 (omega arith) (omega arith) (omega arith)

  next_block_at : (j : ℕ) → j < 16 → get_or n j 0 ≡ get_or s (i + j + 1) 0
  next_block_at j h = at_block s n (i + 1) j en h ∙ ap (λ (x : ℕ). get_or s x 0) (omega arith)

  fourth_at : (j : ℕ) → j < 16 → get_or f j 0 ≡ get_or s (i + j + 4) 0
  fourth_at j h = at_block s f (i + 4) j ef h ∙ ap (λ (x : ℕ). get_or s x 0) (omega arith)

  unlike_seen : Seen (unlike_at s) i 16 u
  unlike_seen = seen_flags (unlike_at s) _ i cu u gu eu (λ j h. (λ z. not (eqb (at_block s b i j eb h z) (next_block_at j h z))))

  stops_seen : Seen (may_code_at s) i 16 m
  stops_seen =
      seen_flags (may_code_at s) _ i cs m gs em
      (λ j h. (λ z. may_code (at_block s b i j eb h z) (next_block_at j h z) (fourth_at j h z)))

  pub stopped_none : m ≡ 0 → Stopped s i d o 16 0 d₂
  stopped_none z =
      record {
        few = omega arith;
        before = seen_clear (may_code_at s) i 16 m stops_seen z;
        here = λ h. (let x : ⊥ = omega arith in absurd x);
        unlike = seen_none (unlike_at s) (i + 16);
        stored = blocks_stored;
      }

  pub stop_few : (m ≡ 0 → ⊥) → (k : ℕ) → k ≡ count_trailing_zeros 64 m → k < 64
  stop_few z k ek = let w = seen_first (may_code_at s) i 16 m stops_seen (omega arith) z in omega (arith, w.inside)

  pub stopped_at : (m ≡ 0 → ⊥) → (k v : ℕ) → k ≡ count_trailing_zeros 64 m → v ≡ u / 2 ^ k → Stopped s i d o k v d₂
  stopped_at z k v ek ev =
      let w = seen_first (may_code_at s) i 16 m stops_seen (omega arith) z in
      record {
        few = omega (arith, w.inside);
        before = λ j h. w.before j (omega arith);
        here = λ _. ap (λ (j : ℕ). may_code_at s (i + j)) ek ∙ w.here;
        unlike = rw ev (seen_after (unlike_at s) i 16 u unlike_seen k);
        stored = blocks_stored;
      }
