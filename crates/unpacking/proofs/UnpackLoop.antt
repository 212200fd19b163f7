-- The loop.
use Prim.Native.Nat.{ℕ, ◌+◌, ◌/◌, ◌^◌, ◌≤◌, ◌<◌}
use native.Mathlib.Omega.{arith}
use mathlib.Core.Path.{◌≡◌, refl, sym, ap, subst, ◌∙◌}
use mathlib.Core.Bool.{Bool, true, false}
use mathlib.Core.List.{List}
use lib.ListN.{length, get_or, take, drop, replicate}
use lib.Dec.{eqb, ltb}
use lib.Count.{count_trailing_zeros}
use borrow.Author.Tests.{eqb-true, eqb-false}
use Rattle.flags.specs.Places.{Ahead}
use Rattle.flags.proofs.Places.{seen_first, first_few, ahead_none, ahead_after}
use Rattle.packed.specs.Packed.{before, unpacked}
use Rattle.slices.specs.Choose.{choose}
use Rattle.slices.specs.Put.{put}
use Rattle.packed.specs.Unpacking.{answer_of, left_by, Unpacks}
use Rattle.codes.specs.Inner.{escape_at, reach_of, Looked}
use Rattle.codes.proofs.CodesAhead.{NextCode, next_code}
use Rattle.packed.specs.declared.Unpacked.{Unpacked}
use Rattle.packed.specs.declared.Unpacked.TheVariants.{Malformed}
use Rattle.packed.proofs.Frame.{Verbatim, Frame, frame_none, copied}
use Rattle.unpack_tail.proofs.UnpackSteps.{over_at, zero_into, full_run, going_stored}

-- the frame, and what was seen ahead
pub record Unpacking (s d₀ d : List ℕ) (i o m : ℕ) : Type 0 where
  pub frame : Frame unpacked (unpacked s) s d₀ d i o
  pub ahead : Ahead (escape_at s) i m

pub unpacking_none : (s d : List ℕ) → Unpacking s d d 0 0 0
unpacking_none s d = record { frame = frame_none unpacked s d; ahead = ahead_none (escape_at s) 0 }

-- a number with 64 trailing zeros says nothing of any place
spent : (s : List ℕ) (i j m : ℕ) → Ahead (escape_at s) i m → 64 ≤ count_trailing_zeros 64 m → Ahead (escape_at s) j m
spent s i j m a h = go (eqb m 0) refl
  where
    go : (t : Bool) → eqb m 0 ≡ t → Ahead (escape_at s) j m
    go true e = subst (Ahead (escape_at s) j) (sym (eqb-true m 0 e)) (ahead_none (escape_at s) j)
    go false e =
        let f = seen_first (escape_at s) i a.places m a.seen a.most (eqb-false m 0 e) in
        let z : ⊥ = omega (arith, f.inside, a.most) in absurd z

reach_most : (m : ℕ) → reach_of m ≤ 64
reach_most m = go (ltb (count_trailing_zeros 64 m) 16)
  where
    go : (t : Bool) → choose t 16 64 ≤ 64
    go true = omega arith
    go false = omega arith

-- up to the next ED ED, k bytes on
module _ (s d₀ d : List ℕ) (i o m₀ : ℕ) (g : Unpacking s d₀ d i o m₀) (d' : List ℕ) (m k : ℕ) (l : Looked s i d o m₀ m d') (e : k ≡ count_trailing_zeros 64 m) (hs : i + 68 ≤ length s) (hd : o + 64 ≤ length d) where
  code_ahead : NextCode s i m₀ m
  code_ahead = next_code s i d o m₀ m d' (omega arith) g.ahead l

  reached : Frame unpacked (unpacked s) s d₀ d' (i + k) (o + k)
  reached =
      copied unpacked (unpacked s) s d₀ d i o g.frame d' k (reach_of m₀) (subst (Verbatim unpacked s i) (sym e) code_ahead.part) (omega (arith, code_ahead.reach))
      (omega (arith, reach_most m₀)) (omega (arith, reach_most m₀)) l.stored

  looked_long : length d' ≡ length d
  looked_long = let f = reached in f.long ∙ sym g.frame.long

  code_there : (k ≡ 64 → ⊥) → true ≡ escape_at s (i + k)
  code_there h = code_ahead.code (omega (arith, first_few m k e)) ∙ ap (λ (n : ℕ). escape_at s (i + n)) (sym e)

  pub unpacking_block : k ≡ 64 → Unpacking s d₀ d' (i + 64) (o + 64) m
  unpacking_block h =
      record {
        frame = subst (λ (n : ℕ). Frame unpacked (unpacked s) s d₀ d' (i + n) (o + n)) h reached;
        ahead = spent s i (i + 64) m code_ahead.ahead (omega arith);
      }

  module _ (n : ℕ) (h : k ≡ 64 → ⊥) (en : n ≡ get_or s (i + k + 2) 0) where
    code_fits : i + k + 4 ≤ length s
    code_fits = omega (arith, first_few m k e)

    pub unpacking_zero : (a : Unpacked) (d'' : List ℕ) → n ≡ 0 → (a ≡ Malformed (i + k)) × (d'' ≡ replicate (length d') 0) → Unpacks (unpacked s) (length d₀) a d''
    unpacking_zero a d'' z c = zero_into (unpacked s) s d₀ d' (i + k) (o + k) reached true (code_there h) n code_fits refl en a d'' z c

    pub unpacking_full : (why a : Unpacked) (d'' : List ℕ) → why ≡ over_at s (i + k) (o + k) → (n ≡ 0 → ⊥) → length d' < o + k + n
        → (a ≡ why) × (d'' ≡ replicate (length d') 0) → Unpacks (unpacked s) (length d₀) a d''
    unpacking_full why a d'' r z j c = full_run (unpacked s) s d₀ d' (i + k) (o + k) reached true (code_there h) n code_fits refl en why a d'' z j r c

    module _ (d'' : List ℕ) (z : n ≡ 0 → ⊥) (m₁ m₂ : ℕ) (e₁ : m₁ ≡ m / 2 ^ k) (e₂ : m₂ ≡ m₁ / 2 ^ 4) where
      stored_run : (w : ℕ) → d'' ≡ put d' (o + k) (replicate w (get_or s (i + k + 3) 0)) → n ≤ w → o + k + w ≤ length d' → Unpacking s d₀ d'' (i + k + 4) (o + k + n) m₂
      stored_run w p few j =
          record {
            frame = going_stored (unpacked s) s d₀ d' (i + k) (o + k) reached true (code_there h) n code_fits refl en d'' w p z few j;
            ahead = rw (e₂, e₁) (ahead_after (escape_at s) (i + k) (m / 2 ^ k) (ahead_after (escape_at s) i m code_ahead.ahead k) 4);
          }

      pub unpacking_run : d'' ≡ put d' (o + k) (replicate n (get_or s (i + k + 3) 0)) → o + k + n ≤ length d' → Unpacking s d₀ d'' (i + k + 4) (o + k + n) m₂
      unpacking_run p j = stored_run n p (omega arith) j

      pub unpacking_short : d'' ≡ put d' (o + k) (replicate 32 (get_or s (i + k + 3) 0)) → n ≤ 32 → o + 96 ≤ length d → Unpacking s d₀ d'' (i + k + 4) (o + k + n) m₂
      unpacking_short p few room = stored_run 32 p few (omega (arith, looked_long, first_few m k e))

-- the rest is another's
pub rest_into : (s d₀ d : List ℕ) (i o m : ℕ) → Unpacking s d₀ d i o m → (a : Unpacked) (d' : List ℕ) → Unpacks (before i (take o d) (unpacked (drop i s))) (length d) a d'
    → Unpacks (unpacked s) (length d₀) a d'
rest_into s d₀ d i o m g a d' h =
    let f = g.frame in
    record {
      answer = h.answer ∙ (λ j. answer_of (sym f.same j) (f.long j));
      memory = h.memory ∙ (λ j. left_by (sym f.same j) (f.long j));
    }
