-- Packing: the code at a place, and the loop.
use Prim.Native.Nat.{ℕ, ◌+◌, ◌-◌, ◌≤◌, ◌<◌}
use native.Mathlib.Omega.{arith}
use mathlib.Core.Path.{◌≡◌, refl, sym, ap, ◌∙◌}
use mathlib.Core.Bool.{Bool, true, false}
use mathlib.Core.List.{List, [], ◌∷◌, ◌++◌, append-nil}
use lib.ListN.{length, get_or, take, drop, replicate, length-append, length-replicate, drop_of_length-le}
use lib.Seq.{length-take-le}
use lib.Dec.{eqb}
use borrow.Author.Tests.{le-leb, lt-leb, eq-eqb, ne_eqb, eqb-true, eqb-false}
use Rattle.slices.specs.Choose.{choose}
use Rattle.packed.specs.Packed.{ED, bytes, packed}
use Rattle.packed.specs.Packed.CodeLaws.{packed_nil}
use Rattle.packed.specs.Packing.{Packs}
use Rattle.runs.specs.Inner.{RunLeft}
use Rattle.slices.specs.Put.{put}
use Rattle.stores.proofs.StoredBytes.{Stored, stored_put, put_fewer}
use Rattle.packed.proofs.Frame.{packed_as, Frame, onward}
use Rattle.packed.specs.declared.Fit.{Fit}
use Rattle.packed.specs.declared.Fit.TheVariants.{Length, TooShort}
use Rattle.runs.proofs.RunCodes.{Coded, next_run_ed, next_run, next_short, next_single, next_last}

module _ (ps s d₀ d : List ℕ) (i o : ℕ) (g : Frame packed_as (bytes ps) s d₀ d i o) where
  packed_more : (ws d' : List ℕ) (j o' : ℕ) → Coded s i ws j → Stored d o ws d' → o + length ws ≡ o' → o' ≤ length d → Frame packed_as (bytes ps) s d₀ d' j o'
  packed_more ws d' j o' n = onward packed_as (bytes ps) s d₀ d i o g d' ws j o' (record { step = ap bytes n.step; inside = n.inside })

  pub all_packed : ps ≡ take o d ++ packed (drop i s)
  all_packed = let e : bytes ps ≡ bytes (take o d ++ packed (drop i s)) = g.same in cc

  too_little_room : (ws : List ℕ) (j : ℕ) → Coded s i ws j → length d < o + length ws → (r : Fit) (d' : List ℕ) → (r ≡ TooShort) × (d' ≡ replicate (length d) 0) → Packs ps (length d₀) r d'
  too_little_room ws j n h r d' c =
      let l : length (take o d) ≡ o = length-take-le o d g.room in
      let e : length ps ≡ length (take o d) + (length ws + length (packed (drop j s))) =
      ap length (all_packed ∙ ap (λ (l : List ℕ). take o d ++ l) n.step)
      ∙ length-append (take o d) (ws ++ packed (drop j s))
      ∙ ap (λ (m : ℕ). length (take o d) + m) (length-append ws (packed (drop j s))) in
      let t = lt-leb (length ps) (length d₀) (omega (arith, g.long)) in
      record { answer = c.0 ∙ simp t; memory = c.1 ∙ ap (λ (m : ℕ). replicate m 0) g.long ∙ simp t }

  pub packed_all : length s ≤ i → (d' : List ℕ) → d' ≡ take o d ++ replicate (length d - o) 0 → Packs ps (length d₀) (Length o) d'
  packed_all h d' q =
      let e : ps ≡ take o d =
      all_packed ∙ ap (λ (l : List ℕ). take o d ++ packed l) (drop_of_length-le s {i = i} h) ∙ ap (λ (l : List ℕ). take o d ++ l) packed_nil ∙ append-nil (take o d) in
      let l : length ps ≡ o = ap length e ∙ length-take-le o d g.room in
      let t = le-leb o (length d₀) (omega (arith, g.long, g.room)) in
      record {
        answer = rw (l, t);
        memory = rw (l, t) (q ∙ (λ j. sym e j ++ replicate (g.long j - o) 0));
      }

  module _ (d' : List ℕ) (h : i < length s) where
    module _ (r : ℕ) (l : RunLeft s i r) where
      pub again_run_ed : d' ≡ put d o (237 ∷ 237 ∷ r ∷ get_or s i 0 ∷ []) → get_or s i 0 ≡ 237 → 2 ≤ r → o + 4 ≤ length d → Frame packed_as (bytes ps) s d₀ d' (i + r) (o + 4)
      again_run_ed p e k m = packed_more _ d' (i + r) (o + 4) (next_run_ed s i h r l e k) (stored_put d d' _ o m p) refl m

      pub again_run : d' ≡ put d o (237 ∷ 237 ∷ r ∷ get_or s i 0 ∷ []) → (get_or s i 0 ≡ 237 → ⊥) → 5 ≤ r → o + 4 ≤ length d → Frame packed_as (bytes ps) s d₀ d' (i + r) (o + 4)
      again_run p e k m = packed_more _ d' (i + r) (o + 4) (next_run s i h r l e k) (stored_put d d' _ o m p) refl m

      pub again_single : d' ≡ put d o (get_or s i 0 ∷ get_or s (i + 1) 0 ∷ []) → get_or s i 0 ≡ 237 → r < 2 → i + 1 < length s → o + 2 ≤ length d → Frame packed_as (bytes ps) s d₀ d' (i + 2) (o + 2)
      again_single p e k j m = packed_more _ d' (i + 2) (o + 2) (next_single s i h r l e k j) (stored_put d d' _ o m p) refl m

      -- n of the byte were stored, of which r count
      again_stored : (n : ℕ) → d' ≡ put d o (replicate n (get_or s i 0)) → (get_or s i 0 ≡ 237 → ⊥) → r < 5 → r ≤ n → o + n ≤ length d → Frame packed_as (bytes ps) s d₀ d' (i + r) (o + r)
      again_stored n p e k few m =
          let v = get_or s i 0 in
          packed_more _ d' (i + r) (o + r) (next_short s i h r l e k) (put_fewer d d' o r n v few m (stored_put d d' (replicate n v) o (omega (arith, length-replicate n v)) p))
          (ap (λ (n : ℕ). o + n) (length-replicate r v)) (omega arith)

      pub again_four : d' ≡ put d o (replicate 4 (get_or s i 0)) → (get_or s i 0 ≡ 237 → ⊥) → r < 5 → o + 4 ≤ length d → Frame packed_as (bytes ps) s d₀ d' (i + r) (o + r)
      again_four p e k m = again_stored 4 p e k (omega arith) m

  -- a run of the byte at i has a code from c on
  module _ (h : i < length s) (r : ℕ) (l : RunLeft s i r) (c : ℕ) (ec : c ≡ choose (eqb (get_or s i 0) ED) 2 5) where
    from_two : get_or s i 0 ≡ 237 → c ≡ 2
    from_two e = ec ∙ rw (eq-eqb (get_or s i 0) 237 e)

    from_five : (get_or s i 0 ≡ 237 → ⊥) → c ≡ 5
    from_five e = ec ∙ rw (ne_eqb (get_or s i 0) 237 e)

    run_coded : c ≤ r → Coded s i (237 ∷ 237 ∷ r ∷ get_or s i 0 ∷ []) (i + r)
    run_coded k = go (eqb (get_or s i 0) 237) refl
      where
        go : (t : Bool) → eqb (get_or s i 0) 237 ≡ t → Coded s i (237 ∷ 237 ∷ r ∷ get_or s i 0 ∷ []) (i + r)
        go true e = let v = eqb-true (get_or s i 0) 237 e in next_run_ed s i h r l v (omega (arith, from_two v))
        go false e = let v = eqb-false (get_or s i 0) 237 e in next_run s i h r l v (omega (arith, from_five v))

    module _ (d' : List ℕ) where
      pub again_coded : d' ≡ put d o (237 ∷ 237 ∷ r ∷ get_or s i 0 ∷ []) → c ≤ r → o + 4 ≤ length d → Frame packed_as (bytes ps) s d₀ d' (i + r) (o + 4)
      again_coded p k m = packed_more _ d' (i + r) (o + 4) (run_coded k) (stored_put d d' _ o m p) refl m

      pub again_plain : d' ≡ put d o (replicate r (get_or s i 0)) → (get_or s i 0 ≡ 237 → ⊥) → r < c → o + r ≤ length d → Frame packed_as (bytes ps) s d₀ d' (i + r) (o + r)
      again_plain p e k m = again_stored d' h r l r p e (omega (arith, from_five e)) (omega arith) m

      pub again_two : d' ≡ put d o (get_or s i 0 ∷ get_or s (i + 1) 0 ∷ []) → get_or s i 0 ≡ 237 → r < c → i + 1 < length s → o + 2 ≤ length d → Frame packed_as (bytes ps) s d₀ d' (i + 2) (o + 2)
      again_two p e k j m = again_single d' h r l p e (omega (arith, from_two e)) j m

      pub again_last : d' ≡ put d o (get_or s i 0 ∷ []) → get_or s i 0 ≡ 237 → r < c → length s ≤ i + 1 → o < length d → Frame packed_as (bytes ps) s d₀ d' (i + 1) (o + 1)
      again_last p e k j m = packed_more _ d' (i + 1) (o + 1) (next_last s i h r l e (omega (arith, from_two e)) j) (stored_put d d' _ o (omega arith) p) refl (omega arith)

    module _ (a : Fit) (d' : List ℕ) (z : (a ≡ TooShort) × (d' ≡ replicate (length d) 0)) where
      pub short_coded : c ≤ r → length d < o + 4 → Packs ps (length d₀) a d'
      short_coded k m = too_little_room _ (i + r) (run_coded k) m a d' z

      pub short_plain : (get_or s i 0 ≡ 237 → ⊥) → r < c → length d < o + r → Packs ps (length d₀) a d'
      short_plain e k m = too_little_room _ (i + r) (next_short s i h r l e (omega (arith, from_five e))) (omega (arith, length-replicate r (get_or s i 0))) a d' z

      pub short_two : get_or s i 0 ≡ 237 → r < c → i + 1 < length s → length d < o + 2 → Packs ps (length d₀) a d'
      short_two e k j m = too_little_room _ (i + 2) (next_single s i h r l e (omega (arith, from_two e)) j) m a d' z

      pub short_last : get_or s i 0 ≡ 237 → r < c → length s ≤ i + 1 → length d ≤ o → Packs ps (length d₀) a d'
      short_last e k j m = too_little_room _ (i + 1) (next_last s i h r l e (omega (arith, from_two e)) j) (omega arith) a d' z
