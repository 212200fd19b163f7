-- ED ED flagged in 16 bytes and in 64, and the bytes before the first one.
use Prim.Native.Nat.{ℕ, ◌+◌, ◌*◌, ◌%◌, ◌^◌, ◌≤◌, ◌<◌}
use native.Mathlib.Omega.{arith}
use mathlib.Core.Path.{◌≡◌, refl, sym, ap, subst, ◌∙◌}
use mathlib.Core.Bool.{Bool, true, false}
use mathlib.Core.List.{List, ◌∷◌}
use lib.ListN.{length, get_or, take, drop}
use lib.Dec.{eqb, ltb}
use lib.Bits.{bit_or}
use lib.Count.{count_trailing_zeros, trailing_of_zero}
use borrow.Author.Tests.{eqb-true, eqb-false, lt-ltb, le-ltb, ltb-true, ltb-false}
use Rattle.slices.specs.Put.{put}
use Rattle.slices.proofs.Puts.{length-put}
use Rattle.flags.specs.Weight.{weight}
use Rattle.flags.specs.Places.{Flagged, Seen, Ahead}
use Rattle.flags.proofs.Places.{seen_none, seen_flags, seen_join, seen_clear, seen_first, some_set}
use Rattle.packed.specs.Packed.{escape, before, unpacked}
use Rattle.packed.specs.Packed.CodeLaws.{front_plain}
use Rattle.codes.specs.Inner.{escape_at, reach_of, Copied16, Looked}
use Rattle.stores.proofs.StoredBytes.{at_block, block_long, put_none, put_more}
use Rattle.packed.proofs.Frame.{Verbatim, verbatim}
use Rattle.codes.proofs.Escape.{escape_there}

pub flagged_16 : (s : List ℕ) (i : ℕ) (b n : List ℕ) (c : List Bool) (m : ℕ) → b ≡ take 16 (drop i s) → n ≡ take 16 (drop (i + 1) s)
    → Flagged (λ j. escape (get_or b j 0) (get_or n j 0)) c 16 → m ≡ weight c → Seen (escape_at s) i 16 m
flagged_16 s i b n c m eb en g em = seen_flags (escape_at s) _ i c m g em at
  where
    at : (j : ℕ) → j < 16 → escape (get_or b j 0) (get_or n j 0) ≡ escape_at s (i + j)
    at j h = (λ z. escape (at_block s b i j eb h z) (at_block s n (i + 1) j en h z)) ∙ ap (λ (x : ℕ). escape (get_or s (i + j) 0) (get_or s x 0)) (omega arith)

pub copied_16 : (s : List ℕ) (i : ℕ) (d : List ℕ) (o : ℕ) (b n d' : List ℕ) (c : List Bool) (m : ℕ) → b ≡ take 16 (drop i s)
    → n ≡ take 16 (drop (i + 1) s) → d' ≡ put d o b → Flagged (λ j. escape (get_or b j 0) (get_or n j 0)) c 16 → m ≡ weight c → Copied16 s i d o m d'
copied_16 s i d o b n d' c m eb en ed g em = record { seen = flagged_16 s i b n c m eb en g em; stored = ed ∙ ap (put d o) eb }

-- bytes that are no ED ED stand for themselves
plain_bytes : (s : List ℕ) (i k : ℕ) → i + k ≤ length s → ((j : ℕ) → j < k → escape_at s (i + j) ≡ false) → Verbatim unpacked s i k
plain_bytes s i k h c =
    verbatim unpacked (λ (l : List ℕ). escape (get_or l 0 0) (get_or l 1 0) ≡ false) (λ x xs. front_plain (x ∷ xs) (omega arith)) s i k h
    (λ j h. escape_there s (i + j) _ (sym (c j h)))

-- 64 bytes are looked at, q times 16 of them done
pub record Looking (s : List ℕ) (i : ℕ) (d₀ : List ℕ) (o : ℕ) (d : List ℕ) (m q : ℕ) : Type 0 where
  pub few : q ≤ 4
  pub long : length d ≡ length d₀
  pub seen : Seen (escape_at s) i (16 * q) m
  pub stored : d ≡ put d₀ o (take (16 * q) (drop i s))

pub looking_none : (s : List ℕ) (i : ℕ) (d : List ℕ) (o : ℕ) → Looking s i d o d 0 0
looking_none s i d o = record { few = omega arith; long = refl; seen = seen_none (escape_at s) i; stored = sym (put_none d o) }

module _ (s : List ℕ) (i : ℕ) (d₀ : List ℕ) (o : ℕ) (d : List ℕ) (m q : ℕ) (g : Looking s i d₀ o d m q) (hs : i + 65 ≤ length s) (hd : o + 64 ≤ length d₀) where
  pub looking_more : (d' : List ℕ) (r : ℕ) → q < 4 → Copied16 s (i + 16 * q) d (o + 16 * q) r d'
      → Looking s i d₀ o d' (bit_or m ((r * 2 ^ (16 * q)) % 18446744073709551616)) (q + 1)
  looking_more d' r h c =
      let e : 16 * q + 16 ≡ 16 * (q + 1) = omega arith in
      let l = block_long s _ (i + 16 * q) 16 (omega arith) refl in
      record {
        few = omega arith;
        long = ap length c.stored ∙ length-put d _ (o + 16 * q) (omega (arith, g.long)) ∙ g.long;
        seen = subst (λ (n : ℕ). Seen (escape_at s) i n (bit_or m ((r * 2 ^ (16 * q)) % 18446744073709551616))) e (seen_join (escape_at s) i (16 * q) m r g.seen c.seen (omega arith));
        stored = put_more s i d₀ d d' o (16 * q) 16 (omega arith) (omega arith) g.stored c.stored ∙ ap (λ (n : ℕ). put d₀ o (take n (drop i s))) e;
      }

  pub looking_all : 4 ≤ q → (before k : ℕ) → k ≡ count_trailing_zeros 64 before → 16 ≤ k → Looked s i d₀ o before m d
  looking_all h before k ek far =
      let n : 16 * q ≡ 64 = omega (arith, g.few) in
      let all : reach_of before ≡ 64 = rw (le-ltb (count_trailing_zeros 64 before) 16 (omega arith)) in
      record {
        kept = λ l. (let x : ⊥ = omega arith in absurd x);
        anew = λ _. subst (λ (n : ℕ). Seen (escape_at s) i n m) n g.seen;
        stored = g.stored ∙ ap (λ (n : ℕ). put d₀ o (take n (drop i s))) (n ∙ sym all);
      }

pub looked_near : (s : List ℕ) (i : ℕ) (d : List ℕ) (o : ℕ) (b d' : List ℕ) (m k : ℕ) → k ≡ count_trailing_zeros 64 m → k < 16 → b ≡ take 16 (drop i s) → d' ≡ put d o b → Looked s i d o m m d'
looked_near s i d o b d' m k e h eb ed =
    let near : reach_of m ≡ 16 = rw (lt-ltb (count_trailing_zeros 64 m) 16 (omega arith)) in
    record {
      kept = λ _. refl;
      anew = λ l. (let x : ⊥ = omega arith in absurd x);
      stored = ed ∙ ap (put d o) (eb ∙ ap (λ (n : ℕ). take n (drop i s)) (sym near));
    }

-- m flags ED ED from i on: the bytes before the first one stand for themselves, or 64 where it flags none
pub record NextCode (s : List ℕ) (i seen m : ℕ) : Type 0 where
  pub ahead : Ahead (escape_at s) i m
  pub part : Verbatim unpacked s i (count_trailing_zeros 64 m)
  pub code : count_trailing_zeros 64 m < 64 → true ≡ escape_at s (i + count_trailing_zeros 64 m)
  pub reach : count_trailing_zeros 64 m ≤ reach_of seen

module _ (s : List ℕ) (i : ℕ) (d₀ : List ℕ) (o seen m : ℕ) (d : List ℕ) (hs : i + 65 ≤ length s) (a : Ahead (escape_at s) i seen) (l : Looked s i d₀ o seen m d) where
  near_code : count_trailing_zeros 64 seen < 16 → NextCode s i seen m
  near_code h =
      let e = l.kept h in
      let near : reach_of seen ≡ 16 = rw (lt-ltb (count_trailing_zeros 64 seen) 16 h) in
      let f = seen_first (escape_at s) i a.places seen a.seen a.most (some_set seen (omega arith)) in
      rw e (record { ahead = a; part = plain_bytes s i _ (omega arith) f.before; code = λ _. sym f.here; reach = omega (arith, near) })

  far_code : 16 ≤ count_trailing_zeros 64 seen → NextCode s i seen m
  far_code h = go (eqb m 0) refl
    where
      new : Seen (escape_at s) i 64 m
      new = l.anew h

      all : reach_of seen ≡ 64
      all = rw (le-ltb (count_trailing_zeros 64 seen) 16 h)

      go : (t : Bool) → eqb m 0 ≡ t → NextCode s i seen m
      go true e =
          let z = eqb-true m 0 e in
          let k : count_trailing_zeros 64 m ≡ 64 = ap (count_trailing_zeros 64) z ∙ trailing_of_zero 64 in
          record {
            ahead = record { places = 64; most = omega arith; seen = new };
            part = plain_bytes s i _ (omega arith) (λ j l. seen_clear (escape_at s) i 64 m new z j (omega arith));
            code = λ l. (let x : ⊥ = omega arith in absurd x);
            reach = omega (arith, all);
          }
      go false e =
          let f = seen_first (escape_at s) i 64 m new (omega arith) (eqb-false m 0 e) in
          record {
            ahead = record { places = 64; most = omega arith; seen = new };
            part = plain_bytes s i _ (omega (arith, f.inside)) f.before;
            code = λ _. sym f.here;
            reach = omega (arith, f.inside, all);
          }

  pub next_code : NextCode s i seen m
  next_code = go (ltb (count_trailing_zeros 64 seen) 16) refl
    where
      go : (t : Bool) → ltb (count_trailing_zeros 64 seen) 16 ≡ t → NextCode s i seen m
      go true e = near_code (ltb-true (count_trailing_zeros 64 seen) 16 e)
      go false e = far_code (ltb-false (count_trailing_zeros 64 seen) 16 e)

-- of 16 places: none is ED ED, or the bytes before the first one stand for themselves
module _ (s : List ℕ) (i m : ℕ) (hs : i + 17 ≤ length s) (g : Seen (escape_at s) i 16 m) where
  pub none_of_16 : count_trailing_zeros 64 m ≡ 64 → Verbatim unpacked s i 16
  none_of_16 e = go (eqb m 0) refl
    where
      go : (t : Bool) → eqb m 0 ≡ t → Verbatim unpacked s i 16
      go true z = plain_bytes s i 16 (omega arith) (seen_clear (escape_at s) i 16 m g (eqb-true m 0 z))
      go false z = let x : ⊥ = omega (arith, (seen_first (escape_at s) i 16 m g (omega arith) (eqb-false m 0 z)).inside) in absurd x

  pub first_of_16 : (count_trailing_zeros 64 m ≡ 64 → ⊥) → (count_trailing_zeros 64 m < 16) × (Verbatim unpacked s i (count_trailing_zeros 64 m) × (true ≡ escape_at s (i + count_trailing_zeros 64 m)))
  first_of_16 h =
      let f = seen_first (escape_at s) i 16 m g (omega arith) (λ z. h (ap (count_trailing_zeros 64) z ∙ trailing_of_zero 64)) in
      (f.inside, (plain_bytes s i _ (omega (arith, f.inside)) f.before, sym f.here))
