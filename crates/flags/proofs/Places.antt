-- Flags of places, taken over, joined, shifted, and the first one that is set.
use Prim.Native.Nat.{ℕ, ◌+◌, ◌-◌, ◌*◌, ◌/◌, ◌%◌, ◌^◌, ◌≤◌, ◌<◌}
use native.Mathlib.Nat.{not-suc-le-zero}
use native.Mathlib.Omega.{arith}
use mathlib.Core.Path.{◌≡◌, refl, sym, ap, ◌∙◌}
use mathlib.Core.Bool.{Bool, true, false}
use mathlib.Core.List.{List, [], ◌++◌}
use lib.ListN.{length, get_or, drop, set, replicate, length-append, length-drop, length-set, length-replicate, get_or-append}
use lib.Seq.{get_or-drop, get_or-append-add, get_or-set_same, get_or-set_other}
use lib.Dec.{ltb}
use lib.Bits.{bit_or, or_comm}
use lib.Count.{count_trailing_zeros, trailing_of_zero, trailing_le}
use borrow.Author.Count.{below_more}
use borrow.Author.Tests.{ltb-true, ltb-false}
use Rattle.flags.specs.Weight.{weight}
use Rattle.flags.specs.Places.{Flagged, Seen, First, Ahead}
use Rattle.flags.proofs.Weights.{weight_join, weight_drop, none_set, lowest}

-- flags set one by one
pub flagged_none : (f : ℕ → Bool) → Flagged f (replicate 16 false) 0
flagged_none f = record { most = omega arith; long = length-replicate 16 false; each = λ j h. absurd (not-suc-le-zero h) }

pub flagged_more : (f : ℕ → Bool) (c : List Bool) (k : ℕ) (t : Bool) → Flagged f c k → k < 16 → t ≡ f k → Flagged f (set c k t) (k + 1)
flagged_more f c k t g h e =
    record {
      most = omega arith;
      long = length-set c k t ∙ g.long;
      each = below_more _ _ (λ j l. get_or-set_other c k j t false (λ q. omega arith) ∙ g.each j l) (get_or-set_same c k t false (omega (arith, g.long)) ∙ e);
    }

pub flagged_all : (f : ℕ → Bool) (c : List Bool) (k : ℕ) → Flagged f c k → 16 ≤ k → Flagged f c 16
flagged_all f c k g h = record { most = omega arith; long = g.long; each = λ j l. g.each j (omega arith) }

-- no place
pub seen_none : (f : ℕ → Bool) (i : ℕ) → Seen f i 0 0
unfolding weight
seen_none f i = record { flags = []; long = refl; number = refl; each = λ j h. absurd (not-suc-le-zero h) }

-- sixteen places
pub seen_flags : (f g : ℕ → Bool) (i : ℕ) (c : List Bool) (m : ℕ) → Flagged g c 16 → m ≡ weight c → ((j : ℕ) → j < 16 → g j ≡ f (i + j)) → Seen f i 16 m
seen_flags f g i c m h e k = record { flags = c; long = h.long; number = e; each = λ j l. h.each j l ∙ k j l }

-- sixteen places after others
pub seen_join : (f : ℕ → Bool) (i n a b : ℕ) → Seen f i n a → Seen f (i + n) 16 b → n + 16 ≤ 64 → Seen f i (n + 16) (bit_or a ((b * 2 ^ n) % 18446744073709551616))
seen_join f i n a b x y h =
    record {
      flags = x.flags ++ y.flags;
      long = length-append x.flags y.flags ∙ omega (arith, x.long, y.long);
      number =
          or_comm a ((b * 2 ^ n) % 18446744073709551616)
          ∙ (λ z. bit_or ((y.number z * 2 ^ n) % 18446744073709551616) (x.number z))
          ∙ weight_join x.flags y.flags n 64 x.long (omega (arith, y.long));
      each = λ j l. go j l (ltb j n) refl;
    }
  where
    go : (j : ℕ) → j < n + 16 → (t : Bool) → ltb j n ≡ t → get_or (x.flags ++ y.flags) j false ≡ f (i + j)
    go j l true e =
        let k : j < n = ltb-true j n e in
        get_or-append x.flags y.flags false j (omega (arith, x.long)) ∙ x.each j k
    go j l false e =
        let k : n ≤ j = ltb-false j n e in
        let q : length x.flags + (j - n) ≡ j = omega (arith, x.long) in
        let r : i + n + (j - n) ≡ i + j = omega arith in
        ap (λ (p : ℕ). get_or (x.flags ++ y.flags) p false) (sym q)
        ∙ get_or-append-add x.flags y.flags (j - n) false ∙ y.each (j - n) (omega arith) ∙ ap f r

-- the places from k on
pub seen_after : (f : ℕ → Bool) (i n m : ℕ) → Seen f i n m → (k : ℕ) → Seen f (i + k) (n - k) (m / 2 ^ k)
seen_after f i n m g k =
    record {
      flags = drop k g.flags;
      long = length-drop k g.flags ∙ ap (λ (x : ℕ). x - k) g.long;
      number = ap (λ (x : ℕ). x / 2 ^ k) g.number ∙ sym (weight_drop k g.flags);
      each = λ j h. (let e : i + (k + j) ≡ i + k + j = omega arith in get_or-drop k g.flags j false ∙ g.each (k + j) (omega arith) ∙ ap f e);
    }

pub ahead_none : (f : ℕ → Bool) (i : ℕ) → Ahead f i 0
ahead_none f i = record { places = 0; most = omega arith; seen = seen_none f i }

pub ahead_after : (f : ℕ → Bool) (i m : ℕ) → Ahead f i m → (k : ℕ) → Ahead f (i + k) (m / 2 ^ k)
ahead_after f i m g k = record { places = g.places - k; most = omega (arith, g.most); seen = seen_after f i g.places m g.seen k }

-- where the number is 0, f holds nowhere among the places
pub seen_clear : (f : ℕ → Bool) (i n m : ℕ) → Seen f i n m → m ≡ 0 → (j : ℕ) → j < n → f (i + j) ≡ false
seen_clear f i n m g e j h = sym (g.each j h) ∙ none_set g.flags (sym g.number ∙ e) j

-- where it is not, its trailing zeros lead to the first place
pub seen_first : (f : ℕ → Bool) (i n m : ℕ) → Seen f i n m → n ≤ 64 → (m ≡ 0 → ⊥) → First f i n (count_trailing_zeros 64 m)
seen_first f i n m g h z =
    let k : count_trailing_zeros 64 m ≡ count_trailing_zeros 64 (weight g.flags) = ap (count_trailing_zeros 64) g.number in
    let l = lowest 64 g.flags (omega (arith, g.long)) (λ e. z (g.number ∙ e)) in
    let inside : count_trailing_zeros 64 m < n = omega (arith, l.inside, g.long) in
    record {
      inside = inside;
      before = λ j q. sym (g.each j (omega arith)) ∙ l.before j (omega arith);
      here = sym (g.each (count_trailing_zeros 64 m) inside) ∙ ap (λ (x : ℕ). get_or g.flags x false) k ∙ l.here;
    }

-- a number with fewer than 64 trailing zeros is not 0
pub some_set : (m : ℕ) → count_trailing_zeros 64 m < 64 → m ≡ 0 → ⊥
some_set m h e = omega (arith, ap (count_trailing_zeros 64) e ∙ trailing_of_zero 64)

pub first_few : (m k : ℕ) → k ≡ count_trailing_zeros 64 m → k ≤ 64
first_few m k e = omega (arith, trailing_le 64 m)
