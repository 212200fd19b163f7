-- Laws of one step, which serve proofs only: what a place of packed data stands for, and what a place of plain data packs to. A reviewer may
-- skip this file.
use Rattle.std.specs.Prelude.{ℕ, zero, suc, ◌-◌, ◌≤◌, ◌<◌, min, ◌≡◌, refl, Bool, true, false, List, [], ◌∷◌, ◌++◌, length, get_or, take, drop, replicate, eqb}
use Rattle.std.proofs.Common.{not-suc-le-zero, arith, sym, ap, ◌∙◌, eqb-true, ne_eqb, eq-eqb, le-leb}
use Rattle.std.proofs.lemmas.Bool.{eqb-false, lt-leb}
use Rattle.slices.specs.Choose.{choose, both}
use Rattle.slices.proofs.Chosen.{either}
use Rattle.packed.specs.Packed.{malformed, bytes, before, escape, run, unpacked, front, packed_from, packed}

-- a byte stands for itself where it and the next are not both ED
pub alone : (x b : ℕ) (s : List ℕ) → escape x b ≡ false → unpacked (x ∷ b ∷ s) ≡ before 1 (x ∷ []) (unpacked (b ∷ s))
unfolding unpacked
alone x b [] h = simp h
alone x b (n ∷ []) h = simp h
alone x b (n ∷ y ∷ s) h = simp h

not_escape : (x b : ℕ) → (x ≡ 237 → ⊥) → escape x b ≡ false
not_escape x b h = simp (ne_eqb x 237 h)

pub plain : (x : ℕ) (s : List ℕ) → (x ≡ 237 → ⊥) → unpacked (x ∷ s) ≡ before 1 (x ∷ []) (unpacked s)
unfolding unpacked
plain x [] h = refl
plain x (b ∷ s) h = alone x b s (not_escape x b h)

pub code : (n y : ℕ) (s : List ℕ) → (n ≡ 0 → ⊥) → unpacked (237 ∷ 237 ∷ n ∷ y ∷ s) ≡ before 4 (replicate n y) (unpacked s)
unfolding unpacked
code n y s h = simp (ne_eqb n 0 h)

-- at the front of a list
pub front_plain : (l : List ℕ) → 0 < length l → escape (get_or l 0 0) (get_or l 1 0) ≡ false → unpacked l ≡ before 1 (get_or l 0 0 ∷ []) (unpacked (drop 1 l))
unfolding unpacked
front_plain [] h p = absurd (not-suc-le-zero h)
front_plain (a ∷ []) h p = refl
front_plain (a ∷ b ∷ s) h p = alone a b s p

both_false : (t : Bool) → both t false ≡ true → ⊥
both_false true p = let z : ◌≡◌ {A = ℕ} 0 1 = cc in omega arith
both_false false p = let z : ◌≡◌ {A = ℕ} 0 1 = cc in omega arith

pub front_cut : (l : List ℕ) → length l < 4 → escape (get_or l 0 0) (get_or l 1 0) ≡ true → unpacked l ≡ malformed 0
unfolding unpacked
front_cut [] h p = let z : ⊥ = omega (arith, eqb-true 0 237 p) in absurd z
front_cut (a ∷ []) h p = absurd (both_false (eqb a 237) p)
front_cut (a ∷ b ∷ []) h p = simp p
front_cut (a ∷ b ∷ n ∷ []) h p = simp p
front_cut (a ∷ b ∷ n ∷ y ∷ s) h p = let z : ⊥ = omega arith in absurd z

pub front_run : (l : List ℕ) → 4 ≤ length l → escape (get_or l 0 0) (get_or l 1 0) ≡ true → unpacked l ≡ run (get_or l 2 0) (get_or l 3 0) (unpacked (drop 4 l))
unfolding unpacked
front_run [] h p = let z : ⊥ = omega arith in absurd z
front_run (a ∷ []) h p = let z : ⊥ = omega arith in absurd z
front_run (a ∷ b ∷ []) h p = let z : ⊥ = omega arith in absurd z
front_run (a ∷ b ∷ n ∷ []) h p = let z : ⊥ = omega arith in absurd z
front_run (a ∷ b ∷ n ∷ y ∷ s) h p = simp p

pub unpacked_nil : unpacked [] ≡ bytes []
unfolding unpacked
unpacked_nil = refl

pub packed_nil : packed [] ≡ []
unfolding packed packed_from
packed_nil = refl

pub from_drop : (k : ℕ) (xs : List ℕ) → packed_from k xs ≡ packed (drop k xs)
unfolding packed packed_from
from_drop zero xs = refl
from_drop (suc k) [] = refl
from_drop (suc k) (x ∷ xs) = from_drop k xs

pub run_code : (x : ℕ) (xs : List ℕ) (n : ℕ) → n ≡ suc (front x xs) → (x ≡ 237 → 2 ≤ n) → ((x ≡ 237 → ⊥) → 5 ≤ n)
    → packed (x ∷ xs) ≡ (237 ∷ 237 ∷ min n 255 ∷ x ∷ []) ++ packed (drop (min n 255 - 1) xs)
unfolding packed packed_from
run_code x xs n e h k =
    rw (sym e)
    (either Gives (eqb x 237) _ _
    (λ f. rw (le-leb 2 n (h (eqb-true x 237 f))) (done 237 (sym (eqb-true x 237 f))))
    (λ f. rw (le-leb 5 n (k (eqb-false x 237 f))) (done x refl)))
  where
    Gives : List ℕ → Type 0
    Gives l = l ≡ (237 ∷ 237 ∷ min n 255 ∷ x ∷ []) ++ packed (drop (min n 255 - 1) xs)

    done : (y : ℕ) → y ≡ x → Gives (237 ∷ 237 ∷ min n 255 ∷ y ∷ packed_from (min n 255 - 1) xs)
    done y q =
        ap (λ (z : ℕ). 237 ∷ 237 ∷ min n 255 ∷ z ∷ packed_from (min n 255 - 1) xs) q
        ∙ ap (λ (l : List ℕ). 237 ∷ 237 ∷ min n 255 ∷ x ∷ l) (from_drop (min n 255 - 1) xs)

pub single_code : (x : ℕ) (xs : List ℕ) → x ≡ 237 → front x xs < 1 → packed (x ∷ xs) ≡ (237 ∷ take 1 xs) ++ packed (drop 1 xs)
unfolding packed packed_from
single_code x xs e k = rw (eq-eqb x 237 e, lt-leb 2 (suc (front x xs)) (omega arith)) (ap (λ (l : List ℕ). 237 ∷ (take 1 xs ++ l)) (from_drop 1 xs))

pub plain_code : (x : ℕ) (xs : List ℕ) → (x ≡ 237 → ⊥) → front x xs < 4 → packed (x ∷ xs) ≡ x ∷ packed xs
unfolding packed packed_from
plain_code x xs h k = rw (ne_eqb x 237 h, lt-leb 5 (suc (front x xs)) (omega arith))

pub short_code : (x : ℕ) (xs : List ℕ) → (x ≡ 237 → ⊥) → front x xs < 4 → packed (x ∷ xs) ≡ x ∷ (replicate (front x xs) x ++ packed (drop (front x xs) xs))
short_code x [] h k = plain_code x [] h k
short_code x (y ∷ ys) h k = plain_code x (y ∷ ys) h k ∙ ap (λ (l : List ℕ). x ∷ l) (go (eqb y x) refl k (short_code x ys h))
  where
    go : (t : Bool) → eqb y x ≡ t → choose t (suc (front x ys)) 0 < 4
        → (front x ys < 4 → packed (x ∷ ys) ≡ x ∷ (replicate (front x ys) x ++ packed (drop (front x ys) ys)))
        → packed (y ∷ ys) ≡ replicate (choose t (suc (front x ys)) 0) x ++ packed (drop (choose t (suc (front x ys)) 0) (y ∷ ys))
    go true e k ih = ap (λ (z : ℕ). packed (z ∷ ys)) (eqb-true y x e) ∙ ih (omega arith)
    go false e k ih = refl
