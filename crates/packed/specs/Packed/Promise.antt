-- Proofs of what specs/Theorems states of packing, here because the definitions are shut: a reviewer may skip this file.
use Rattle.std.specs.Prelude.{ℕ, zero, suc, ◌+◌, ◌-◌, ◌*◌, ◌/◌, ◌≤◌, min, ◌≡◌, refl, Bool, true, false, List, [], ◌∷◌, length, get_or, eqb, leb}
use Rattle.std.proofs.Common.{arith, sym, ap, ◌∙◌, length-append, length-take, eqb-true, leb-true, leb-false}
use Rattle.std.proofs.Math.Nat.{suc-sub-suc}
use Rattle.std.proofs.lemmas.Bool.{eqb-false}
use Rattle.slices.specs.Choose.{choose}
use Rattle.slices.proofs.Chosen.{either}
use Rattle.packed.specs.Packed.{front, packed_from, packed}

pub front_ends : (x : ℕ) (xs : List ℕ) (d : ℕ) → (d ≡ x → ⊥) → get_or xs (front x xs) d ≡ x → ⊥
front_ends x [] d h = h
front_ends x (y ∷ ys) d h = go (eqb y x) refl (front_ends x ys d h)
  where
    go : (t : Bool) → eqb y x ≡ t → (get_or ys (front x ys) d ≡ x → ⊥) → get_or (y ∷ ys) (choose t (suc (front x ys)) 0) d ≡ x → ⊥
    go true e ih = ih
    go false e ih = eqb-false y x e

pub front_le : (x : ℕ) (xs : List ℕ) → front x xs ≤ length xs
front_le x [] = omega arith
front_le x (y ∷ ys) =
    let ih = front_le x ys in
    either (λ (n : ℕ). n ≤ suc (length ys)) (eqb y x) (suc (front x ys)) 0 (λ e. omega arith) (λ e. omega arith)

-- l bytes are few enough for r bytes packed; fewer where the first of these is not ED
Few : ℕ → ℕ → ℕ → Type 0
Few l r x = (l ≤ r + 2 * ((r + 1) / 3)) × ((x ≡ 237 → ⊥) → l ≤ r + 2 * (r / 3))

Short : List ℕ → ℕ → Type 0
Short xs k = Few (length (packed_from k xs)) (length xs - k) (get_or xs k 0)

step_short : (x : ℕ) (xs : List ℕ) → ((k : ℕ) → Short xs k) → Short (x ∷ xs) 0
unfolding Short Few packed_from
step_short x xs ih =
    either Gives (eqb x 237) _ _
    (λ e. let q : x ≡ 237 = eqb-true x 237 e in
    either Gives (leb 2 n) _ _
    (λ f. either (λ (b : Bool). Gives long) (leb 3 n) true false (λ g. three q (leb-true 3 n g)) (λ g. two q (omega (arith, leb-true 2 n f, leb-false 3 n g))))
    (λ f. (simp (length-append, length-take) (omega (arith, (ih 1).0)), λ z. absurd (z q))))
    (λ e. either Gives (leb 5 n) _ _
    (λ f. let h = leb-true 5 n f in (omega (arith, (ih (min n 255 - 1)).0, front_le x xs), λ z. omega (arith, (ih (min n 255 - 1)).0, front_le x xs)))
    (λ f. (omega (arith, (ih 0).0), λ z. omega (arith, (ih 0).0))))
  where
    n : ℕ
    n = suc (front x xs)

    long : List ℕ
    long = 237 ∷ 237 ∷ min n 255 ∷ x ∷ packed_from (min n 255 - 1) xs

    Gives : List ℕ → Type 0
    Gives l = Few (length l) (suc (length xs) - 0) x

    three : x ≡ 237 → 3 ≤ n → Gives long
    three q h = (omega (arith, (ih (min n 255 - 1)).0, front_le x xs), λ z. absurd (z q))

    two : x ≡ 237 → front x xs ≡ 1 → Gives long
    two q h =
        let k : min n 255 - 1 ≡ 1 = omega arith in
        let d : get_or xs 1 0 ≡ 237 → ⊥ = λ e. front_ends x xs 0 (λ z. omega arith) (ap (λ (i : ℕ). get_or xs i 0) h ∙ e ∙ sym q) in
        (rw k (omega (arith, (ih 1).1 d, front_le x xs)), λ z. absurd (z q))

all_short : (xs : List ℕ) (k : ℕ) → Short xs k
unfolding Short Few packed_from
all_short [] zero = (omega arith, λ z. omega arith)
all_short [] (suc k) = (omega arith, λ z. omega arith)
all_short (x ∷ xs) zero = step_short x xs (all_short xs)
all_short (x ∷ xs) (suc k) = (simp suc-sub-suc (all_short xs k).0, simp suc-sub-suc (all_short xs k).1)

-- how long packed data is at most
pub packed_short : (xs : List ℕ) → length (packed xs) ≤ length xs + 2 * ((length xs + 1) / 3)
unfolding Short Few packed
packed_short xs = omega (arith, (all_short xs 0).0)

pub page_short : (xs : List ℕ) → length xs ≡ 16384 → length (packed xs) ≤ 27306
page_short xs h = omega (arith, packed_short xs)
