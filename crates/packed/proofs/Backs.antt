-- What was packed unpacks to itself: from the laws of one step.
use Rattle.std.specs.Prelude.{ℕ, zero, suc, ◌-◌, ◌≤◌, ◌<◌, min, ◌≡◌, refl, Bool, true, false, List, [], ◌∷◌, ◌++◌, take, drop, replicate, eqb, leb}
use Rattle.std.proofs.Common.{not-suc-le-zero, le_of_suc-le-suc, arith, sym, ap, ◌∙◌, eqb-true, leb-true, leb-false}
use Rattle.std.proofs.lemmas.Bool.{eqb-false}
use Rattle.slices.specs.Choose.{choose}
use Rattle.packed.specs.Packed.{bytes, before, unpacked, front, packed}
use Rattle.packed.specs.Packed.CodeLaws.{alone, plain, code, front_plain, unpacked_nil, packed_nil, run_code, single_code, plain_code}

-- the bytes at the front
covered : (x : ℕ) (xs : List ℕ) (k : ℕ) → k ≤ front x xs → replicate k x ++ drop k xs ≡ xs
covered x xs zero h = refl
covered x [] (suc k) h = absurd (not-suc-le-zero h)
covered x (y ∷ ys) (suc k) h = go (eqb y x) refl h (covered x ys k)
  where
    go : (t : Bool) → eqb y x ≡ t → suc k ≤ choose t (suc (front x ys)) 0 → (k ≤ front x ys → replicate k x ++ drop k ys ≡ ys)
        → replicate (suc k) x ++ drop (suc k) (y ∷ ys) ≡ y ∷ ys
    go true e h ih = let q : y ≡ x = eqb-true y x e in rw (q, ih (le_of_suc-le-suc h))
    go false e h ih = absurd (not-suc-le-zero h)

abbrev Back : List ℕ → ℕ → Type 0
Back xs k = unpacked (packed (drop k xs)) ≡ bytes (drop k xs)

run_back : (x : ℕ) (xs : List ℕ) (k : ℕ) → k ≤ front x xs → Back xs k → unpacked ((237 ∷ 237 ∷ suc k ∷ x ∷ []) ++ packed (drop k xs)) ≡ bytes (x ∷ xs)
run_back x xs k h ih =
    code (suc k) x (packed (drop k xs)) (λ e. omega arith)
    ∙ ap (before 4 (replicate (suc k) x)) ih
    ∙ ap (λ (l : List ℕ). bytes (x ∷ l)) (covered x xs k h)

single_back : (xs : List ℕ) → front 237 xs < 1 → Back xs 1 → unpacked ((237 ∷ take 1 xs) ++ packed (drop 1 xs)) ≡ bytes (237 ∷ xs)
single_back [] h ih =
    ap (λ (l : List ℕ). unpacked (237 ∷ l)) packed_nil
    ∙ front_plain (237 ∷ []) (omega arith) refl
    ∙ ap (before 1 (237 ∷ [])) unpacked_nil
single_back (y ∷ ys) h ih = go (eqb y 237) refl h
  where
    go : (t : Bool) → eqb y 237 ≡ t → choose t (suc (front 237 ys)) 0 < 1 → unpacked (237 ∷ y ∷ packed ys) ≡ bytes (237 ∷ y ∷ ys)
    go true e h = let z : ⊥ = omega arith in absurd z
    go false e h =
        alone 237 y (packed ys) e
        ∙ ap (before 1 (237 ∷ [])) (plain y (packed ys) (eqb-false y 237 e) ∙ ap (before 1 (y ∷ [])) ih)

step_back : (x : ℕ) (xs : List ℕ) → ((k : ℕ) → Back xs k) → Back (x ∷ xs) 0
step_back x xs ih = go (eqb x 237) (leb 2 n) (leb 5 n) refl refl refl
  where
    n : ℕ
    n = suc (front x xs)

    coded : (x ≡ 237 → 2 ≤ n) → ((x ≡ 237 → ⊥) → 5 ≤ n) → unpacked (packed (x ∷ xs)) ≡ bytes (x ∷ xs)
    coded h k =
        let e : min n 255 ≡ suc (min n 255 - 1) = omega arith in
        ap unpacked (run_code x xs n refl h k)
        ∙ ap (λ (m : ℕ). unpacked ((237 ∷ 237 ∷ m ∷ x ∷ []) ++ packed (drop (min n 255 - 1) xs))) e
        ∙ run_back x xs (min n 255 - 1) (omega arith) (ih (min n 255 - 1))

    is_single : x ≡ 237 → front x xs < 1 → unpacked (packed (x ∷ xs)) ≡ bytes (x ∷ xs)
    is_single e h =
        ap unpacked (single_code x xs e h) ∙ single_back xs (rw e at h) (ih 1) ∙ ap (λ (y : ℕ). bytes (y ∷ xs)) (sym e)

    go : (t a b : Bool) → eqb x 237 ≡ t → leb 2 n ≡ a → leb 5 n ≡ b → unpacked (packed (x ∷ xs)) ≡ bytes (x ∷ xs)
    go true true b e f g = coded (λ z. leb-true 2 n f) (λ z. absurd (z (eqb-true x 237 e)))
    go true false b e f g = is_single (eqb-true x 237 e) (omega (arith, leb-false 2 n f))
    go false a true e f g = coded (λ z. absurd (eqb-false x 237 e z)) (λ z. leb-true 5 n g)
    go false a false e f g =
        let p : x ≡ 237 → ⊥ = eqb-false x 237 e in
        ap unpacked (plain_code x xs p (omega (arith, leb-false 5 n g))) ∙ plain x (packed xs) p ∙ ap (before 1 (x ∷ [])) (ih 0)

all_back : (xs : List ℕ) (k : ℕ) → Back xs k
all_back [] zero = ap unpacked packed_nil ∙ unpacked_nil
all_back [] (suc k) = ap unpacked packed_nil ∙ unpacked_nil
all_back (x ∷ xs) zero = step_back x xs (all_back xs)
all_back (x ∷ xs) (suc k) = all_back xs k

-- THE LAW: what was packed unpacks to itself
pub unpacked_packed : (xs : List ℕ) → unpacked (packed xs) ≡ bytes xs
unpacked_packed xs = all_back xs 0
