-- What holds of each step, by its cases, and of packing, by its steps.
use Rattle.std.specs.Prelude.{ℕ, zero, suc, ◌-◌, ◌≤◌, ◌<◌, min, ◌≡◌, refl, Bool, true, false, List, [], ◌∷◌, ◌++◌, length, take, drop, eqb, leb}
use Rattle.std.proofs.Common.{arith, sym, ap, ◌∙◌, length-take, eqb-true, leb-true, leb-false}
use Rattle.std.proofs.lemmas.Bool.{eqb-false}
use Rattle.slices.proofs.Chosen.{either}
use Rattle.packed.specs.Packed.{front, packed}
use Rattle.packed.specs.Packed.CodeLaws.{packed_nil, run_code, single_code, plain_code}
use Rattle.packed.specs.Packed.Promise.{front_le}
use Rattle.pack_step.specs.PackingSteps.{PackStep, pack_step, step_of, CaseHolds, many_ED, single_ED, many, otherwise, steps_from, steps_of, written_by}
use Rattle.pack_step.specs.PackingSteps.StepLaws.{step_many_ED, step_single_ED, step_many, step_otherwise, steps_all, steps_nil, steps_past, steps_next, written_nil, written_next}

-- what holds in each of the four cases holds of the step
pub by_case {ℓ} : (P : PackStep → Type ℓ) (x : ℕ) (xs : List ℕ) (n : ℕ) → n ≡ suc (front x xs)
    → (x ≡ 237 → 2 ≤ n → P (pack_step 1 (237 ∷ 237 ∷ min n 255 ∷ 237 ∷ []) (min n 255)))
    → (x ≡ 237 → n ≡ 1 → P (pack_step 2 (237 ∷ take 1 xs) (length (237 ∷ take 1 xs))))
    → ((x ≡ 237 → ⊥) → 5 ≤ n → P (pack_step 3 (237 ∷ 237 ∷ min n 255 ∷ x ∷ []) (min n 255)))
    → ((x ≡ 237 → ⊥) → n < 5 → P (pack_step 4 (x ∷ []) 1))
    → P (step_of x xs)
by_case P x xs n q a b c d = go (eqb x 237) refl
  where
    go : (t : Bool) → eqb x 237 ≡ t → P (step_of x xs)
    go true e =
        let v = eqb-true x 237 e in
        either (λ (_ : Bool). P (step_of x xs)) (leb 2 n) true false
        (λ f. let h = leb-true 2 n f in rw (step_many_ED x xs n q v h) (a v h))
        (λ f. let h : n ≡ 1 = omega (arith, leb-false 2 n f) in rw (step_single_ED x xs n q v h) (b v h))
    go false e =
        let v = eqb-false x 237 e in
        either (λ (_ : Bool). P (step_of x xs)) (leb 5 n) true false
        (λ f. let h = leb-true 5 n f in rw (step_many x xs n q v h) (c v h))
        (λ f. let h = leb-false 5 n f in rw (step_otherwise x xs n q v h) (d v h))

-- a step of case 4 is one plain byte
pub case_plain : (x : ℕ) (xs : List ℕ) → (step_of x xs).case ≡ 4 → step_of x xs ≡ pack_step 4 (x ∷ []) 1
case_plain x xs =
    by_case (λ (s : PackStep). s.case ≡ 4 → s ≡ pack_step 4 (x ∷ []) 1) x xs (suc (front x xs)) refl (λ e h z. absurd (omega arith)) (λ e h z. absurd (omega arith)) (λ e h z. absurd (omega arith))
    (λ e h z. refl)

-- a step takes a byte or more, and no more than there are, and writes at most four
pub step_most : (x : ℕ) (xs : List ℕ) → length (step_of x xs).written ≤ 4
step_most x xs =
    by_case (λ (s : PackStep). length s.written ≤ 4) x xs (suc (front x xs)) refl (λ e h. omega arith) (λ e h. omega (arith, length-take 1 xs)) (λ e h. omega arith) (λ e h. omega arith)

pub step_some : (x : ℕ) (xs : List ℕ) → (1 ≤ (step_of x xs).taken) × ((step_of x xs).taken ≤ length (x ∷ xs))
step_some x xs =
    by_case (λ (s : PackStep). (1 ≤ s.taken) × (s.taken ≤ length (x ∷ xs))) x xs (suc (front x xs)) refl
    (λ e h. (omega arith, omega (arith, front_le x xs)))
    (λ e h. (omega arith, omega (arith, length-take 1 xs)))
    (λ e h. (omega arith, omega (arith, front_le x xs)))
    (λ e h. (omega arith, omega arith))

-- the case that the step answers is the one that holds there
pub case_holds : (x : ℕ) (xs : List ℕ) → CaseHolds (step_of x xs).case x (suc (front x xs))
case_holds x xs =
    by_case (λ (s : PackStep). CaseHolds s.case x n) x xs n refl many_ED single_ED many
    (λ e h. otherwise (λ z _. e z) (λ z _. e z) (λ _ k. omega arith))
  where
    n : ℕ
    n = suc (front x xs)

-- no two of the four hold at once
pub one_case : {c d x n : ℕ} → CaseHolds c x n → CaseHolds d x n → c ≡ d
one_case (many_ED e h) (many_ED f k) = refl
one_case (many_ED e h) (single_ED f k) = let z : ⊥ = omega arith in absurd z
one_case (many_ED e h) (many f k) = absurd (f e)
one_case (many_ED e h) (otherwise f g k) = absurd (f e h)
one_case (single_ED e h) (many_ED f k) = let z : ⊥ = omega arith in absurd z
one_case (single_ED e h) (single_ED f k) = refl
one_case (single_ED e h) (many f k) = absurd (f e)
one_case (single_ED e h) (otherwise f g k) = absurd (g e h)
one_case (many e h) (many_ED f k) = absurd (e f)
one_case (many e h) (single_ED f k) = absurd (e f)
one_case (many e h) (many f k) = refl
one_case (many e h) (otherwise f g k) = absurd (k e h)
one_case (otherwise e f g) (many_ED h k) = absurd (e h k)
one_case (otherwise e f g) (single_ED h k) = absurd (f h k)
one_case (otherwise e f g) (many h k) = absurd (g h k)
one_case (otherwise e f g) (otherwise h k l) = refl

-- what is left after a single ED and the byte after it
after_single : (xs : List ℕ) → drop (length (take 1 xs)) xs ≡ drop 1 xs
after_single [] = refl
after_single (y ∷ ys) = refl

-- packing is a step, and then packing what it has not taken
pub packed_step : (x : ℕ) (xs : List ℕ) → packed (x ∷ xs) ≡ (step_of x xs).written ++ packed (drop (step_of x xs).taken (x ∷ xs))
packed_step x xs =
    by_case Gives x xs n refl
    (λ e h. coded 1 237 e (λ _. h) (λ f. absurd (f e)))
    (λ e h. single_code x xs e (omega arith) ∙ ap (λ (l : List ℕ). (237 ∷ take 1 xs) ++ packed l) (sym (after_single xs)))
    (λ e h. coded 3 x refl (λ f. absurd (e f)) (λ _. h))
    (λ e h. plain_code x xs e (omega arith))
  where
    n : ℕ
    n = suc (front x xs)

    Gives : PackStep → Type 0
    Gives s = packed (x ∷ xs) ≡ s.written ++ packed (drop s.taken (x ∷ xs))

    coded : (c y : ℕ) → x ≡ y → (x ≡ 237 → 2 ≤ n) → ((x ≡ 237 → ⊥) → 5 ≤ n) → Gives (pack_step c (237 ∷ 237 ∷ min n 255 ∷ y ∷ []) (min n 255))
    coded c y q h k =
        let e : min n 255 ≡ suc (min n 255 - 1) = omega arith in
        run_code x xs n refl h k
        ∙ ap (λ (z : ℕ). (237 ∷ 237 ∷ min n 255 ∷ z ∷ []) ++ packed (drop (min n 255 - 1) xs)) q
        ∙ ap (λ (m : ℕ). (237 ∷ 237 ∷ min n 255 ∷ y ∷ []) ++ packed (drop m (x ∷ xs))) (sym e)

-- what is packed is what the steps write
steps_write : (k : ℕ) (xs : List ℕ) → packed (drop k xs) ≡ written_by (steps_from k xs)
steps_write zero [] = packed_nil ∙ sym (ap written_by (steps_nil 0) ∙ written_nil)
steps_write (suc k) [] = packed_nil ∙ sym (ap written_by (steps_nil (suc k)) ∙ written_nil)
steps_write (suc k) (x ∷ xs) = steps_write k xs ∙ sym (ap written_by (steps_past k x xs))
steps_write zero (x ∷ xs) =
    let k = (step_of x xs).taken in
    let e : k ≡ suc (k - 1) = omega (arith, (step_some x xs).0) in
    packed_step x xs
    ∙ ap (λ (l : List ℕ). (step_of x xs).written ++ l) (ap (λ (m : ℕ). packed (drop m (x ∷ xs))) e ∙ steps_write ((step_of x xs).taken - 1) xs)
    ∙ sym (ap written_by (steps_next x xs) ∙ written_next (step_of x xs) (steps_from ((step_of x xs).taken - 1) xs))

pub packed_steps : (xs : List ℕ) → packed xs ≡ written_by (steps_of xs)
packed_steps xs = steps_write 0 xs ∙ ap written_by (sym (steps_all xs))
