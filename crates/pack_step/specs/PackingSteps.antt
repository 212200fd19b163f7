-- The steps of packing: document 01, "Packed data", its four cases in its order. What they write is `packed`: specs/Theorems.
-- The definitions are shut: outside this file and PackingSteps/ only the laws of PackingSteps/ speak of them.
pub mod StepLaws
pub mod StepCases
use Rattle.std.specs.Prelude.{ℕ, zero, suc, ◌-◌, ◌≤◌, min, ◌≡◌, not, List, [], ◌∷◌, ◌++◌, length, take, eqb, leb}
use Rattle.slices.specs.Choose.{choose, both}
use Rattle.packed.specs.Packed.{ED, front}

-- What one step of packing does: which of the four cases it is, the bytes that it writes, and how many bytes these stand for.
pub record PackStep : Type 0 where
  pub case : ℕ
  pub written : List ℕ
  pub taken : ℕ

abbrev pub pack_step : ℕ → List ℕ → ℕ → PackStep
pack_step c ws k = record { case = c; written = ws; taken = k }

-- "Packing goes from the left over whole runs, n being what is left of the run." The step at x, with xs after it; each case beside its sentence.
pub step_of : ℕ → List ℕ → PackStep
step_of x xs =
    let n = suc (front x xs) in
    -- "ED with n at least 2: ED ED min(n,255) ED."
    choose (both (eqb x ED) (leb 2 n)) (pack_step 1 (ED ∷ ED ∷ min n 255 ∷ ED ∷ []) (min n 255))
    -- "ED with n = 1: ED, and the next byte, if there is one, is written plain."
    (choose (both (eqb x ED) (eqb n 1)) (pack_step 2 (ED ∷ take 1 xs) (length (ED ∷ take 1 xs)))
    -- "Another byte with n at least 5: ED ED min(n,255) byte."
    (choose (both (not (eqb x ED)) (leb 5 n)) (pack_step 3 (ED ∷ ED ∷ min n 255 ∷ x ∷ []) (min n 255))
    -- "Otherwise: one plain byte."
    (pack_step 4 (x ∷ []) 1)))

-- When each case holds at a byte x, n being what is left of the run: the conditions alone, in the paper's words.
pub data CaseHolds : ℕ → ℕ → ℕ → Type 0 where
  -- "ED with n at least 2"
  many_ED : {x n : ℕ} → x ≡ ED → 2 ≤ n → CaseHolds 1 x n
  -- "ED with n = 1"
  single_ED : {x n : ℕ} → x ≡ ED → n ≡ 1 → CaseHolds 2 x n
  -- "Another byte with n at least 5"
  many : {x n : ℕ} → (x ≡ ED → ⊥) → 5 ≤ n → CaseHolds 3 x n
  -- "Otherwise"
  otherwise : {x n : ℕ} → (x ≡ ED → 2 ≤ n → ⊥) → (x ≡ ED → n ≡ 1 → ⊥) → ((x ≡ ED → ⊥) → 5 ≤ n → ⊥) → CaseHolds 4 x n

-- Step after step, to the end. The first k bytes are passed over: the step before stands for them.
pub steps_from : ℕ → List ℕ → List PackStep
steps_from k [] = []
steps_from (suc k) (x ∷ xs) = steps_from k xs
steps_from zero (x ∷ xs) = let s = step_of x xs in s ∷ steps_from (s.taken - 1) xs

pub steps_of : List ℕ → List PackStep
steps_of xs = steps_from 0 xs

-- all that steps write, one after the other
pub written_by : List PackStep → List ℕ
written_by [] = []
written_by (s ∷ ss) = s.written ++ written_by ss
