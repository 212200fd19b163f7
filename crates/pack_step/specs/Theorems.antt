-- What is claimed of the steps of packing beyond the functions' contracts.
use Rattle.std.specs.Prelude.{ℕ, suc, ◌≤◌, ◌≡◌, List, ◌∷◌, ◌++◌, map, length, drop}
use Rattle.packed.specs.Packed.{front, packed}
use Rattle.packed.specs.Packed.Examples.{table}
use Rattle.pack_step.specs.PackingSteps.{step_of, CaseHolds, steps_of, written_by}
use Rattle.pack_step.specs.PackingSteps.StepCases.{cases_of, cases_due}

pub record Theorems : Type 0 where
  -- packing is step after step, to the end
  pub packed_steps : (xs : List ℕ) → packed xs ≡ written_by (steps_of xs)
  pub packed_step : (x : ℕ) (xs : List ℕ) → packed (x ∷ xs) ≡ (step_of x xs).written ++ packed (drop (step_of x xs).taken (x ∷ xs))
  pub step_some : (x : ℕ) (xs : List ℕ) → (1 ≤ (step_of x xs).taken) × ((step_of x xs).taken ≤ length (x ∷ xs))
  -- of the four cases one always holds, the one that the step answers, and no two hold at once
  pub case_holds : (x : ℕ) (xs : List ℕ) → CaseHolds (step_of x xs).case x (suc (front x xs))
  pub one_case : {c d x n : ℕ} → CaseHolds c x n → CaseHolds d x n → c ≡ d
  -- the cases of P1 to P9
  pub traces : map cases_of table ≡ cases_due
