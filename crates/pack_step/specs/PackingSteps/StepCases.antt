-- The cases that the examples P1 to P9 of document 01 go through.
use Rattle.std.specs.Prelude.{ℕ, ◌≡◌, refl, List, [], ◌∷◌, map}
use Rattle.packed.specs.Packed.Examples.{Example, packs, unpacks, table}
use Rattle.pack_step.specs.PackingSteps.{PackStep, step_of, steps_of, steps_from}

-- the cases of the steps that pack an example
abbrev pub cases_of : Example → List ℕ
cases_of (packs xs ys) = map (λ (s : PackStep). s.case) (steps_of xs)
cases_of (unpacks xs f) = []

unfoldable pub cases_due : List (List ℕ)
cases_due =
    (3 ∷ [])  -- P1
    ∷ (4 ∷ 4 ∷ 4 ∷ 4 ∷ [])  -- P2
    ∷ (2 ∷ [])  -- P3
    ∷ (1 ∷ [])  -- P4
    ∷ (2 ∷ 3 ∷ [])  -- P5
    ∷ (2 ∷ 4 ∷ 4 ∷ 4 ∷ 4 ∷ [])  -- P6
    ∷ (3 ∷ 4 ∷ [])  -- P7
    ∷ (1 ∷ 2 ∷ 3 ∷ [])  -- P8
    ∷ []  -- P9
    ∷ [] ∷ [] ∷ [] ∷ [] ∷ []

pub traces : map cases_of table ≡ cases_due
unfolding table cases_due steps_of steps_from step_of
traces = refl
