-- Contracts of functions that only proved code calls, what one step of a loop leaves: a reviewer may skip this file.
use Rattle.std.specs.Prelude.{ℕ, ◌+◌, ◌≤◌, ◌<◌, ◌≡◌, List, length, leb}
use Rattle.slices.specs.Choose.{choose}
use Rattle.slices.specs.Put.{put}
use Rattle.pack_step.specs.PackingSteps.{PackStep}
use Rattle.pack_step.specs.declared.MadeStep.{MadeStep}
use Rattle.stretches.specs.Inner.{Stopped}
use Rattle.stretches.specs.declared.Stop.{Stop}
use Rattle.pack_step.specs.Stepping.{pack_step_at, step_answer}

-- So many steps of case 4 from i on, made at once, and nothing else. Where 20 bytes are left of both it is a look at 16 places: the steps end
-- before the first where another case may hold, and 17 bytes of s are stored. Else there is no step, and nothing is stored.
pub record PlainSteps (s : List ℕ) (i : ℕ) (d₀ : List ℕ) (o : ℕ) (r : Stop) (d : List ℕ) : Type 0 where
  pub each : (j : ℕ) → j < r.at → (pack_step_at s (i + j)).case ≡ 4
  pub looked : i + 20 ≤ length s → o + 20 ≤ length d₀ → Stopped s i d₀ o r.at r.unlike d
  pub near_end : (i + 20 ≤ length s → o + 20 ≤ length d₀ → ⊥) → (r ≡ record { at = 0; unlike = 0 }) × (d ≡ d₀)

-- bytes written over others where there is room for them
abbrev pub put_within : List ℕ → ℕ → List ℕ → List ℕ
put_within d o ws = choose (leb (o + length ws) (length d)) (put d o ws) d

-- the step p is made, and what it writes is written where there is room
pub record StepWithin (p : PackStep) (d₀ : List ℕ) (o : ℕ) (r : MadeStep) (d : List ℕ) : Type 0 where
  pub answer : r ≡ step_answer p
  pub memory : d ≡ put_within d₀ o p.written
