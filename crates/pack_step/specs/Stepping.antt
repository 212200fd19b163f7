-- What the packer's step answers and leaves: the promise of `pack_step`.
use Rattle.std.specs.Prelude.{ℕ, ◌+◌, ◌≡◌, List, length, get_or, drop}
use Rattle.slices.specs.Put.{put}
use Rattle.pack_step.specs.PackingSteps.{PackStep, step_of}
use Rattle.pack_step.specs.declared.MadeStep.{MadeStep}

-- the step at place i of s
unfoldable pub pack_step_at : List ℕ → ℕ → PackStep
pack_step_at s i = step_of (get_or s i 0) (drop (i + 1) s)

-- what is told of a step: its case, how many bytes it stands for, how many it writes
abbrev pub step_answer : PackStep → MadeStep
step_answer p = record { case = p.case; taken = p.taken; size = length p.written }

-- the step p is made: the answer r, and what it writes, over d₀ from o on, is d
pub record MakesStep (p : PackStep) (d₀ : List ℕ) (o : ℕ) (r : MadeStep) (d : List ℕ) : Type 0 where
  pub answer : r ≡ step_answer p
  pub memory : d ≡ put d₀ o p.written
