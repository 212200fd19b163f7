-- What a test is told of a step.
use Rattle.std.specs.Prelude.{ℕ, ◌≡◌, List, [], length, replicate, eqb, ltb}
use Rattle.slices.specs.Choose.{choose, both}
use Rattle.slices.specs.Put.{put}
use Rattle.pack_step.specs.PackingSteps.{PackStep, pack_step}
use Rattle.pack_step.specs.Stepping.{pack_step_at}

-- the step at a place of s, told in n bytes; none where the place is past the end, or where these are not four
abbrev pub told_step : List ℕ → ℕ → ℕ → PackStep
told_step s at n = choose (both (eqb n 4) (ltb at (length s))) (pack_step_at s at) (pack_step 0 [] 0)

-- the step p told: its case is the answer r, what it writes stands at the front of n zeros
pub record TellsStep (p : PackStep) (n r : ℕ) (code : List ℕ) (size taken : ℕ) : Type 0 where
  pub answer : r ≡ p.case
  pub memory : code ≡ put (replicate n 0) 0 p.written
  pub told_size : size ≡ length p.written
  pub told_taken : taken ≡ p.taken
