-- Contracts of functions that only proved code calls: a reviewer may skip this file.
use Rattle.std.specs.Prelude.{ℕ, ◌≤◌, ◌≡◌, List, length}
use Rattle.session.specs.declared.Counts.{Counts}
use Rattle.log_steps.specs.Steps.{capacity}

-- what a call is lent once 20, 21 and 29 are behind it
pub record Ready (memory log : List ℕ) (n : Counts) (cap : ℕ) : Type 0 where
  pub capped : cap ≡ capacity (length log)
  pub area : length memory ≡ 131072
  pub ordered : n.standing ≤ n.total
  pub within : n.total ≤ cap
