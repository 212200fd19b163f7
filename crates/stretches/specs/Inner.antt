-- Contracts of functions that only proved code calls, what one step of a loop leaves: a reviewer may skip this file.
use Rattle.std.specs.Prelude.{ℕ, ◌+◌, ◌-◌, ◌<◌, ◌≤◌, Bool, true, false, ◌||◌, ◌&&◌, ◌≡◌, List, get_or, take, drop, eqb}
use Rattle.slices.specs.Put.{put}
use Rattle.flags.specs.Places.{Seen}
use Rattle.packed.specs.Packed.{ED}
use Rattle.runs.specs.Inner.{unlike_at}

-- whether a code may begin at x, y being the next byte and z the fourth after it
abbrev pub may_code : ℕ → ℕ → ℕ → Bool
may_code x y z = eqb x ED || (eqb x y && eqb z y)

-- whether a code may begin at p
abbrev pub may_code_at : List ℕ → ℕ → Bool
may_code_at s p = may_code (get_or s p 0) (get_or s (p + 1) 0) (get_or s (p + 4) 0)

-- of 16 places from i on, k before the first where a code may begin; u flags the bytes unlike the next from there on; 17 are stored
pub record Stopped (s : List ℕ) (i : ℕ) (d₀ : List ℕ) (o k u : ℕ) (d : List ℕ) : Type 0 where
  pub few : k ≤ 16
  pub before : (j : ℕ) → j < k → may_code_at s (i + j) ≡ false
  pub here : k < 16 → may_code_at s (i + k) ≡ true
  pub unlike : Seen (unlike_at s) (i + k) (16 - k) u
  pub stored : d ≡ put d₀ o (take 17 (drop i s))
