-- Contracts of functions that only proved code calls, what one step of a loop leaves: a reviewer may skip this file.
use Rattle.std.specs.Prelude.{ℕ, suc, ◌+◌, ◌≤◌, min, ◌≡◌, Bool, not, List, eqb, length, drop, get_or}
use Rattle.packed.specs.Packed.{front}

-- what is left of the run at i
abbrev pub run_at : List ℕ → ℕ → ℕ
run_at s i = suc (front (get_or s i 0) (drop (i + 1) s))

-- r is what is left of the run at i, at most 255
pub record RunLeft (s : List ℕ) (i r : ℕ) : Type 0 where
  pub counted : r ≡ min (run_at s i) 255
  pub inside : i + r ≤ length s

-- whether the byte at p is unlike the next
abbrev pub unlike_at : List ℕ → ℕ → Bool
unlike_at s p = not (eqb (get_or s p 0) (get_or s (p + 1) 0))
