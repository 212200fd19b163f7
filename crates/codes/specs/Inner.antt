-- Contracts of functions that only proved code calls, what one step of a loop leaves: a reviewer may skip this file.
use Rattle.std.specs.Prelude.{ℕ, ◌+◌, ◌<◌, ◌≤◌, ◌≡◌, Bool, List, take, drop, get_or, ltb}
use Rattle.std.specs.Int.Count.{count_trailing_zeros}
use Rattle.flags.specs.Places.{Seen}
use Rattle.slices.specs.Choose.{choose}
use Rattle.slices.specs.Put.{put}
use Rattle.packed.specs.Packed.{escape}

-- whether ED ED stands at p
abbrev pub escape_at : List ℕ → ℕ → Bool
escape_at s p = escape (get_or s p 0) (get_or s (p + 1) 0)

-- m flags ED ED in 16 bytes of s from i on, which are stored
pub record Copied16 (s : List ℕ) (i : ℕ) (d₀ : List ℕ) (o m : ℕ) (d : List ℕ) : Type 0 where
  pub seen : Seen (escape_at s) i 16 m
  pub stored : d ≡ put d₀ o (take 16 (drop i s))

-- how many bytes a look stores: 16 where the next ED ED is nearer than that, and 64
abbrev pub reach_of : ℕ → ℕ
reach_of seen = choose (ltb (count_trailing_zeros 64 seen) 16) 16 64

-- where the next ED ED is near, the flags are kept; else they are new ones, for 64 places
pub record Looked (s : List ℕ) (i : ℕ) (d₀ : List ℕ) (o seen m : ℕ) (d : List ℕ) : Type 0 where
  pub kept : count_trailing_zeros 64 seen < 16 → m ≡ seen
  pub anew : 16 ≤ count_trailing_zeros 64 seen → Seen (escape_at s) i 64 m
  pub stored : d ≡ put d₀ o (take (reach_of seen) (drop i s))
