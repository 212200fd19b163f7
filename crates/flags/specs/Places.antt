-- Flags that say something of places: flag number j of the place j after a first one. Only packing's proofs use it: a reviewer may skip it.
use Rattle.std.specs.Prelude.{ℕ, ◌+◌, ◌≤◌, ◌<◌, ◌≡◌, Bool, true, false, List, length, get_or}
use Rattle.flags.specs.Weight.{weight}

-- sixteen flags, of which the first k say what f says
pub record Flagged (f : ℕ → Bool) (c : List Bool) (k : ℕ) : Type 0 where
  pub most : k ≤ 16
  pub long : length c ≡ 16
  pub each : (j : ℕ) → j < k → get_or c j false ≡ f j

-- the number m says what f says of n places from i on
pub record Seen (f : ℕ → Bool) (i n m : ℕ) : Type 0 where
  pub flags : List Bool
  pub long : length flags ≡ n
  pub number : m ≡ weight flags
  pub each : (j : ℕ) → j < n → get_or flags j false ≡ f (i + j)

-- of n places from i on, f holds first of the one that is k after i
pub record First (f : ℕ → Bool) (i n k : ℕ) : Type 0 where
  pub inside : k < n
  pub before : (j : ℕ) → j < k → f (i + j) ≡ false
  pub here : f (i + k) ≡ true

-- the number m says what f says of some places from i on, at most 64
pub record Ahead (f : ℕ → Bool) (i m : ℕ) : Type 0 where
  pub places : ℕ
  pub most : places ≤ 64
  pub seen : Seen f i places m
