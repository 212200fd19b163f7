-- Flags as a number. Only packing's proofs use it: a reviewer may skip it.
use Rattle.std.specs.Prelude.{ℕ, ◌+◌, ◌*◌, Bool, true, false, List, [], ◌∷◌}

-- a flag as a digit
abbrev pub digit : Bool → ℕ
digit true = 1
digit false = 0

-- the flags as a number, the first one lowest
unfoldable pub weight : List Bool → ℕ
weight [] = 0
weight (b ∷ bs) = digit b + 2 * weight bs
