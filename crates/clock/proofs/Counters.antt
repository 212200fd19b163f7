-- The frame clock, both ways.
use Prim.Native.Nat.{ℕ, ◌<◌}
use mathlib.Core.Path.{◌≡◌}
use native.Mathlib.Omega.{arith}
use Rattle.pages.specs.declared.Model.{Model}
use Rattle.pages.specs.declared.Model.TheVariants.{K48, K128}
use Rattle.clock.specs.Clock.{quarter, clock_end, position_of, low_of, high_of}

pub position_back : (k : Model) (p : ℕ) → p < clock_end k → position_of k (low_of k p) (high_of k p) ≡ p
position_back K48 p h = omega arith
position_back K128 p h = omega arith

pub counters_back : (k : Model) (low high : ℕ) → low < quarter k → high < 4 → (low_of k (position_of k low high) ≡ low) × (high_of k (position_of k low high) ≡ high)
counters_back K48 low high h g = (omega arith, omega arith)
counters_back K128 low high h g = (omega arith, omega arith)
