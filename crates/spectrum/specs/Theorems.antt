-- What is claimed of the machine beyond the functions' contracts.
use Rattle.std.specs.Prelude.{ℕ, ◌<◌, ◌≡◌, true}
use Rattle.spectrum.specs.declared.Machine.{Machine}
use Rattle.pages.specs.declared.Model.{Model}
use Rattle.numbers.specs.Numbers.{Answer, accepted, number_of}
use Rattle.clock.specs.Clock.{quarter, clock_end, position_of, low_of, high_of}
use Rattle.spectrum.specs.Valid.{Typed, Valid, valid_of}

pub record Theorems : Type 0 where
  -- the test of validity says what `Valid` says, part by part
  pub valid_says : (m : Machine) → Typed m → valid_of m ≡ true → Valid m
  pub valid_true : (m : Machine) → Valid m → valid_of m ≡ true
  -- the counters give the frame position back, and it gives them back
  pub position_back : (model : Model) (p : ℕ) → p < clock_end model → position_of model (low_of model p) (high_of model p) ≡ p
  pub counters_back : (model : Model) (low high : ℕ) → low < quarter model → high < 4
      → (low_of model (position_of model low high) ≡ low) × (high_of model (position_of model low high) ≡ high)
  -- every number is a byte, and 0 is the number of no refusal
  pub number_small : (a : Answer) → number_of a < 256
  pub number_0 : (a : Answer) → number_of a ≡ 0 → a ≡ accepted
