-- The frame clock: bytes 55 to 57 of a v3 header, and the frame position.
use Rattle.std.specs.Prelude.{ℕ, ◌+◌, ◌*◌, ◌-◌, ◌/◌, ◌%◌}
use Rattle.pages.specs.declared.Model.{Model}
use Rattle.pages.specs.declared.Model.TheVariants.{K48, K128}

-- "q = 17,472 (48K) or 17,727 (128K)"
abbrev pub quarter : Model → ℕ
quarter K48 = 17472
quarter K128 = 17727

-- the frame position is below 4q
abbrev pub clock_end : Model → ℕ
clock_end model = 4 * quarter model

-- "Frame position = ((high + 1) mod 4) × q + (q - 1 - low)"
abbrev pub position_of : Model → ℕ → ℕ → ℕ
position_of model low high = (high + 1) % 4 * quarter model + (quarter model - 1 - low)

-- the two counters at a frame position
abbrev pub low_of : Model → ℕ → ℕ
low_of model position = quarter model - 1 - position % quarter model

abbrev pub high_of : Model → ℕ → ℕ
high_of model position = (position / quarter model + 3) % 4
