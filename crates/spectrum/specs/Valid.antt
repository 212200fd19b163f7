-- "A machine is valid if its interrupt mode is 0-2, border 0-7, joystick 0-3, frame position below 4q, and, in 48K mode", the last OUT to
-- 7FFD is 0. Without the sound chip the last OUT to FFFD and the sound registers are 0; "a 128K machine always has the chip".
use Rattle.std.specs.Prelude.{ℕ, ◌<◌, ◌≡◌, Bool, true, false, List, [], ◌∷◌, length, get_or, replicate, ltb, eqb}
use Rattle.slices.specs.Choose.{both}
use Rattle.spectrum.specs.declared.Machine.{Machine}
use Rattle.pages.specs.declared.Model.{Model}
use Rattle.pages.specs.declared.Model.TheVariants.{K48, K128}
use Rattle.clock.specs.Clock.{clock_end}

-- whether every element is 0
abbrev pub zeros : List ℕ → Bool
zeros [] = true
zeros (x ∷ xs) = both (eqb x 0) (zeros xs)

-- with the chip any last OUT to FFFD and any sound registers, without it only zeros
abbrev pub sound_fits : Bool → ℕ → List ℕ → Bool
sound_fits true outfffd sound = true
sound_fits false outfffd sound = both (eqb outfffd 0) (zeros sound)

-- a 48K machine has no last OUT to 7FFD, and sound only with the chip; a 128K machine has the chip
abbrev pub ports_fit : Model → Machine → Bool
ports_fit K48 m = both (eqb m.out7ffd 0) (sound_fits m.chip m.outfffd m.sound)
ports_fit K128 m = m.chip

unfoldable pub valid_of : Machine → Bool
valid_of m =
    both (ltb m.switches.im 3)
    (both (ltb m.switches.border 8)
    (both (ltb m.switches.joystick 4)
    (both (ltb m.position (clock_end m.model)) (ports_fit m.model m))))

-- what valid_of says, part by part
pub record Valid (m : Machine) : Type 0 where
  pub im : m.switches.im < 3
  pub border : m.switches.border < 8
  pub joystick : m.switches.joystick < 4
  pub position : m.position < clock_end m.model
  pub out7ffd : m.model ≡ K48 → m.out7ffd ≡ 0
  pub chip : m.model ≡ K128 → m.chip ≡ true
  pub outfffd : m.chip ≡ false → m.outfffd ≡ 0
  pub silent : m.chip ≡ false → m.sound ≡ replicate 16 0

-- what the types of a machine's fields say of every machine that code holds
pub record Typed (m : Machine) : Type 0 where
  pub pairs : (k : ℕ) → get_or m.pairs k 0 < 65536
  pub count : length m.pairs ≡ 12
  pub r8 : m.r < 256
  pub out : m.out7ffd < 256
  pub sound : length m.sound ≡ 16
  pub side : length m.side ≡ 25
