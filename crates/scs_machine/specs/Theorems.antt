-- What is claimed of the machine in an SCS file beyond the functions' contracts.
use Rattle.std.specs.Prelude.{ℕ, ◌<◌, ◌≡◌, true, List, length, get_or}
use Rattle.pages.specs.declared.Model.{Model}
use Rattle.spectrum.specs.Valid.{Typed, valid_of}
use Rattle.scs_machine.specs.ScsMachine.{scs_mode, scs_machine}

pub record Theorems : Type 0 where
  -- a machine that is read is valid, and as the types of the code say
  pub scs_valid : (model : Model) (cpu ports : List ℕ) → (scs_mode cpu ≡ 3 → ⊥) → valid_of (scs_machine model cpu ports) ≡ true
  pub scs_typed : (model : Model) (cpu ports : List ℕ) → ((i : ℕ) → get_or cpu i 0 < 256) → ((i : ℕ) → get_or ports i 0 < 256)
      → length ports ≡ 19 → Typed (scs_machine model cpu ports)
