-- The one value of the record of theorems.
use Rattle.scs_machine.specs.Theorems.{Theorems}
use Rattle.scs_machine.proofs.ScsValid.{scs_valid, scs_typed}

pub theorems : Theorems
theorems = record { scs_valid = scs_valid; scs_typed = scs_typed }
