-- The one value of the record of theorems.
use Rattle.server_calls.specs.Theorems.{Theorems}
use Rattle.server_calls.proofs.BytesStill.{byte_still}

pub theorems : Theorems
theorems = record { byte_still = byte_still }
