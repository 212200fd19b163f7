-- The one value of the record of theorems.
use Rattle.server.specs.Theorems.{Theorems}
use Rattle.server.proofs.ByteClaim.{byte_claim}

pub theorems : Theorems
theorems = record { byte_claim = byte_claim }
