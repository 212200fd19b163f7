-- What is claimed of the exported calls beyond the functions' contracts: demand 3, in bytes.
use Rattle.journal_bytes.specs.Calls.{snap_call}
use Rattle.server.specs.Server.{ByteClaimOf}

pub record Theorems : Type 0 where
  -- demand 3, of the exported calls as their contracts say them
  pub byte_claim : ByteClaimOf snap_call
