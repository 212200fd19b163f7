-- What is claimed of a call over bytes beyond the function's contract.
use Rattle.std.specs.Prelude.{◌≡◌}
use Rattle.five_calls.specs.declared.Call.{Call}
use Rattle.journal_bytes.specs.Calls.{Buffers, snap_call}

pub record Theorems : Type 0 where
  -- "The other calls change nothing when refused": no byte of header, area and log and neither number, in all five calls, on every input
  pub byte_still : (c : Call) (b : Buffers) → ((snap_call c b).answer ≡ 0 → ⊥) → (snap_call c b).left ≡ b
