-- One call by the exported function.
use Rattle.std.specs.Prelude.{ℕ, ◌≡◌}
use Rattle.five_calls.specs.declared.Call.{Call}
use Rattle.journal_bytes.specs.Calls.{Buffers, snap_call, CallLeaves}

-- the promise of `call_made`: every number and byte is the definition's; refused, every buffer and both numbers are as they were
pub record CallMade (c : Call) (b : Buffers) (r : ℕ) (x : Buffers) : Type 0 where
  pub leaves : CallLeaves (snap_call c b) r x
  pub still : (r ≡ 0 → ⊥) → x ≡ b
