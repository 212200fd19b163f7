-- The promise of a call, by the function that makes it.
use Prim.Native.Nat.{ℕ}
use mathlib.Core.Path.{◌≡◌, ◌∙◌}
use Rattle.five_calls.specs.declared.Call.{Call}
use Rattle.journal_bytes.specs.Calls.{Buffers, snap_call, CallLeaves}
use Rattle.server_calls.specs.Made.{CallMade}
use Rattle.server_calls.proofs.BytesStill.{byte_still}

made_of : (call : Call) (b : Buffers) (r : ℕ) (x : Buffers) → CallLeaves (snap_call call b) r x → CallMade call b r x
made_of call b r x p = record { leaves = p; still = λ n. p.left ∙ byte_still call b (λ z. n (p.answer ∙ z)) }

pub call_made : (call c : Call) (b : Buffers) (r : ℕ) (x : Buffers) → call ≡ c → CallLeaves (snap_call c b) r x → CallMade call b r x
call_made call c b r x e p = made_of call b r x (rw e p)
