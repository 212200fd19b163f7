use Prim.Native.Nat.{◌-◌}
use mathlib.Core.Path.{◌≡◌}
use lib.ListN.{length}
use Rattle.journal_bytes.specs.Calls.{buffers}
use Rattle.server.proofs.CallsSoFar.{CallsSoFar}
use Rattle.server.proofs.serve.Given as goal

abbrev pub invariant-loop-i : goal.invariant-loop-i
invariant-loop-i l = CallsSoFar l.calls l.n (buffers l.initial.head l.initial.area l.initial.log l.initial.standing l.initial.total) (buffers l.head l.area l.log l.standing l.total) l.initial.numbers l.numbers l.i
    × (length l.head ≡ length l.initial.head) × (length l.area ≡ length l.initial.area) × (length l.log ≡ length l.initial.log)

abbrev pub decreases-loop-i : goal.decreases-loop-i
decreases-loop-i l = l.n - l.i
