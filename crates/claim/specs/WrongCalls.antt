-- The empty versions that document 01 names against demand 3, as ways to make a call.
use Rattle.std.specs.Prelude.{ℕ, ◌+◌, ◌-◌, eqb}
use Rattle.slices.specs.Choose.{choose}
use Rattle.numbers.specs.declared.Refusal.TheVariants.{JournalFull}
use Rattle.numbers.specs.Numbers.{accepted}
use Rattle.five_calls.specs.declared.Call.{Call}
use Rattle.five_calls.specs.declared.Call.TheVariants.{Byte, Pair, Out, Undo, Redo}
use Rattle.session.specs.Session.{Session, CallResult, unchanged}
use Rattle.journal.specs.Journal.{journal_call}

-- by the kind of call: a correction, undo, redo
abbrev pub by_kind : Call → CallResult → CallResult → CallResult → CallResult
by_kind (Byte address v) x y z = x
by_kind (Pair p v) x y z = x
by_kind (Out v) x y z = x
by_kind Undo x y z = y
by_kind Redo x y z = z

-- "a correction that always refuses"
unfoldable pub always_refuses : Call → Session → CallResult
always_refuses c d = by_kind c (unchanged d JournalFull) (journal_call c d) (journal_call c d)

-- a step counted, and nothing altered
abbrev pub counted : Session → ℕ → ℕ → CallResult
counted d standing total = record { answer = accepted; session = record { state = d.state; log = d.log; standing = standing; total = total } }

-- ".. or accepts and alters nothing"
unfoldable pub alters_nothing : Call → Session → CallResult
alters_nothing c d = by_kind c (counted d (d.standing + 1) (d.standing + 1)) (journal_call c d) (journal_call c d)

-- "a bench that truly undoes the first step and afterwards only moves its numbers"
unfoldable pub undoes_once : Call → Session → CallResult
undoes_once c d =
    by_kind c (journal_call c d)
    (choose (eqb d.standing d.total) (journal_call c d) (counted d (d.standing - 1) d.total))
    (journal_call c d)

-- "standing and total invented": right in all but its two numbers
unfoldable pub invents_counts : Call → Session → CallResult
invents_counts c d =
    let x = journal_call c d in
    record { answer = x.answer; session = record { state = x.session.state; log = x.session.log; standing = 7; total = 7 } }

-- a redo that writes the old value
unfoldable pub redoes_nothing : Call → Session → CallResult
redoes_nothing c d = by_kind c (journal_call c d) (journal_call c d) (counted d (d.standing + 1) d.total)
