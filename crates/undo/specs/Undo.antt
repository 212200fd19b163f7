-- "undo puts back the old of step standing - 1, redo the new of step standing"; 27, then 28.
use Rattle.std.specs.Prelude.{ℕ, ◌+◌, ◌-◌, ltb, eqb}
use Rattle.slices.specs.Choose.{choose, both}
use Rattle.numbers.specs.declared.Refusal.TheVariants.{NothingToMove, StepDamaged}
use Rattle.numbers.specs.Numbers.{accepted}
use Rattle.log_steps.specs.declared.Step.{Step}
use Rattle.log_steps.specs.Steps.{step_at}
use Rattle.step_places.specs.Pointed.{present, placed, intact}
use Rattle.session.specs.Session.{Session, CallResult, unchanged}

-- v is put where a step points, if the step is intact and `was` is there now; then n stand. No log byte is written.
abbrev pub moved : Session → Step → ℕ → ℕ → ℕ → CallResult
moved d s was v n =
    choose (both (intact d.state.machine.model s) (eqb (present s d.state) was))
    (record { answer = accepted; session = record { state = placed s v d.state; log = d.log; standing = n; total = d.total } })
    (unchanged d StepDamaged)

unfoldable pub undo_of : Session → CallResult
undo_of d =
    let s = step_at d.log (d.standing - 1) in
    choose (eqb d.standing 0) (unchanged d NothingToMove) (moved d s s.new s.old (d.standing - 1))

unfoldable pub redo_of : Session → CallResult
redo_of d =
    let s = step_at d.log d.standing in
    choose (ltb d.standing d.total) (moved d s s.old s.new (d.standing + 1)) (unchanged d NothingToMove)
