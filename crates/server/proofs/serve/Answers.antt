use mathlib.Core.Path.{refl, ◌∙◌}
use native.Mathlib.Omega.{arith}
use Rattle.server.proofs.CallsSoFar.{calls_begin, calls_go_on, going_done, serves, number_fits}
use Rattle.server.proofs.serve.Goals as goal

pub loop-i-init : goal.loop-i-init
loop-i-init c = (calls_begin _ _ _ _ (omega arith), refl, refl, refl)

pub call_at-call-requires : goal.call_at-call-requires
call_at-call-requires c = omega arith

pub overflow_cast-numbers : goal.overflow_cast-numbers
overflow_cast-numbers c = let q = number_fits _ _ _ _ c.call_made-number.ensures.leaves in
    omega arith

pub bounds-numbers-i : goal.bounds-numbers-i
bounds-numbers-i c = omega arith

pub overflow_add-i : goal.overflow_add-i
overflow_add-i c = omega (arith, c.loop-i-test.true)

pub loop-i-smaller : goal.loop-i-smaller
loop-i-smaller c = omega arith

pub loop-i-preserved : goal.loop-i-preserved
loop-i-preserved c = let inv = c.loop-i.invariant in (
  calls_go_on _ _ _ _ _ _ _ _ _ _ inv.0 c.loop-i-test.true c.call_at-call.ensures c.call_made-number.ensures.leaves,
  c.call_made-number.auto.head ∙ inv.1,
  c.call_made-number.auto.area ∙ inv.2,
  c.call_made-number.auto.log ∙ inv.3,
)

pub shape_of-head : goal.shape_of-head
shape_of-head c = c.loop-i.invariant.1

pub shape_of-area : goal.shape_of-area
shape_of-area c = c.loop-i.invariant.2

pub shape_of-log : goal.shape_of-log
shape_of-log c = c.loop-i.invariant.3 ∙ c.snap_log_start.auto.log

pub shape_of-numbers : goal.shape_of-numbers
shape_of-numbers c = c.clear_from.auto.dst ∙ c.loop-i.invariant.0.long

pub returns : goal.returns
returns c = let n = c.call_count-n.ensures in
    let start = c.snap_log_start.ensures in
    let head = c.slice_known-1.given in
    let area = c.slice_known-2-1.given in
    let calls = c.shared_slice_known-1.given in
    serves _ _ _ _ _ _ _ _ _ _ _ (λ j. omega (arith, head j)) (λ j. omega (arith, area j)) (λ j. omega (arith, calls j)) start.log_zero start.standing_0 start.total_0 n
    (going_done _ _ _ _ _ _ _ _ c.loop-i.invariant.0 c.loop-i-test.false n c.clear_from.ensures)
