use native.Mathlib.Omega.{arith}
use Rattle.pack_step.proofs.StepPlaces.{made_inside}
use Rattle.pack_tail.proofs.PackSteps.{packed_all}
use Rattle.pack_by_steps.proofs.StepLoop.{stretched, frame_stretch, frame_step, step_without_room}
use borrow.Author.Rules.{rules}
use Rattle.pack_by_steps.proofs.pack_by_steps.Goals as goal

pub run_from-n-requires : goal.run_from-n-requires
run_from-n-requires c =
    let t = stretched _ _ _ _ _ _ c.plain_stretch-stretch.ensures (search rules) (search rules) in
    (t.next c.if-k-lt16.true, t.unlike)

pub overflow_add-i-then-k-lt16 : goal.overflow_add-i-then-k-lt16
overflow_add-i-then-k-lt16 c =
    let t = stretched _ _ _ _ _ _ c.plain_stretch-stretch.ensures (search rules) (search rules) in
    omega (arith, made_inside _ _ _ c.step_within-made.ensures.answer (t.next c.if-k-lt16.true))

pub overflow_add-o-then-k-lt16 : goal.overflow_add-o-then-k-lt16
overflow_add-o-then-k-lt16 c =
    let t = stretched _ _ _ _ _ _ c.plain_stretch-stretch.ensures (search rules) (search rules) in
    omega (arith, made_inside _ _ _ c.step_within-made.ensures.answer (t.next c.if-k-lt16.true), t.all, t.room)

pub returns-then-dst-o : goal.returns-then-dst-o
returns-then-dst-o c =
    let t = stretched _ _ _ _ _ _ c.plain_stretch-stretch.ensures (search rules) (search rules) in
    let g = frame_stretch _ _ _ _ _ _ c.loop-i.invariant _ _ t in
    step_without_room _ _ _ _ _ _ g _ _ c.step_within-made.ensures (t.next c.if-k-lt16.true) (search rules) _ _ c.refused_pack.ensures

pub loop-i-smaller-else-dst-o : goal.loop-i-smaller-else-dst-o
loop-i-smaller-else-dst-o c =
    let t = stretched _ _ _ _ _ _ c.plain_stretch-stretch.ensures (search rules) (search rules) in
    omega (arith, made_inside _ _ _ c.step_within-made.ensures.answer (t.next c.if-k-lt16.true))

pub loop-i-preserved-else-dst-o : goal.loop-i-preserved-else-dst-o
loop-i-preserved-else-dst-o c =
    let t = stretched _ _ _ _ _ _ c.plain_stretch-stretch.ensures (search rules) (search rules) in
    let g = frame_stretch _ _ _ _ _ _ c.loop-i.invariant _ _ t in
    frame_step _ _ _ _ _ _ g _ _ c.step_within-made.ensures (t.next c.if-k-lt16.true) (search rules)

pub loop-i-preserved : goal.loop-i-preserved
loop-i-preserved c =
    let t = stretched _ _ _ _ _ _ c.plain_stretch-stretch.ensures (search rules) (search rules) in
    frame_stretch _ _ _ _ _ _ c.loop-i.invariant _ _ t

pub returns : goal.returns
returns c = search packed_all
