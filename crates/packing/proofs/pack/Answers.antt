use Prim.Native.Nat.{◌-◌}
use Rattle.packed.proofs.Frame.{packed_as, frame_none}
use Rattle.pack_tail.proofs.PackSteps.{again_run_ed, again_run, again_single, again_four}
use Rattle.stretches.proofs.Stretch.{stopped_ahead}
use Rattle.packing.proofs.PackLoop.{frame_stopped, stopped_block, rest_packed}
use borrow.Author.Rules.{rules}
use Rattle.packing.proofs.pack.Goals as goal

pub loop-i-init : goal.loop-i-init
loop-i-init c = frame_none packed_as _ _

pub returns : goal.returns
returns c = search rest_packed

pub loop-i-preserved-then-k-eq16 : goal.loop-i-preserved-then-k-eq16
loop-i-preserved-then-k-eq16 c = search stopped_block

pub run_from-n-requires : goal.run_from-n-requires
run_from-n-requires c = (search rules, search stopped_ahead)

pub loop-i-preserved-then-n-ge2 : goal.loop-i-preserved-then-n-ge2
loop-i-preserved-then-n-ge2 c = let g = frame_stopped _ _ _ _ _ _ c.loop-i.invariant _ _ _ c.copy16-stop.ensures (search rules) (search rules) in
    again_run_ed _ _ _ _ _ _ g _ (search rules) _ c.run_from-n.ensures c.put_run.ensures (search rules) (search rules) (search rules)

pub loop-i-preserved-else-n-ge2 : goal.loop-i-preserved-else-n-ge2
loop-i-preserved-else-n-ge2 c = let g = frame_stopped _ _ _ _ _ _ c.loop-i.invariant _ _ _ c.copy16-stop.ensures (search rules) (search rules) in
    again_single _ _ _ _ _ _ g _ (search rules) _ c.run_from-n.ensures c.put_two.ensures (search rules) (search rules) (search rules) (search rules)

pub loop-i-preserved-then-n-ge5 : goal.loop-i-preserved-then-n-ge5
loop-i-preserved-then-n-ge5 c = let g = frame_stopped _ _ _ _ _ _ c.loop-i.invariant _ _ _ c.copy16-stop.ensures (search rules) (search rules) in
    again_run _ _ _ _ _ _ g _ (search rules) _ c.run_from-n.ensures c.put_run-then-n-ge5.ensures (search rules) (search rules) (search rules)

pub loop-i-preserved : goal.loop-i-preserved
loop-i-preserved c = let g = frame_stopped _ _ _ _ _ _ c.loop-i.invariant _ _ _ c.copy16-stop.ensures (search rules) (search rules) in
    again_four _ _ _ _ _ _ g _ (search rules) _ c.run_from-n.ensures c.put_four.ensures (search rules) (search rules) (search rules)
