use Rattle.packed.proofs.Frame.{frame_from}
use Rattle.pack_tail.proofs.PackSteps.{again_coded, again_plain, again_two, again_last, short_coded, short_plain, short_two, short_last, packed_all}
use borrow.Author.Rules.{rules}
use Rattle.pack_tail.proofs.pack_rest.Goals as goal

pub loop-i-init : goal.loop-i-init
loop-i-init c = search frame_from

pub returns-then-dst-o : goal.returns-then-dst-o
returns-then-dst-o c = search short_coded

pub loop-i-preserved-then-code_from-n : goal.loop-i-preserved-then-code_from-n
loop-i-preserved-then-code_from-n c = search again_coded

pub returns-then-dst-e : goal.returns-then-dst-e
returns-then-dst-e c = search short_plain

pub loop-i-preserved-then-v : goal.loop-i-preserved-then-v
loop-i-preserved-then-v c = search again_plain

pub returns-then-dst-o-2 : goal.returns-then-dst-o-2
returns-then-dst-o-2 c = search short_two

pub loop-i-preserved-then-i-src : goal.loop-i-preserved-then-i-src
loop-i-preserved-then-i-src c = again_two _ _ _ _ _ _ c.loop-i.invariant (search rules) _ c.run_at-n.ensures _ c.code_from.ensures _ c.put_two.ensures (search rules) (search rules) (search rules) (search rules)

pub returns-then-dst-o-3 : goal.returns-then-dst-o-3
returns-then-dst-o-3 c = search short_last

pub loop-i-preserved : goal.loop-i-preserved
loop-i-preserved c = search again_last

pub returns : goal.returns
returns c = search packed_all
