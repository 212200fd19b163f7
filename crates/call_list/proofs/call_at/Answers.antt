use Rattle.call_list.proofs.Decode.{at_byte, at_pair, at_out, at_undo, at_redo}
use Rattle.call_list.proofs.call_at.Goals as goal

pub returns-then-kind-eq0 : goal.returns-then-kind-eq0
returns-then-kind-eq0 c = search at_byte

pub returns-then-kind-eq1 : goal.returns-then-kind-eq1
returns-then-kind-eq1 c = search at_pair

pub returns-then-kind-eq2 : goal.returns-then-kind-eq2
returns-then-kind-eq2 c = search at_out

pub returns-then-kind-eq3 : goal.returns-then-kind-eq3
returns-then-kind-eq3 c = search at_undo

pub returns : goal.returns
returns c = search at_redo
