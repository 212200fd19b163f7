use Rattle.step_places.proofs.Pointed.{present_ram, present_out_of, present_pair, present_out}
use Rattle.step_places.proofs.present_at.Goals as goal

pub returns-then-at-memory : goal.returns-then-at-memory
returns-then-at-memory c = search present_ram

pub returns-then-tag-eq1 : goal.returns-then-tag-eq1
returns-then-tag-eq1 c = search present_out_of

pub returns-then-tag-eq2 : goal.returns-then-tag-eq2
returns-then-tag-eq2 c = search present_pair

pub returns : goal.returns
returns c = search present_out
