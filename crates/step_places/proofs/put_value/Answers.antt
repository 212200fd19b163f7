use Rattle.step_places.proofs.Pointed.{put_ram, put_out_of, put_pair, put_out}
use Rattle.step_places.proofs.put_value.Goals as goal

pub returns-then-spot-memory : goal.returns-then-spot-memory
returns-then-spot-memory c = search put_ram

pub returns-else-spot-memory : goal.returns-else-spot-memory
returns-else-spot-memory c = search put_out_of

pub returns-then-tag-eq2 : goal.returns-then-tag-eq2
returns-then-tag-eq2 c = search put_pair

pub returns : goal.returns
returns c = search put_out
