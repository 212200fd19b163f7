use Rattle.step_places.proofs.Pointed.{tag_1, tag_2, tag_3}
use Rattle.step_places.proofs.tag_intact.Goals as goal

pub returns-then-tag-eq1 : goal.returns-then-tag-eq1
returns-then-tag-eq1 c = search tag_1

pub returns-then-tag-eq2 : goal.returns-then-tag-eq2
returns-then-tag-eq2 c = search tag_2

pub returns : goal.returns
returns c = search tag_3
