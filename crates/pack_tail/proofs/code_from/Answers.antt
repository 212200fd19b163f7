use borrow.Author.Tests.{eq-eqb, ne_eqb}
use Rattle.pack_tail.proofs.code_from.Goals as goal

pub returns-then-v-eq237 : goal.returns-then-v-eq237
returns-then-v-eq237 c = simp (eq-eqb _ _ c.if-v-eq237.true)

pub returns-else-v-eq237 : goal.returns-else-v-eq237
returns-else-v-eq237 c = simp (ne_eqb _ _ c.if-v-eq237.false)
