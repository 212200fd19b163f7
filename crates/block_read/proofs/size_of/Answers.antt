use borrow.Author.Tests.{eq-eqb, ne_eqb}
use Rattle.block_read.proofs.size_of.Goals as goal

pub returns-then-n-eq65535 : goal.returns-then-n-eq65535
returns-then-n-eq65535 c = simp (eq-eqb _ _ c.if-n-eq65535.true)

pub returns-else-n-eq65535 : goal.returns-else-n-eq65535
returns-else-n-eq65535 c = simp (ne_eqb _ _ c.if-n-eq65535.false)
