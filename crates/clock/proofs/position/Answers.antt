use Rattle.clock.proofs.position.Goals as goal

pub returns-in-K48 : goal.returns-in-K48
returns-in-K48 c = rw (c.in-K48.is, c.less.ensures)

pub returns-in-K128 : goal.returns-in-K128
returns-in-K128 c = rw (c.in-K128.is, c.less-in-K128.ensures)
