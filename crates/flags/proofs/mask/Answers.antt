use mathlib.Core.Path.{sym}
use Rattle.flags.proofs.mask.Goals as goal

pub returns : goal.returns
returns c = sym (c.any16.ensures c.if-any16.false)
