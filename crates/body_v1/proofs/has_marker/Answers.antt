use mathlib.Core.Path.{◌∙◌}
use lib.Pointwise.{bytes_decides}
use Rattle.body_v1.proofs.Bodies.{marked_short, marked_is}
use Rattle.body_v1.proofs.has_marker.Goals as goal

pub returns-then-s-lt4 : goal.returns-then-s-lt4
returns-then-s-lt4 c = search marked_short

pub returns : goal.returns
returns c = c.eq.ensures ∙ marked_is c.args.s.now _ (bytes_decides _ _)
