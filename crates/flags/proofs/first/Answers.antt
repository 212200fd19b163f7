use native.Mathlib.Omega.{arith}
use mathlib.Core.Path.{refl}
use lib.Count.{trailing_le}
use Rattle.flags.proofs.first.Goals as goal

pub overflow_cast-result : goal.overflow_cast-result
overflow_cast-result c = record { fits = omega (arith, trailing_le 64 c.args.m) }

pub returns : goal.returns
returns c = (refl, trailing_le 64 c.args.m)
