use Rattle.flags.proofs.Weights.{four_law}
use Rattle.flags.proofs.four.Goals as goal

pub returns : goal.returns
returns c = four_law c.args.a c.args.b c.args.c c.args.d
