use mathlib.Core.Path.{◌≡◌, refl}
use native.Mathlib.Omega.{arith}
use lib.ListN.{length}
use lib.Seq.{set_out}
use borrow.Author.Rules.{rules}
use Rattle.spectrum.specs.Machine.{with_pair}
use Rattle.spectrum.proofs.Machine.with_pair.Goals as goal

pub returns-then-p-lt12 : goal.returns-then-p-lt12
unfolding with_pair
returns-then-p-lt12 c = refl

pub returns-else-p-lt12 : goal.returns-else-p-lt12
unfolding with_pair
returns-else-p-lt12 c = let n : length c.args.self.pairs ≡ 12 = search (rules, c.well_formed.0) in
    rw (set_out c.args.self.pairs c.args.p c.args.value (omega arith))
