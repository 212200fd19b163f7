use mathlib.Core.Path.{◌≡◌, sym}
use native.Mathlib.Omega.{arith}
use lib.ListN.{length, get_or-eq_default}
use borrow.Author.Rules.{rules}
use Rattle.spectrum.proofs.Machine.pair.Goals as goal

pub returns-else-p-lt12 : goal.returns-else-p-lt12
returns-else-p-lt12 c = let n : length c.args.self.pairs ≡ 12 = search (rules, c.well_formed.0) in
    sym (get_or-eq_default c.args.self.pairs 0 {n = c.args.p} (omega arith))
