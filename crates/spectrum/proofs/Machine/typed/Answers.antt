use lib.ListN.{get_or}
use mir.Syntax.{w16}
use mir.Val.{Fits}
use borrow.Author.Rules.{rules}
use Rattle.spectrum.proofs.Machine.typed.Goals as goal

pub returns : goal.returns
returns c = record {
  pairs = λ k. (let f : Fits w16 (get_or c.args.self.pairs k 0) = search (rules, c.well_formed.0) in f.fits);
  count = search (rules, c.well_formed.0);
  r8 = search (rules, c.well_formed.0);
  out = search (rules, c.well_formed.0);
  sound = search (rules, c.well_formed.0.1.1.1.1.1.1.1.1.1.1);
  side = search (rules, c.well_formed.0.1.1.1.1.1.1.1.1.1.1);
}
