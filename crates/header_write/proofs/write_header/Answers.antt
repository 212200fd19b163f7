use Rattle.header_write.proofs.WriteSteps.{all_put}
use lib.ListN.{length}
use mathlib.Core.Path.{◌≡◌}
use borrow.Author.Rules.{rules}
use Rattle.header_write.proofs.write_header.Goals as goal

pub returns : goal.returns
returns c = let m = c.args.m in
    let sound : length m.sound ≡ 16 = search (rules, c.well_formed.0.1.1.1.1.1.1.1.1.1.1) in
    let side : length m.side ≡ 25 = search (rules, c.well_formed.0.1.1.1.1.1.1.1.1.1.1) in
    all_put m c.args.dst.now _ _ _ sound side c.requires c.write_registers.ensures c.write_switches.ensures c.write_back.ensures
