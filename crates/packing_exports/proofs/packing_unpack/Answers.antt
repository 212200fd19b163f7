use borrow.Author.Rules.{rules}
use Rattle.packing_exports.proofs.packing_unpack.Goals as goal

pub returns : goal.returns
returns c = (cc, (cc, (cc, search rules)))
