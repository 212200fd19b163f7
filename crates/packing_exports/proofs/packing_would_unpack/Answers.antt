use borrow.Author.Rules.{rules}
use Rattle.packing_exports.proofs.packing_would_unpack.Goals as goal

pub returns-then-due-lt65536 : goal.returns-then-due-lt65536
returns-then-due-lt65536 c = (λ h. (cc, (cc, cc)), λ h. absurd (search rules))
