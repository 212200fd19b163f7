use Rattle.journal_bytes.proofs.CallSteps.{header_back}
use borrow.Author.Rules.{rules}
use Rattle.journal_bytes.proofs.put_back.Goals as goal

pub returns : goal.returns
returns c = record { answer = search rules; header = search header_back; standing = search rules; total = search rules }
