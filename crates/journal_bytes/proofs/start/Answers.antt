use borrow.Author.Rules.{rules}
use Rattle.journal_bytes.proofs.start.Goals as goal

pub returns : goal.returns
returns c = record { answer = search rules; log_zero = search rules; standing_0 = cc; total_0 = cc }
