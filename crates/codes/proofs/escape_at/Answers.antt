use Rattle.codes.proofs.Escape.{escape_first, escape_none, escape_end}
use Rattle.codes.proofs.escape_at.Goals as goal

pub returns-then-i-src : goal.returns-then-i-src
returns-then-i-src c = search escape_first

pub returns-else-i-src : goal.returns-else-i-src
returns-else-i-src c = search escape_end

pub returns-else-src-i : goal.returns-else-src-i
returns-else-src-i c = search escape_none
