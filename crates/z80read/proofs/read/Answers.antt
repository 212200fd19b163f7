use Rattle.z80read.proofs.FileRead.{read_length, read_refused, read_readable, is_lent, read_on}
use borrow.Author.Rules.{rules}
use Rattle.z80read.proofs.read.Goals as goal

pub returns-then-area-ne131072 : goal.returns-then-area-ne131072
returns-then-area-ne131072 c = search read_length

pub returns-in-Refused : goal.returns-in-Refused
returns-in-Refused c = search read_refused

pub read_on-requires : goal.read_on-requires
read_on-requires c = (search read_readable, (search rules, search is_lent))

pub returns-in-Header : goal.returns-in-Header
returns-in-Header c = search read_on
