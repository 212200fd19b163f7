use Rattle.header.proofs.HeadSteps.{long_30}
use Rattle.z80read.proofs.FileRead.{memory_1, memory_2, memory_3, at_12}
use borrow.Author.Rules.{rules}
use Rattle.z80read.proofs.read_memory.Goals as goal

pub byte12-b-requires : goal.byte12-b-requires
byte12-b-requires c = search at_12

pub read_body-requires : goal.read_body-requires
read_body-requires c = (search long_30, search rules)

pub returns-in-V1 : goal.returns-in-V1
returns-in-V1 c = search memory_1

pub returns-in-V2 : goal.returns-in-V2
returns-in-V2 c = search memory_2

pub returns-in-V3 : goal.returns-in-V3
returns-in-V3 c = search memory_3
