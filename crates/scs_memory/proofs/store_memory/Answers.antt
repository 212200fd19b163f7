use Rattle.scs_memory.proofs.ScsStores.{stores_48, stores_128, room_48, room_128}
use borrow.Author.Rules.{rules}
use Rattle.scs_memory.proofs.store_memory.Goals as goal

pub store_48k-requires : goal.store_48k-requires
store_48k-requires c = (search rules, search room_48)

pub put_at-requires : goal.put_at-requires
put_at-requires c = search room_128

pub returns-in-K48 : goal.returns-in-K48
returns-in-K48 c = search stores_48

pub returns-in-K128 : goal.returns-in-K128
returns-in-K128 c = search stores_128
