use Rattle.stretches.proofs.Stretch.{stopped_none, stop_few, stopped_at}
use Rattle.stretches.proofs.copy16.Goals as goal

pub returns-then-m-eq0 : goal.returns-then-m-eq0
returns-then-m-eq0 c = search stopped_none

pub after-requires : goal.after-requires
after-requires c = search stop_few

pub returns : goal.returns
returns c = search stopped_at
