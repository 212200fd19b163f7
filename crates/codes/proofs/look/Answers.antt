use Prim.Native.Nat.{◌-◌}
use Rattle.codes.proofs.CodesAhead.{looking_none, looking_more, looking_all, looked_near}
use Rattle.codes.proofs.look.Goals as goal

pub returns-then-first-lt16 : goal.returns-then-first-lt16
returns-then-first-lt16 c = search looked_near

pub loop-q-init : goal.loop-q-init
loop-q-init c = search looking_none

pub loop-q-preserved : goal.loop-q-preserved
loop-q-preserved c = search looking_more

pub returns : goal.returns
returns c = search looking_all
