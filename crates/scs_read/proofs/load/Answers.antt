use Rattle.scs_read.proofs.ScsLoadSteps.{loads_missing, loads_mode, loads_all}
use Rattle.scs_read.proofs.load.Goals as goal

pub returns-then-cpu-eq3 : goal.returns-then-cpu-eq3
returns-then-cpu-eq3 c = search loads_mode

pub returns-then-saw_all : goal.returns-then-saw_all
returns-then-saw_all c = search loads_all

pub returns : goal.returns
returns c = search loads_missing
