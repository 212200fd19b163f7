use Rattle.runs.proofs.RunLength.{running_one, running_more, run_stops, run_ends, run_full}
use Rattle.runs.proofs.run_bytes.Goals as goal

pub loop-n-init : goal.loop-n-init
loop-n-init c = search running_one

pub returns-then-src-i : goal.returns-then-src-i
returns-then-src-i c = search run_ends

pub returns-then-src-i-2 : goal.returns-then-src-i-2
returns-then-src-i-2 c = search run_stops

pub loop-n-preserved : goal.loop-n-preserved
loop-n-preserved c = search running_more

pub returns : goal.returns
returns c = search run_full
