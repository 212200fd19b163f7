use Prim.Native.Nat.{◌-◌}
use native.Mathlib.Omega.{arith}
use Rattle.measuring.proofs.Measured.{measured_none, measured_run_ed, measured_single, measured_last, measured_run, measured_short, measured_most, measured_all}
use Rattle.measuring.proofs.packed_len.Goals as goal

pub loop-i-init : goal.loop-i-init
loop-i-init c = search measured_none

pub overflow_add-len : goal.overflow_add-len
overflow_add-len c = omega (arith, measured_most _ _ _ c.loop-i.invariant, c.well_formed)

pub loop-i-preserved-then-n-ge2 : goal.loop-i-preserved-then-n-ge2
loop-i-preserved-then-n-ge2 c = search measured_run_ed

pub overflow_add-len-then-src-i-2 : goal.overflow_add-len-then-src-i-2
overflow_add-len-then-src-i-2 c = omega (arith, measured_most _ _ _ c.loop-i.invariant, c.well_formed)

pub loop-i-preserved-then-src-i-2 : goal.loop-i-preserved-then-src-i-2
loop-i-preserved-then-src-i-2 c = search measured_last

pub overflow_add-len-else-src-i-2 : goal.overflow_add-len-else-src-i-2
overflow_add-len-else-src-i-2 c = omega (arith, measured_most _ _ _ c.loop-i.invariant, c.well_formed)

pub loop-i-preserved-else-src-i-2 : goal.loop-i-preserved-else-src-i-2
loop-i-preserved-else-src-i-2 c = search measured_single

pub overflow_add-len-then-n-ge5 : goal.overflow_add-len-then-n-ge5
overflow_add-len-then-n-ge5 c = omega (arith, measured_most _ _ _ c.loop-i.invariant, c.well_formed)

pub loop-i-preserved-then-n-ge5 : goal.loop-i-preserved-then-n-ge5
loop-i-preserved-then-n-ge5 c = search measured_run

pub overflow_add-len-else-n-ge5 : goal.overflow_add-len-else-n-ge5
overflow_add-len-else-n-ge5 c = omega (arith, measured_most _ _ _ c.loop-i.invariant, c.well_formed)

pub loop-i-preserved : goal.loop-i-preserved
loop-i-preserved c = search measured_short

pub returns : goal.returns
returns c = search measured_all
