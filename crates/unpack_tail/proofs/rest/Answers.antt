use Prim.Native.Nat.{◌-◌}
use Rattle.unpack_tail.proofs.UnpackSteps.{resting_none, resting_plain, resting_run, resting_cut, resting_zero, resting_end}
use borrow.Author.Rules.{rules}
use Rattle.unpack_tail.proofs.rest.Goals as goal

pub loop-i-init : goal.loop-i-init
loop-i-init c = search resting_none

pub returns-then-src-i : goal.returns-then-src-i
returns-then-src-i c = search resting_cut

pub returns-then-run-eq0 : goal.returns-then-run-eq0
returns-then-run-eq0 c = search resting_zero

pub loop-i-preserved-then-escape_at : goal.loop-i-preserved-then-escape_at
loop-i-preserved-then-escape_at c = let g = c.loop-i.invariant in
    let e = c.escape_at.ensures in
    resting_run _ _ _ _ _ _ g e _ _ (search rules) (search rules) c.wide-run.ensures.0 (search rules) c.up_to-n-then-escape_at.ensures

pub loop-i-preserved : goal.loop-i-preserved
loop-i-preserved c = search resting_plain

pub returns : goal.returns
returns c = search resting_end
