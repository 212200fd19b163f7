use Prim.Native.Nat.{◌-◌}
use borrow.Author.Rules.{rules}
use Rattle.packed.proofs.Frame.{frame_from}
use Rattle.unpack_tail.proofs.UnpackSteps.{going_plain, going_run, full_plain, full_run, cut_into, zero_into, good_into, wrong_into}
use Rattle.unpack_tail.proofs.unpack_rest.Goals as goal

pub loop-i-init : goal.loop-i-init
loop-i-init c = search frame_from

pub returns-then-src-i : goal.returns-then-src-i
returns-then-src-i c = search cut_into

pub returns-then-count-eq0 : goal.returns-then-count-eq0
returns-then-count-eq0 c = search zero_into

pub returns-then-dst-e : goal.returns-then-dst-e
returns-then-dst-e c = search full_run

pub loop-i-preserved-then-escape_at : goal.loop-i-preserved-then-escape_at
loop-i-preserved-then-escape_at c = search going_run

pub returns-then-dst-o : goal.returns-then-dst-o
returns-then-dst-o c = search full_plain

pub loop-i-preserved : goal.loop-i-preserved
loop-i-preserved c = going_plain _ _ _ _ _ _ c.loop-i.invariant _ c.escape_at.ensures _ c.put_one.ensures (search rules) (search rules) (search rules)

pub returns-then-o-dst : goal.returns-then-o-dst
returns-then-o-dst c = search good_into

pub returns : goal.returns
returns c = search wrong_into
