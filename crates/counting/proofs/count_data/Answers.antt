use Prim.Native.Nat.{◌-◌}
use Rattle.counting.proofs.CountLoop.{counting_none, counting_16, code_inside, counting_zero, counting_run, counting_rest}
use borrow.Author.Rules.{rules}
use Rattle.counting.proofs.count_data.Goals as goal

pub loop-i-init : goal.loop-i-init
loop-i-init c = counting_none _

pub loop-i-preserved-then-k-eq64 : goal.loop-i-preserved-then-k-eq64
loop-i-preserved-then-k-eq64 c = search (rules, counting_16)

pub overflow_add-p : goal.overflow_add-p
overflow_add-p c = search (rules, code_inside)

pub overflow_add-p-else-k-eq64 : goal.overflow_add-p-else-k-eq64
overflow_add-p-else-k-eq64 c = search (rules, code_inside)

pub bounds-src-p : goal.bounds-src-p
bounds-src-p c = let h = code_inside _ _ _ _ _ c.loop-i.invariant (search rules) c.escapes_at.ensures c.first-k.ensures.0 c.if-k-eq64.false in search rules

pub returns-then-run-eq0 : goal.returns-then-run-eq0
returns-then-run-eq0 c = search (rules, counting_zero)

pub overflow_add-k : goal.overflow_add-k
overflow_add-k c = search (rules, code_inside)

pub overflow_add-n-else-k-eq64 : goal.overflow_add-n-else-k-eq64
overflow_add-n-else-k-eq64 c = search (rules, code_inside)

pub overflow_add-i-else-k-eq64 : goal.overflow_add-i-else-k-eq64
overflow_add-i-else-k-eq64 c = search (rules, code_inside)

pub loop-i-smaller : goal.loop-i-smaller
loop-i-smaller c = search (rules, code_inside)

pub loop-i-preserved : goal.loop-i-preserved
loop-i-preserved c = search (rules, counting_run)

pub returns : goal.returns
returns c = search counting_rest
