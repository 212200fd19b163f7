use Rattle.pack_step.proofs.StepPlaces.{made_many_ED, made_single_ED, made_many, made_plain}
use native.Mathlib.Omega.{arith}
use borrow.Author.Rules.{rules}
use Rattle.pack_step.proofs.pack_step.Goals as goal
use Rattle.pack_step.proofs.pack_step.Goals.{else-x-via-then-x+else-n-ge2, else-x-via-else-x, else-x-2-via-then-x-2+else-n-eq1, else-x-2-via-else-x-2, else-x-3-via-then-x-3+else-n-ge5, else-x-3-via-else-x-3}

pub returns-then-n-ge2 : goal.returns-then-n-ge2
returns-then-n-ge2 c = search (rules, made_many_ED)

pub returns-then-n-eq1 : goal.returns-then-n-eq1
returns-then-n-eq1 c = search (rules, made_single_ED)

pub returns-then-n-ge5 : goal.returns-then-n-ge5
returns-then-n-ge5 c = search (rules, made_many)

pub returns-else-x-3 : goal.returns-else-x-3
returns-else-x-3 c =
    made_plain _ _ (search rules) _ c.requires.1.0 _ _ _ _ c.plain_made.ensures
    (λ e k. elim c.else-x.branch [ else-x-via-then-x+else-n-ge2 w ↦ omega arith | else-x-via-else-x w ↦ w.if-x.false e ])
    (λ e k. elim c.else-x-2.branch [ else-x-2-via-then-x-2+else-n-eq1 w ↦ w.if-n-eq1.false k | else-x-2-via-else-x-2 w ↦ w.if-x-2.false e ])
    (λ e k. elim c.else-x-3.branch [ else-x-3-via-then-x-3+else-n-ge5 w ↦ omega arith | else-x-3-via-else-x-3 w ↦ e w.if-x-3.false ])
