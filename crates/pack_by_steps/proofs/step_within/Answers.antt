use native.Mathlib.Omega.{arith}
use Rattle.pack_step.proofs.StepPlaces.{made_inside}
use Rattle.pack_by_steps.proofs.StepLoop.{within_four, within_few}
use borrow.Author.Rules.{rules}
use Rattle.pack_by_steps.proofs.step_within.Goals as goal

pub returns-then-o-dst : goal.returns-then-o-dst
returns-then-o-dst c = search within_four

pub overflow_add-o-2 : goal.overflow_add-o-2
overflow_add-o-2 c = omega (arith, made_inside _ _ _ c.pack_step-made.ensures.answer (search rules))

pub returns : goal.returns
returns c = within_few _ _ _ _ _ _ _ c.pack_step-made.ensures _ c.put_at.ensures (search rules)
