-- The one value of the record of theorems.
use Rattle.pack_step.proofs.EachStep.{packed_steps, packed_step, step_some, case_holds, one_case}
use Rattle.pack_step.specs.PackingSteps.StepCases.{traces}
use Rattle.pack_step.specs.Theorems.{Theorems}

pub theorems : Theorems
theorems =
    record {
      packed_steps = packed_steps;
      packed_step = packed_step;
      step_some = step_some;
      case_holds = case_holds;
      one_case = one_case;
      traces = traces;
    }
