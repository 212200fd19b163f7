-- The one value of the record of theorems.
use Rattle.z80explain.specs.Theorems.{Theorems}
use Rattle.z80explain.proofs.ExplainSteps.{explained_answer, explained_place, explained_figures}

pub theorems : Theorems
theorems = record { explained_answer = explained_answer; explained_place = explained_place; explained_figures = explained_figures }
