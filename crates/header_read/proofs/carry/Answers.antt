use Rattle.header_read.proofs.ReadSteps.{asked_inside, carry_128}
use Rattle.header_read.proofs.carry.Goals as goal

pub bounds-s-place : goal.bounds-s-place
bounds-s-place c = search asked_inside

pub returns-in-K128 : goal.returns-in-K128
returns-in-K128 c = search carry_128
