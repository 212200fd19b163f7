use Rattle.header_read.proofs.ReadSteps.{asked_inside, byte_chip}
use Rattle.header_read.proofs.chip_byte.Goals as goal

pub bounds-s-place : goal.bounds-s-place
bounds-s-place c = search asked_inside

pub returns-then-chip : goal.returns-then-chip
returns-then-chip c = search byte_chip
