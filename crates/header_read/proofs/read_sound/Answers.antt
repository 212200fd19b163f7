use Rattle.header_read.proofs.ReadSteps.{inside_sound, sound_chip}
use Rattle.header_read.proofs.read_sound.Goals as goal

pub part16-requires : goal.part16-requires
part16-requires c = search inside_sound

pub returns-then-chip : goal.returns-then-chip
returns-then-chip c = search sound_chip
