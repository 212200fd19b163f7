use Rattle.spectrum.proofs.Validity.{fits_without}
use Rattle.spectrum.proofs.sound_fits.Goals as goal

pub returns-else-chip : goal.returns-else-chip
returns-else-chip c = search fits_without
