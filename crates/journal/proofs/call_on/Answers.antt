use Rattle.journal.proofs.SoundCalls.{sound_ready, not_sound, is_sound}
use Rattle.journal.proofs.call_on.Goals as goal

pub returns-in-Err : goal.returns-in-Err
returns-in-Err c = search not_sound

pub sound_call-requires : goal.sound_call-requires
sound_call-requires c = search sound_ready

pub returns-in-Ok : goal.returns-in-Ok
returns-in-Ok c = search is_sound
