use Rattle.journal.proofs.SoundCalls.{sound_20, sound_21, sound_0, sound_29, sound_29b}
use Rattle.journal.proofs.soundness_of.Goals as goal

pub returns-then-area-ne131072 : goal.returns-then-area-ne131072
returns-then-area-ne131072 c = search sound_21

pub returns-then-n-capacity : goal.returns-then-n-capacity
returns-then-n-capacity c = search sound_0

pub returns-then-n : goal.returns-then-n
returns-then-n c = search sound_29

pub returns-then-valid : goal.returns-then-valid
returns-then-valid c = search sound_29b

pub returns : goal.returns
returns c = search sound_20
