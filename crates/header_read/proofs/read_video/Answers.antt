use Rattle.header_read.proofs.ReadSteps.{video_other}
use Rattle.header_read.proofs.read_video.Goals as goal

pub returns-in-1 : goal.returns-in-1
returns-in-1 c = rw c.in-1.is

pub returns-in-3 : goal.returns-in-3
returns-in-3 c = rw c.in-3.is

pub returns-in_default : goal.returns-in_default
returns-in_default c = search video_other
