use Rattle.slices.proofs.Puts.{put_span}
use Rattle.slices.proofs.put_at.Goals as goal

pub returns : goal.returns
returns c = put_span _ _ _ _ c.copy_from_slice.ensures.after
