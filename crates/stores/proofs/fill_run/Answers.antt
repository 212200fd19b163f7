use Rattle.stores.proofs.StoredBytes.{put_part}
use Rattle.stores.proofs.fill_run.Goals as goal

pub returns : goal.returns
returns c = search put_part
