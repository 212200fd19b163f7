use Rattle.stores.proofs.StoredBytes.{put_part}
use Rattle.stores.proofs.fill_32.Goals as goal

pub returns : goal.returns
returns c = search put_part
