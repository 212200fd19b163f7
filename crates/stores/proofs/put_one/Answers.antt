use Rattle.stores.proofs.StoredBytes.{put_1}
use Rattle.stores.proofs.put_one.Goals as goal

pub returns : goal.returns
returns c = search put_1
