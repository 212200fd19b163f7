use Rattle.machine_bytes.proofs.Told.{model_told, model_refused}
use Rattle.machine_bytes.proofs.model.Goals as goal

pub returns-then-decoded : goal.returns-then-decoded
returns-then-decoded c = search model_told

pub returns : goal.returns
returns c = search model_refused
