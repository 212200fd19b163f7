use Rattle.views_twice.proofs.ViewsTwice.{starts_two}
use Rattle.views_twice.proofs.start_two.Goals as goal

pub returns : goal.returns
returns c = search starts_two
