use Rattle.body_v1.proofs.BodyMoves.{pages_good, pages_malformed, pages_wrong, pages_none}
use Rattle.body_v1.proofs.unpack_pages.Goals as goal

pub returns-in-Good : goal.returns-in-Good
returns-in-Good c = search pages_good

pub returns-in-Malformed : goal.returns-in-Malformed
returns-in-Malformed c = search pages_malformed

pub returns-in-WrongLength : goal.returns-in-WrongLength
returns-in-WrongLength c = search pages_wrong

pub returns : goal.returns
returns c = search pages_none
