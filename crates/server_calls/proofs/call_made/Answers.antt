use Rattle.server_calls.proofs.Made.{call_made}
use Rattle.server_calls.proofs.call_made.Goals as goal

pub returns-in-Byte : goal.returns-in-Byte
returns-in-Byte c = search call_made

pub returns-in-Pair : goal.returns-in-Pair
returns-in-Pair c = search call_made

pub returns-in-Out : goal.returns-in-Out
returns-in-Out c = search call_made

pub returns-in-Undo : goal.returns-in-Undo
returns-in-Undo c = search call_made

pub returns-in-Redo : goal.returns-in-Redo
returns-in-Redo c = search call_made
