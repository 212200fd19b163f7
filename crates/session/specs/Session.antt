-- What a call of the correction log is lent and leaves: machine and memory, the log, and its two numbers.
use Rattle.std.specs.Prelude.{ℕ, List, Ok, Err}
use Rattle.spectrum.specs.declared.Machine.{Machine}
use Rattle.numbers.specs.declared.Refusal.{Refusal}
use Rattle.numbers.specs.Numbers.{Answer, accepted}
use Rattle.spectrum.specs.State.{State}
use Rattle.session.specs.declared.Counts.{Counts}
use Rattle.session.specs.declared.Done.{Done}

-- "standing": how many corrections stand; "total": how many stand or wait
pub record Session : Type 0 where
  pub state : State
  pub log : List ℕ
  pub standing : ℕ
  pub total : ℕ

pub record CallResult : Type 0 where
  pub answer : Answer
  pub session : Session

abbrev pub session_on : Machine → List ℕ → List ℕ → Counts → Session
session_on m memory log n = record { state = record { machine = m; memory = memory }; log = log; standing = n.standing; total = n.total }

abbrev pub result_of : Done → List ℕ → List ℕ → CallResult
result_of r memory log = record { answer = r.answer; session = session_on r.machine memory log r.counts }

-- a log just started
abbrev pub started : State → List ℕ → Session
started start log = record { state = start; log = log; standing = 0; total = 0 }

-- "The other calls change nothing when refused."
abbrev pub unchanged : Session → Refusal → CallResult
unchanged d why = record { answer = Err why; session = d }

-- what follows where the answer is accepted
abbrev pub if_accepted : Answer → Session → CallResult → CallResult
if_accepted (Ok u) d x = x
if_accepted (Err why) d x = unchanged d why
