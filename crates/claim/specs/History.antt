-- Document 01's paper bench: corrections as asked, those that stand ("applied") and those that wait ("undone"), and the state as the
-- start with the standing ones made afresh. It sees no answer and no byte of the log, only the log's length.
use Rattle.std.specs.Prelude.{ℕ, List, [], ◌∷◌, length, Ok, Err}
use Rattle.numbers.specs.declared.Refusal.TheVariants.{NothingToMove}
use Rattle.numbers.specs.Numbers.{Answer, accepted}
use Rattle.spectrum.specs.State.{State}
use Rattle.log_steps.specs.Steps.{capacity}
use Rattle.corrections.specs.Corrections.{Correction, byte_at, pair_to, out_to, make, correction_answer}
use Rattle.five_calls.specs.declared.Call.{Call}
use Rattle.five_calls.specs.declared.Call.TheVariants.{Byte, Pair, Out, Undo, Redo}

-- the start with corrections made afresh, first to last: the head of the list is the last one
abbrev pub made : State → List Correction → State
made w [] = w
made w (c ∷ cs) = make c (made w cs)

-- the two lists: of the applied ones the head is the last, of the undone ones the head is the first to wait
pub record History : Type 0 where
  pub applied : List Correction
  pub undone : List Correction

pub record HistoryResult : Type 0 where
  pub answer : Answer
  pub history : History

-- "Correction: refused with the first number of its order that holds here. Else it joins the standing ones as last, and none waits."
abbrev pub joins : Answer → Correction → History → HistoryResult
joins (Ok u) c b = record { answer = accepted; history = record { applied = c ∷ b.applied; undone = [] } }
joins (Err why) c b = record { answer = Err why; history = b }

abbrev pub history_correct : State → ℕ → History → Correction → HistoryResult
history_correct start size b c = joins (correction_answer (capacity size) (made start b.applied) (length b.applied) c) c b

-- "Undo: 27 if none stands, else the last standing one becomes the first to wait."
abbrev pub history_undo : List Correction → List Correction → HistoryResult
history_undo [] us = record { answer = Err NothingToMove; history = record { applied = []; undone = us } }
history_undo (c ∷ cs) us = record { answer = accepted; history = record { applied = cs; undone = c ∷ us } }

-- "Redo: 27 if none waits, else the first to wait becomes the last standing one."
abbrev pub history_redo : List Correction → List Correction → HistoryResult
history_redo cs [] = record { answer = Err NothingToMove; history = record { applied = cs; undone = [] } }
history_redo cs (u ∷ us) = record { answer = accepted; history = record { applied = u ∷ cs; undone = us } }

abbrev pub history_call : State → ℕ → History → Call → HistoryResult
history_call start size b (Byte address v) = history_correct start size b (byte_at address v)
history_call start size b (Pair p v) = history_correct start size b (pair_to p v)
history_call start size b (Out v) = history_correct start size b (out_to v)
history_call start size b Undo = history_undo b.applied b.undone
history_call start size b Redo = history_redo b.applied b.undone

-- "empty at first"
abbrev pub no_history : History
no_history = record { applied = []; undone = [] }

-- the history after a list of calls, and the answers
abbrev pub history_after : State → ℕ → History → List Call → History
history_after start size b [] = b
history_after start size b (c ∷ cs) = history_after start size (history_call start size b c).history cs

abbrev pub history_answers : State → ℕ → History → List Call → List Answer
history_answers start size b [] = []
history_answers start size b (c ∷ cs) = (history_call start size b c).answer ∷ history_answers start size (history_call start size b c).history cs

abbrev pub history_of : State → ℕ → List Call → History
history_of start size calls = history_after start size no_history calls
