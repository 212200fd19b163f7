-- Demand 3: "After every list machine, memory, standing and total equal the paper bench's, and so does every answer."
use Rattle.std.specs.Prelude.{ℕ, ◌+◌, ◌<◌, ◌≡◌, true, List, [], ◌∷◌, length, get_or}
use Rattle.numbers.specs.Numbers.{Answer}
use Rattle.spectrum.specs.State.{State}
use Rattle.spectrum.specs.Valid.{Typed, valid_of}
use Rattle.five_calls.specs.declared.Call.{Call}
use Rattle.five_calls.specs.declared.Call.TheVariants.{Byte, Pair, Out, Undo, Redo}
use Rattle.session.specs.Session.{Session, CallResult, started}
use Rattle.claim.specs.History.{made, no_history, history_of, history_answers}

-- a start: a valid machine with 131,072 bytes; the last two are what the types of the code say of both
pub record ValidStart (w : State) : Type 0 where
  pub valid : valid_of w.machine ≡ true
  pub area : length w.memory ≡ 131072
  pub typed : Typed w.machine
  pub bytes : (i : ℕ) → get_or w.memory i 0 < 256

-- "What is asked is as wide as what it names .. so only a pair's number can be out of range."
abbrev pub TypedCall : Call → Type 0
TypedCall (Byte address v) = (address < 65536) × (v < 256)
TypedCall (Pair p v) = v < 65536
TypedCall (Out v) = v < 256
TypedCall Undo = Unit {0}
TypedCall Redo = Unit {0}

abbrev pub TypedCalls : List Call → Type 0
TypedCalls [] = Unit {0}
TypedCalls (c ∷ cs) = TypedCall c × TypedCalls cs

-- a session after a list of calls, each made by f on what the last one left, and the answers
abbrev pub run_after : (Call → Session → CallResult) → Session → List Call → Session
run_after f d [] = d
run_after f d (c ∷ cs) = run_after f (f c d).session cs

abbrev pub run_answers : (Call → Session → CallResult) → Session → List Call → List Answer
run_answers f d [] = []
run_answers f d (c ∷ cs) = (f c d).answer ∷ run_answers f (f c d).session cs

-- the claim of a way f to make calls: after this list, from this start and log, all is the paper bench's
pub record Claim (f : Call → Session → CallResult) (start : State) (log : List ℕ) (calls : List Call) : Type 0 where
  pub state : (run_after f (started start log) calls).state ≡ made start (history_of start (length log) calls).applied
  pub standing : (run_after f (started start log) calls).standing ≡ length (history_of start (length log) calls).applied
  pub total : (run_after f (started start log) calls).total
      ≡ length (history_of start (length log) calls).applied + length (history_of start (length log) calls).undone
  pub answers : run_answers f (started start log) calls ≡ history_answers start (length log) no_history calls

-- DEMAND 3 of a way f to make calls: "From any valid machine with any memory of 131,072 bytes and a fresh log of any length, after ANY
-- LIST of calls .. machine and memory equal the start's with the standing corrections made afresh in order. .. One claim over every list"
abbrev pub ClaimOf : (Call → Session → CallResult) → Type 0
ClaimOf f = (start : State) (log : List ℕ) → ValidStart start → (calls : List Call) → TypedCalls calls → Claim f start log calls
