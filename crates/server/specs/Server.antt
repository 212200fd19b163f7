-- Demand 3 of the exported calls: "there the machine crosses as the 86-byte v3 header that our writer makes for it". The buffers after every
-- list of calls, and the paper bench's state as bytes.
use Rattle.std.specs.Prelude.{ℕ, ◌+◌, ◌-◌, ◌≡◌, List, [], ◌∷◌, ◌++◌, map, length, replicate}
use Rattle.spectrum.specs.declared.Machine.{Machine}
use Rattle.numbers.specs.Numbers.{number_of}
use Rattle.header_write.specs.Writing.{header_of, HeaderFor}
use Rattle.header_canonical.specs.Canonical.{bad_header}
use Rattle.five_calls.specs.declared.Call.{Call}
use Rattle.spectrum.specs.State.{State}
use Rattle.claim.specs.History.{History, made, no_history, history_of, history_answers}
use Rattle.claim.specs.Claim.{ValidStart, TypedCalls}
use Rattle.call_list.specs.CallList.{call_count, calls_in, numbers_in}
use Rattle.journal_bytes.specs.Calls.{Buffers, buffers, Answered, snap_call}

-- buffers after a list of calls, each made by f on what the last one left, and the numbers answered
abbrev pub run_buffers : (Call → Buffers → Answered) → Buffers → List Call → Buffers
run_buffers f b [] = b
run_buffers f b (c ∷ cs) = run_buffers f (f c b).left cs

abbrev pub run_numbers : (Call → Buffers → Answered) → Buffers → List Call → List ℕ
run_numbers f b [] = []
run_numbers f b (c ∷ cs) = (f c b).answer ∷ run_numbers f (f c b).left cs

-- "Starting .. sets the whole log to zero, standing and total to 0": a log of n bytes
abbrev pub started_buffers : List ℕ → List ℕ → ℕ → Buffers
started_buffers header area n = buffers header area (replicate n 0) 0 0

-- buffers that hold what the paper bench says: the start with the standing corrections made afresh, how many stand, how many stand or wait
pub record HistoryBytes (start : State) (b : History) (x : Buffers) : Type 0 where
  pub header : x.header ≡ header_of (made start b.applied).machine
  pub area : x.area ≡ (made start b.applied).memory
  pub standing : x.standing ≡ length b.applied
  pub total : x.total ≡ length b.applied + length b.undone

-- the claim of a way f to make calls over bytes: after this list, from the header and the area of this start and a log of so many bytes just started,
-- header, area, both numbers and every answer are the paper bench's
pub record ByteClaim (f : Call → Buffers → Answered) (start : State) (size : ℕ) (calls : List Call) : Type 0 where
  pub left : HistoryBytes start (history_of start size calls)
      (run_buffers f (started_buffers (header_of start.machine) start.memory size) calls)
  pub numbers : run_numbers f (started_buffers (header_of start.machine) start.memory size) calls
      ≡ map number_of (history_answers start size no_history calls)

-- DEMAND 3, IN BYTES, of a way f to make calls
abbrev pub ByteClaimOf : (Call → Buffers → Answered) → Type 0
ByteClaimOf f = (start : State) (size : ℕ) → ValidStart start → (calls : List Call) → TypedCalls calls → ByteClaim f start size calls

-- What the calls leave, said by the calls' own definitions: every buffer, the number of every answer, and zeros past them.
pub record RanBytes (encoded : List ℕ) (room : ℕ) (x₀ x : Buffers) (numbers : List ℕ) : Type 0 where
  pub left : x ≡ run_buffers snap_call x₀ (calls_in encoded room)
  pub said : numbers ≡ run_numbers snap_call x₀ (calls_in encoded room) ++ replicate (room - call_count encoded room) 0

-- what the paper bench says of a run from a start and a log of so many bytes: the buffers, and the number of every answer
pub record HistoryRun (start : State) (size : ℕ) (encoded : List ℕ) (room : ℕ) (x : Buffers) (numbers : List ℕ) : Type 0 where
  pub left : HistoryBytes start (history_of start size (calls_in encoded room)) x
  pub said : numbers ≡ numbers_in (history_answers start size no_history (calls_in encoded room)) (room - call_count encoded room)

-- after the start of the log nothing is changed, and every call answers 20
pub record Untouched (encoded : List ℕ) (room : ℕ) (x₀ x : Buffers) (numbers : List ℕ) : Type 0 where
  pub left : x ≡ x₀
  pub said : numbers ≡ replicate (call_count encoded room) bad_header ++ replicate (room - call_count encoded room) 0

-- The promise of `serve`, with room for so many numbers; r calls are made. On every input the calls' own answers on a log just started; from
-- the header of any valid machine and an area of 131,072 bytes the paper bench's; from bytes that are no valid machine's header nothing but 20.
pub record Serves (head area log encoded : List ℕ) (room r : ℕ) (x : Buffers) (numbers : List ℕ) : Type 0 where
  pub count : r ≡ call_count encoded room
  pub ran : RanBytes encoded room (started_buffers head area (length log)) x numbers
  pub claim : (m : Machine) → HeaderFor m head → length area ≡ 131072 → HistoryRun (record { machine = m; memory = area }) (length log) encoded room x numbers
  pub not_ours : ((m : Machine) → HeaderFor m head → ⊥) → Untouched encoded room (started_buffers head area (length log)) x numbers
