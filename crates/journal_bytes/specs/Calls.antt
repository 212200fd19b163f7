-- The correction log over bytes: the machine crosses as its header, 20 first.
use Rattle.std.specs.Prelude.{ℕ, ◌≡◌, List, replicate}
use Rattle.std.specs.Borrow.{MutBor}
use denote.Triple.Both.{Both}
use Rattle.slices.specs.Choose.{choose}
use Rattle.spectrum.specs.declared.Machine.{Machine}
use Rattle.numbers.specs.Numbers.{number_of}
use Rattle.header_canonical.specs.declared.DecodedHeader.{DecodedHeader}
use Rattle.header_write.specs.Writing.{header_of}
use Rattle.header_canonical.specs.Canonical.{decoded_of, bad_header}
use Rattle.five_calls.specs.declared.Call.{Call}
use Rattle.session.specs.Session.{Session, CallResult}
use Rattle.journal.specs.Journal.{journal_call}

-- all that a call is lent
pub record Buffers : Type 0 where
  pub header : List ℕ
  pub area : List ℕ
  pub log : List ℕ
  pub standing : ℕ
  pub total : ℕ

abbrev pub buffers : List ℕ → List ℕ → List ℕ → ℕ → ℕ → Buffers
buffers header area log standing total = record { header = header; area = area; log = log; standing = standing; total = total }

-- what is lent to a function, as it came (`entry`) and as it is left (`exit`)
abbrev pub Lent : Type 0 → Type 0
Lent X = Both (MutBor X) (MutBor X)

-- the buffers of a call as they came, and as they are left
abbrev pub buffers_in : Lent (List ℕ) → Lent (List ℕ) → Lent (List ℕ) → Lent ℕ → Lent ℕ → Buffers
buffers_in header area log standing total = buffers header.entry.now area.entry.now log.entry.now standing.entry.now total.entry.now

abbrev pub buffers_out : Lent (List ℕ) → Lent (List ℕ) → Lent (List ℕ) → Lent ℕ → Lent ℕ → Buffers
buffers_out header area log standing total = buffers header.exit.now area.exit.now log.exit.now standing.exit.now total.exit.now

pub record Answered : Type 0 where
  pub answer : ℕ
  pub left : Buffers

abbrev pub session_for : Machine → Buffers → Session
session_for m b = record { state = record { machine = m; memory = b.area }; log = b.log; standing = b.standing; total = b.total }

-- a session as bytes, and what a call left
abbrev pub session_bytes : Session → Buffers
session_bytes d = buffers (header_of d.state.machine) d.state.memory d.log d.standing d.total

abbrev pub answered_by : CallResult → Answered
answered_by x = record { answer = number_of x.answer; left = session_bytes x.session }

-- a call of the journal made on buffers; 20 and nothing changed where the header is none that the writer makes
abbrev pub on_decoded : DecodedHeader → (Session → CallResult) → Buffers → Answered
on_decoded t f b = choose t.canonical (answered_by (f (session_for t.machine b))) (record { answer = bad_header; left = b })

unfoldable pub over_bytes : (Session → CallResult) → Buffers → Answered
over_bytes f b = on_decoded (decoded_of b.header) f b

-- a call over bytes, as the contracts of the exported functions say it
abbrev pub snap_call : Call → Buffers → Answered
snap_call c b = over_bytes (journal_call c) b

-- the promise of a call: the number and every byte are the definition's
pub record CallLeaves (x : Answered) (r : ℕ) (b : Buffers) : Type 0 where
  pub answer : r ≡ x.answer
  pub left : b ≡ x.left

-- "Starting is never refused; it sets the whole log to zero, standing and total to 0", of a log of n bytes
pub record LogStarts (n r : ℕ) (log : List ℕ) (standing total : ℕ) : Type 0 where
  pub answer : r ≡ 0
  pub log_zero : log ≡ replicate n 0
  pub standing_0 : standing ≡ 0
  pub total_0 : total ≡ 0
