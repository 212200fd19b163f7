-- "Corrections: a byte at an address, a register pair, an OUT to 7FFD": what each means, when it is refused, and the step that it writes.
use Rattle.std.specs.Prelude.{ℕ, ◌+◌, ◌*◌, ◌/◌, ◌%◌, List, not, length, get_or, set, ltb, eqb, Err}
use Rattle.spectrum.specs.declared.Machine.{Machine}
use Rattle.pages.specs.declared.Model.{Model}
use Rattle.pages.specs.declared.Model.TheVariants.{K48, K128}
use Rattle.pages.specs.declared.Place.{Place}
use Rattle.pages.specs.declared.Place.TheVariants.{Rom, Ram}
use Rattle.numbers.specs.declared.Refusal.TheVariants.{RomAddress, OutOn48k, PagingLocked, JournalFull, PairNumber}
use Rattle.numbers.specs.Numbers.{Answer, accepted, refuse}
use Rattle.spectrum.specs.Machine.{with_pair, with_out}
use Rattle.spectrum.specs.State.{State}
use Rattle.pages.specs.Pages.{place_of}
use Rattle.log_steps.specs.declared.Step.{Step}
use Rattle.log_steps.specs.Steps.{capacity, put_step}
use Rattle.session.specs.Session.{Session, CallResult, if_accepted}

pub data Correction : Type 0 where
  byte_at : ℕ → ℕ → Correction
  pair_to : ℕ → ℕ → Correction
  out_to : ℕ → Correction

-- "An address is taken through the paging of that moment"
abbrev pub place_in : Machine → ℕ → Place
place_in m address = place_of m.model m.out7ffd address

-- a byte stored at a place of the RAM
abbrev pub store : Place → ℕ → List ℕ → List ℕ
store Rom v memory = memory
store (Ram page offset) v memory = set memory (page * 16384 + offset) v

-- a correction's meaning: "a byte at its address through the paging that those before it left, a pair, or the last OUT to 7FFD gets the value"
unfoldable pub make : Correction → State → State
make (byte_at address v) w = record { machine = w.machine; memory = store (place_in w.machine address) v w.memory }
make (pair_to p v) w = record { machine = with_pair w.machine p v; memory = w.memory }
make (out_to v) w = record { machine = with_out w.machine v; memory = w.memory }

-- "23 address below 4000"
abbrev pub rom_first : Place → Answer → Answer
rom_first Rom a = Err RomAddress
rom_first (Ram page offset) a = a

-- "24 OUT on a 48K machine", then "25 paging locked": bit 5 of the last OUT
abbrev pub out_first : Model → ℕ → Answer → Answer
out_first K48 out a = Err OutOn48k
out_first K128 out a = refuse (eqb (out / 32 % 2) 1) PagingLocked a

-- "26 standing equals capacity"
abbrev pub room : ℕ → ℕ → Answer
room cap n = refuse (not (ltb n cap)) JournalFull accepted

-- the answer to a correction where n stand: "32 or 23 or 24 then 25, then 26"
unfoldable pub correction_answer : ℕ → State → ℕ → Correction → Answer
correction_answer cap w n (byte_at address v) = rom_first (place_in w.machine address) (room cap n)
correction_answer cap w n (pair_to p v) = refuse (ltb 11 p) PairNumber (room cap n)
correction_answer cap w n (out_to v) = out_first w.machine.model w.machine.out7ffd (room cap n)

abbrev pub step : ℕ → ℕ → ℕ → ℕ → ℕ → Step
step tag index offset old new = record { tag = tag; size = 8; index = index; offset = offset; old = old; new = new; last = 0 }

-- the step of a byte at a place: "RAM page", "offset in the page"
abbrev pub byte_step : Place → ℕ → List ℕ → Step
byte_step Rom v memory = step 1 0 0 0 v
byte_step (Ram page offset) v memory = step 1 page offset (get_or memory (page * 16384 + offset) 0) v

-- the step that a correction writes
unfoldable pub step_for : Correction → State → Step
step_for (byte_at address v) w = byte_step (place_in w.machine address) v w.memory
step_for (pair_to p v) w = step 2 p 0 (get_or w.machine.pairs p 0) v
step_for (out_to v) w = step 3 0 0 w.machine.out7ffd v

-- "A correction writes step number standing, counted from 0; then standing goes up by one and total becomes equal to it"
unfoldable pub corrected : Correction → Session → CallResult
corrected c d =
    if_accepted (correction_answer (capacity (length d.log)) d.state d.standing c) d
    (record {
      answer = accepted;
      session = record {
        state = make c d.state;
        log = put_step d.log d.standing (step_for c d.state);
        standing = d.standing + 1;
        total = d.standing + 1;
      };
    })
