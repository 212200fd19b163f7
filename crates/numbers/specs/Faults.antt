-- Document 02, A2: "Every reader passes on an offset in the whole file: for 11 that one, for 8, 9, 10 and 12 the start of the block head
-- (v1: byte 30), for 14 the file's length, in SCS the block head for 8 and 42. 0 elsewhere."
-- A3: "the block's ordinal from 1 (a v1 body is 1; 0 in the header and for 13), and two figures, found and due."
-- A fault is why a file is refused, with its place, its block and its figures.
use Rattle.std.specs.Prelude.{ℕ, ◌<◌, ◌≤◌, ◌≡◌, Bool, true, false, ◌||◌, eqb}
use Rattle.numbers.specs.declared.Refusal.{Refusal}
use Rattle.numbers.specs.declared.Refusal.TheVariants.{FileShort, CounterRange, UnpackedLength, BlockMissing}
use Rattle.numbers.specs.declared.FileFault.{FileFault}

-- refused in a block, at a place of the file: "otherwise 0, 0"
abbrev pub fault_in : ℕ → ℕ → Refusal → FileFault
fault_in block place why = record { why = why; place = place; block = block; found = 0; due = 0 }

-- refused at a place, where no block is named: SCS files, of which A3 does not speak
abbrev pub fault_at : ℕ → Refusal → FileFault
fault_at place why = fault_in 0 place why

-- "0 elsewhere"
abbrev pub unplaced : Refusal → FileFault
unplaced why = fault_at 0 why

-- in no block and at no place, with two figures
abbrev pub with_figures : Refusal → ℕ → ℕ → FileFault
with_figures why found due = record { why = why; place = 0; block = 0; found = found; due = due }

-- "For 2: the file's length and the least needed"
abbrev pub file_short : ℕ → ℕ → FileFault
file_short size least = with_figures FileShort size least

-- "6: the first bad counter, low before high, and its largest"
abbrev pub counter_beyond : ℕ → ℕ → FileFault
counter_beyond counter largest = with_figures CounterRange counter largest

-- "12: unpacked length, counted no further than 65,536, and the right one"
abbrev pub length_fault : ℕ → ℕ → ℕ → ℕ → FileFault
length_fault block place found due = record { why = UnpackedLength; place = place; block = block; found = found; due = due }

-- "13: blocks found, blocks due"
abbrev pub missing : ℕ → ℕ → FileFault
missing good due = with_figures BlockMissing good due

-- the numbers that are given with a place
abbrev pub is_placed : ℕ → Bool
is_placed n = eqb n 8 || eqb n 9 || eqb n 10 || eqb n 11 || eqb n 12 || eqb n 14 || eqb n 42

-- the place that is given with a number, of a file of so many bytes: in the file or at its end, 0 exactly where none is named, and "for 14 the
-- file's length"
pub record NamedPlace (number place size : ℕ) : Type 0 where
  pub inside : place ≤ size
  pub none : is_placed number ≡ false → place ≡ 0
  pub some : is_placed number ≡ true → 0 < place
  pub at_end : number ≡ 14 → place ≡ size

-- the numbers that are given with two figures
abbrev pub is_figured : ℕ → Bool
is_figured n = eqb n 2 || eqb n 6 || eqb n 12 || eqb n 13

-- what is given with a number of a.Z80 file: a block exactly where a place is named, so "0 in the header and for 13"; figures only where the
-- number has them, "otherwise 0, 0"; a length "counted no further than 65,536"
pub record NamedFigures (number block found due : ℕ) : Type 0 where
  pub no_block : is_placed number ≡ false → block ≡ 0
  pub some_block : is_placed number ≡ true → 0 < block
  pub no_figures : is_figured number ≡ false → (found ≡ 0) × (due ≡ 0)
  pub few : number ≡ 12 → found ≤ 65536
