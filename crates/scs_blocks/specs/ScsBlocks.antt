-- The blocks of an SCS file: "Each data block has an ID and length information". A block is its number, its size in four bytes, and so many
-- bytes of data.
use Rattle.std.specs.Prelude.{ℕ, zero, suc, ◌+◌, ◌-◌, ◌*◌, Bool, true, false, List, [], ◌++◌, length, take, drop, replicate, eqb, leb, ltb}
use Rattle.slices.specs.Choose.{choose, both}
use Rattle.slices.specs.Bytes.{at}
use Rattle.numbers.specs.declared.Refusal.TheVariants.{BlockCut, ScsBlockTwice}
use Rattle.numbers.specs.Faults.{fault_at}
use Rattle.scs_blocks.specs.declared.ScsPart.{ScsPart}
use Rattle.scs_blocks.specs.declared.ScsPart.TheVariants.{Absent, Stands}
use Rattle.scs_blocks.specs.declared.ScsSeen.{ScsSeen}
use Rattle.scs_blocks.specs.declared.ScsFound.{ScsFound}
use Rattle.scs_blocks.specs.declared.ScsFound.TheVariants.{Bad, Blocks}

-- the four bytes of a size, the low one first
abbrev pub size_at : List ℕ → ℕ → ℕ
size_at s i = at s i + 256 * at s (i + 1) + 65536 * at s (i + 2) + 16777216 * at s (i + 3)

abbrev pub is_there : ScsPart → Bool
is_there Absent = false
is_there (Stands from size) = true

-- what was seen of a block's number: 1 is CPU, 2 Ports ("Ports is block 2, as the text's list says"), 3 Memory. "numbers above 3 are
-- skipped whole": nothing is ever seen of them
abbrev pub part_of : ScsSeen → ℕ → ScsPart
part_of seen number = choose (eqb number 1) seen.cpu (choose (eqb number 2) seen.ports (choose (eqb number 3) seen.memory Absent))

abbrev pub noted : ScsSeen → ℕ → ScsPart → ScsSeen
noted seen number part =
    record {
      cpu = choose (eqb number 1) part seen.cpu;
      ports = choose (eqb number 2) part seen.ports;
      memory = choose (eqb number 3) part seen.memory;
    }

abbrev pub nothing_seen : ScsSeen
nothing_seen = record { cpu = Absent; ports = Absent; memory = Absent }

-- whether all three were seen
abbrev pub three_seen : ScsSeen → Bool
three_seen seen = both (is_there seen.cpu) (both (is_there seen.ports) (is_there seen.memory))

-- Block after block from a place on: "a clean stop without it is accepted"; "A byte 0 at a block's start ends the file, what follows unread";
-- "8 if cut", its head or its data; "42 a second block 1, 2 or 3"; both at the block's head. A block has five bytes or more, so as many turns
-- as bytes are enough.
unfoldable pub blocks_from : List ℕ → ℕ → ℕ → ScsSeen → ScsFound
blocks_from s zero place seen = Blocks seen
blocks_from s (suc turns) place seen =
    choose (leb (length s) place) (Blocks seen)
    (choose (eqb (at s place) 0) (Blocks seen)
    (choose (ltb (length s) (place + 5)) (Bad (fault_at place BlockCut))
    (choose (ltb (length s) (place + 5 + size_at s (place + 1))) (Bad (fault_at place BlockCut))
    (choose (is_there (part_of seen (at s place))) (Bad (fault_at place ScsBlockTwice))
    (blocks_from s turns (place + 5 + size_at s (place + 1)) (noted seen (at s place) (Stands (place + 5) (size_at s (place + 1)))))))))

-- the blocks of the file s from a place on
unfoldable pub scs_blocks : List ℕ → ℕ → ScsFound
scs_blocks s from = blocks_from s (length s) from nothing_seen

-- the data of a part of the file s
abbrev pub data_of : List ℕ → ScsPart → List ℕ
data_of s Absent = []
data_of s (Stands from size) = take size (drop from s)

-- "Short blocks are filled with zeros, the rest of long ones is skipped": the n bytes that are due
unfoldable pub zero_filled : ℕ → List ℕ → List ℕ
zero_filled n xs = take n xs ++ replicate (n - length xs) 0
