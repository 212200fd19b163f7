-- Reading an SCS file: "1, 2 under 15 bytes; 40 wrong "SamSnap!" or hardware number; 43 if byte 15 is absent or not 3; block by block 8 if
-- cut, 42 a second block 1, 2 or 3; 41 one of them missing; last 5."
use Rattle.std.specs.Prelude.{ℕ, List, eqb}
use Rattle.slices.specs.Choose.{choose}
use Rattle.pages.specs.declared.Model.{Model}
use Rattle.numbers.specs.declared.Refusal.TheVariants.{AreaLength, InterruptMode, ScsBlockMissing}
use Rattle.numbers.specs.Faults.{unplaced}
use Rattle.z80read.specs.Read.{ReadResult, refused_read, accepted_read}
use Rattle.scs_blocks.specs.declared.ScsSeen.{ScsSeen}
use Rattle.scs_blocks.specs.declared.ScsFound.{ScsFound}
use Rattle.scs_blocks.specs.declared.ScsFound.TheVariants.{Bad, Blocks}
use Rattle.scs_blocks.specs.ScsBlocks.{three_seen, scs_blocks, data_of, zero_filled}
use Rattle.scs_machine.specs.ScsMachine.{scs_mode, scs_machine}
use Rattle.scs_memory.specs.ScsMemory.{scs_memory}
use Rattle.scs_head.specs.declared.ScsHead.{ScsHead}
use Rattle.scs_head.specs.declared.ScsHead.TheVariants.{Spectrum}
use Rattle.scs_head.specs.ScsHeads.{scs_head_of}

-- the machine and the memory of three blocks' data: 34 bytes are due of CPU, 19 of Ports; "last 5"
abbrev pub scs_loaded : Model → List ℕ → List ℕ → List ℕ → ℕ → ReadResult
scs_loaded model cpu ports memory n =
    choose (eqb (scs_mode (zero_filled 34 cpu)) 3) (refused_read (unplaced InterruptMode) n)
    (accepted_read (scs_machine model (zero_filled 34 cpu) (zero_filled 19 ports)) (scs_memory model memory))

-- "41 one of them missing"
abbrev pub after_seen : ScsSeen → Model → List ℕ → ℕ → ReadResult
after_seen seen model s n =
    choose (three_seen seen) (scs_loaded model (data_of s seen.cpu) (data_of s seen.ports) (data_of s seen.memory) n) (refused_read (unplaced ScsBlockMissing) n)

abbrev pub after_found : ScsFound → Model → List ℕ → ℕ → ReadResult
after_found (Bad fault) model s n = refused_read fault n
after_found (Blocks seen) model s n = after_seen seen model s n

-- the blocks begin at byte 15
abbrev pub after_scs_head : ScsHead → List ℕ → ℕ → ReadResult
after_scs_head (ScsHead.Bad why) s n = refused_read (unplaced why) n
after_scs_head (Spectrum model) s n = after_found (scs_blocks s 15) model s n

-- the file s read into an area of n bytes: nothing but its length is known of the area
unfoldable pub scs_read_of : List ℕ → ℕ → ReadResult
scs_read_of s n = choose (eqb n 131072) (after_scs_head (scs_head_of s) s n) (refused_read (unplaced AreaLength) n)
