-- The 15 bytes at the start of an SCS file, and the number of its first block.
use Rattle.std.specs.Prelude.{ℕ, List, length, take, eqb, ltb}
use Rattle.slices.specs.Choose.{choose}
use Rattle.slices.specs.Same.{same}
use Rattle.slices.specs.Bytes.{at}
use Rattle.pages.specs.declared.Model.{Model}
use Rattle.pages.specs.declared.Model.TheVariants.{K48, K128}
use Rattle.numbers.specs.declared.Refusal.TheVariants.{FileShort, ScsHeader, ScsMemoryNotFirst}
use Rattle.scs_blocks.specs.ScsIdentity.{sam_snap, hardware_of}
use Rattle.scs_head.specs.declared.ScsHead.{ScsHead}
use Rattle.scs_head.specs.declared.ScsHead.TheVariants.{Bad, Spectrum}

-- "43 if byte 15 is absent or not 3": an absent byte is 0 here
abbrev pub memory_first : List ℕ → Model → ScsHead
memory_first s model = choose (eqb (at s 15) 3) (Spectrum model) (Bad ScsMemoryNotFirst)

-- "2 under 15 bytes; 40 wrong "SamSnap!" or hardware number", which is byte 14. "Emulator ID and version is ignored on load": bytes 8 to 13
unfoldable pub scs_head_of : List ℕ → ScsHead
scs_head_of s =
    choose (ltb (length s) 15) (Bad FileShort)
    (choose (same (take 8 s) sam_snap)
    (choose (eqb (at s 14) (hardware_of K48)) (memory_first s K48)
    (choose (eqb (at s 14) (hardware_of K128)) (memory_first s K128)
    (Bad ScsHeader)))
    (Bad ScsHeader))
