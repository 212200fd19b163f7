-- The CPU block's 34 bytes and the Ports block's 19 as they are written for a machine.
use Rattle.std.specs.Prelude.{ℕ, ◌+◌, ◌*◌, ◌%◌, List, [], ◌∷◌, ◌++◌, get_or}
use Rattle.slices.specs.Bytes.{low_byte, high_byte, bit_of}
use Rattle.spectrum.specs.declared.Machine.{Machine}
use Rattle.spectrum.specs.declared.Switches.{Switches}

-- AF BC DE HL AF' BC' DE' HL', each with its high byte first
abbrev pub high_first_pairs : List ℕ → List ℕ
high_first_pairs p =
    high_byte (get_or p 0 0) ∷ low_byte (get_or p 0 0)
    ∷ high_byte (get_or p 1 0) ∷ low_byte (get_or p 1 0)
    ∷ high_byte (get_or p 2 0) ∷ low_byte (get_or p 2 0)
    ∷ high_byte (get_or p 3 0) ∷ low_byte (get_or p 3 0)
    ∷ high_byte (get_or p 4 0) ∷ low_byte (get_or p 4 0)
    ∷ high_byte (get_or p 5 0) ∷ low_byte (get_or p 5 0)
    ∷ high_byte (get_or p 6 0) ∷ low_byte (get_or p 6 0)
    ∷ high_byte (get_or p 7 0) ∷ low_byte (get_or p 7 0) ∷ []

-- IX IY PC SP, each with its low byte first
abbrev pub low_first_pairs : List ℕ → List ℕ
low_first_pairs p =
    low_byte (get_or p 8 0) ∷ high_byte (get_or p 8 0)
    ∷ low_byte (get_or p 9 0) ∷ high_byte (get_or p 9 0)
    ∷ low_byte (get_or p 11 0) ∷ high_byte (get_or p 11 0)
    ∷ low_byte (get_or p 10 0) ∷ high_byte (get_or p 10 0) ∷ []

-- I R, interrupt mode, IFFs; "Clock numbers .. and the IFF byte's other bits are written 0"
abbrev pub cpu_settings : ℕ → ℕ → Switches → List ℕ
cpu_settings i r s = i ∷ r ∷ s.im ∷ (bit_of s.iff1 % 2 + 2 * (bit_of s.iff2 % 2)) ∷ 0 ∷ 0 ∷ 0 ∷ 0 ∷ 0 ∷ 0 ∷ []

unfoldable pub scs_cpu : Machine → List ℕ
scs_cpu m = high_first_pairs m.pairs ++ (low_first_pairs m.pairs ++ cpu_settings m.i m.r m.switches)

-- border, last OUT to 7FFD; "the upper four bits of the last OUT to FFFD .. are written 0"
abbrev pub ports_front : Machine → List ℕ
ports_front m = m.switches.border ∷ m.out7ffd ∷ (m.outfffd % 16) ∷ []

unfoldable pub scs_ports : Machine → List ℕ
scs_ports m = ports_front m ++ m.sound
