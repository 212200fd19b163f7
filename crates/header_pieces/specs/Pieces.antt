-- The pieces of the 86 header bytes that the writer makes for a machine.
use Rattle.std.specs.Prelude.{ℕ, ◌+◌, ◌*◌, ◌/◌, ◌%◌, Bool, List, [], ◌∷◌, ◌++◌, get_or}
use Rattle.slices.specs.Bytes.{low_byte, high_byte, bit_of}
use Rattle.spectrum.specs.declared.Machine.{Machine}
use Rattle.spectrum.specs.declared.Switches.{Switches}
use Rattle.spectrum.specs.declared.Video.{Video}
use Rattle.spectrum.specs.declared.Video.TheVariants.{Normal, High, Low}
use Rattle.pages.specs.declared.Model.{Model}
use Rattle.pages.specs.declared.Model.TheVariants.{K48, K128}
use Rattle.spectrum.specs.declared.Attachment.{Attachment}
use Rattle.spectrum.specs.declared.Attachment.TheVariants.{Nothing, InterfaceI, Mgt}
use Rattle.clock.specs.Clock.{low_of, high_of}

-- bytes 0 to 12; PC is 0 here. "The rest of 11 and 12 is written 0."
abbrev pub first_registers : List ℕ → ℕ → ℕ → ℕ → List ℕ
first_registers p i r border =
    high_byte (get_or p 0 0) ∷ low_byte (get_or p 0 0)
    ∷ low_byte (get_or p 1 0) ∷ high_byte (get_or p 1 0)
    ∷ low_byte (get_or p 3 0) ∷ high_byte (get_or p 3 0)
    ∷ 0 ∷ 0
    ∷ low_byte (get_or p 10 0) ∷ high_byte (get_or p 10 0)
    ∷ i ∷ (r % 128) ∷ (r / 128 + 2 * (border % 8)) ∷ []

-- bytes 13 to 26
abbrev pub other_registers : List ℕ → List ℕ
other_registers p =
    low_byte (get_or p 2 0) ∷ high_byte (get_or p 2 0)
    ∷ low_byte (get_or p 5 0) ∷ high_byte (get_or p 5 0)
    ∷ low_byte (get_or p 6 0) ∷ high_byte (get_or p 6 0)
    ∷ low_byte (get_or p 7 0) ∷ high_byte (get_or p 7 0)
    ∷ high_byte (get_or p 4 0) ∷ low_byte (get_or p 4 0)
    ∷ low_byte (get_or p 9 0) ∷ high_byte (get_or p 9 0)
    ∷ low_byte (get_or p 8 0) ∷ high_byte (get_or p 8 0) ∷ []

-- bytes 0 to 26
abbrev pub register_bytes : List ℕ → ℕ → ℕ → ℕ → List ℕ
register_bytes p i r border = first_registers p i r border ++ other_registers p

-- "normal written 0"
abbrev pub video_bits : Video → ℕ
video_bits Normal = 0
video_bits High = 1
video_bits Low = 3

-- byte 29: interrupt mode, issue 2, double interrupts, video, joystick
abbrev pub byte29 : ℕ → Bool → Bool → Video → ℕ → ℕ
byte29 im issue2 double video joystick =
    im % 4 + 4 * (bit_of issue2 % 2) + 8 * (bit_of double % 2) + 16 * (video_bits video % 4) + 64 * (joystick % 4)

-- bytes 27 to 33: IFF1 and IFF2 "written 0 or 1", byte 29, the word 54, PC
abbrev pub switch_bytes : Switches → ℕ → List ℕ
switch_bytes s pc =
    bit_of s.iff1 ∷ bit_of s.iff2
    ∷ byte29 s.im s.issue2 s.double s.video s.joystick
    ∷ 54 ∷ 0 ∷ low_byte pc ∷ high_byte pc ∷ []

-- v3: "0 48K, 1 48K+If.1, 3 48K+M.G.T., 4 128K, 5 128K+If.1, 6 128K+M.G.T."
abbrev pub mode_byte : Model → Attachment → ℕ
mode_byte K48 Nothing = 0
mode_byte K48 InterfaceI = 1
mode_byte K48 Mgt = 3
mode_byte K128 Nothing = 4
mode_byte K128 InterfaceI = 5
mode_byte K128 Mgt = 6

-- "Writing sets bit 2 exactly for a 48K machine with the chip."
abbrev pub chip_bit : Model → Bool → ℕ
chip_bit K48 chip = bit_of chip
chip_bit K128 chip = 0

-- byte 37: R emulation, LDIR emulation, the sound chip, "the rest written 0"
abbrev pub byte37 : Bool → Bool → ℕ → ℕ
byte37 remulation ldiremulation bit2 = bit_of remulation % 2 + 2 * (bit_of ldiremulation % 2) + 4 * (bit2 % 2)

-- bytes 34 to 38
abbrev pub port_bytes : Machine → List ℕ
port_bytes m =
    mode_byte m.model m.attachment ∷ m.out7ffd ∷ m.byte36
    ∷ byte37 m.remulation m.ldiremulation (chip_bit m.model m.chip) ∷ m.outfffd ∷ []

-- bytes 55 to 60: the counters, "58 ignored, written 0", 59, "60 must be 0"
abbrev pub counter_bytes : Model → ℕ → ℕ → List ℕ
counter_bytes model position side59 =
    low_byte (low_of model position) ∷ high_byte (low_of model position) ∷ (high_of model position % 256) ∷ 0 ∷ side59 ∷ 0 ∷ []
