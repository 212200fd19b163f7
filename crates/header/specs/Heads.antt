-- What the header of a file says, or why it is refused: 2 (30 bytes), the version, 2 (32 bytes), 3, 2 (whole header), 4, 5, 6, 7;
-- v1 goes 4, 5. Of these 2 and 6 have figures.
use Rattle.std.specs.Prelude.{ℕ, ◌-◌, ◌%◌, Bool, not, List, length, eqb, ltb, leb}
use Rattle.slices.specs.Choose.{choose}
use Rattle.slices.specs.Bytes.{at, word_at, bit_at}
use Rattle.pages.specs.declared.Model.{Model}
use Rattle.pages.specs.declared.Model.TheVariants.{K48, K128}
use Rattle.spectrum.specs.declared.Attachment.{Attachment}
use Rattle.spectrum.specs.declared.Attachment.TheVariants.{Nothing, InterfaceI, Mgt}
use Rattle.numbers.specs.declared.Refusal.TheVariants.{UnknownVersion, ModeNotCarried, InterruptMode, Byte60}
use Rattle.numbers.specs.Faults.{unplaced, file_short, counter_beyond}
use Rattle.clock.specs.Clock.{quarter}
use Rattle.header.specs.declared.Version.{Version}
use Rattle.header.specs.declared.Version.TheVariants.{V1, V2, V3}
use Rattle.header.specs.declared.Known.{Known}
use Rattle.header.specs.declared.Known.TheVariants.{Is, Unknown}
use Rattle.header.specs.declared.Mode.{Mode}
use Rattle.header.specs.declared.Mode.TheVariants.{Carried, NotCarried}
use Rattle.header.specs.declared.Head.{Head}
use Rattle.header.specs.declared.Head.TheVariants.{Refused, Header}

-- "Byte 12 equal to 255 counts as 1."
abbrev pub byte12_of : List ℕ → ℕ
byte12_of s = choose (eqb (at s 12) 255) 1 (at s 12)

-- how many bytes the header has
abbrev pub header_length : Version → ℕ
header_length V1 = 30
header_length V2 = 55
header_length V3 = 86

-- "the word at 30 is 23 (v2) or 54 (v3)"
abbrev pub version_of : ℕ → Known
version_of n = choose (eqb n 23) (Is V2) (choose (eqb n 54) (Is V3) Unknown)

-- "v2: 0 48K, 1 48K+If.1, 3 128K, 4 128K+If.1"
abbrev pub mode2 : ℕ → Mode
mode2 n =
    choose (eqb n 0) (Carried K48 Nothing)
    (choose (eqb n 1) (Carried K48 InterfaceI)
    (choose (eqb n 3) (Carried K128 Nothing)
    (choose (eqb n 4) (Carried K128 InterfaceI) NotCarried)))

-- "v3: 0 48K, 1 48K+If.1, 3 48K+M.G.T., 4 128K, 5 128K+If.1, 6 128K+M.G.T. Every other number, 2 included, is refused."
abbrev pub mode3 : ℕ → Mode
mode3 n =
    choose (eqb n 0) (Carried K48 Nothing)
    (choose (eqb n 1) (Carried K48 InterfaceI)
    (choose (eqb n 3) (Carried K48 Mgt)
    (choose (eqb n 4) (Carried K128 Nothing)
    (choose (eqb n 5) (Carried K128 InterfaceI)
    (choose (eqb n 6) (Carried K128 Mgt) NotCarried)))))

-- v1 is 48K without attachment, whatever stands where the later versions have their mode
abbrev pub mode_of : Version → ℕ → Mode
mode_of V1 n = Carried K48 Nothing
mode_of V2 n = mode2 n
mode_of V3 n = mode3 n

-- "5 interrupt mode 3"
abbrev pub bad_im : List ℕ → Bool
bad_im s = eqb (at s 29 % 4) 3

-- v3: 6 unless "low is below q and high at most 3", low before high, then 7
abbrev pub clock_head : Version → Model → Attachment → List ℕ → Head
clock_head V1 model attachment s = Header V1 model attachment
clock_head V2 model attachment s = Header V2 model attachment
clock_head V3 model attachment s =
    choose (leb (quarter model) (word_at s 55)) (Refused (counter_beyond (word_at s 55) (quarter model - 1)))
    (choose (ltb 3 (at s 57)) (Refused (counter_beyond (at s 57) 3))
    (choose (not (eqb (at s 60) 0)) (Refused (unplaced Byte60)) (Header V3 model attachment)))

-- 4, then 5, then 6 and 7
abbrev pub mode_head : Version → Mode → List ℕ → Head
mode_head version NotCarried s = Refused (unplaced ModeNotCarried)
mode_head version (Carried model attachment) s = choose (bad_im s) (Refused (unplaced InterruptMode)) (clock_head version model attachment s)

-- 3, then 2 (whole header), then the rest
abbrev pub later_head : Known → List ℕ → Head
later_head Unknown s = Refused (unplaced UnknownVersion)
later_head (Is version) s = choose (ltb (length s) (header_length version)) (Refused (file_short (length s) (header_length version))) (mode_head version (mode_of version (at s 34)) s)

-- v1: 4 for SamRom, bit 4 of byte 12, then 5
abbrev pub first_head : List ℕ → Head
first_head s = choose (bit_at (byte12_of s) 16) (Refused (unplaced ModeNotCarried)) (choose (bad_im s) (Refused (unplaced InterruptMode)) (Header V1 K48 Nothing))

unfoldable pub head_of : List ℕ → Head
head_of s =
    choose (ltb (length s) 30) (Refused (file_short (length s) 30))
    (choose (eqb (word_at s 6) 0)
    (choose (ltb (length s) 32) (Refused (file_short (length s) 32)) (later_head (version_of (word_at s 30)) s))
    (first_head s))
