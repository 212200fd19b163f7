-- The machine that a header gives, whatever its version: "Header bytes (v1 has 0 to 29, v2 to 54, v3 to 85)".
use Rattle.std.specs.Prelude.{ℕ, ◌+◌, ◌*◌, ◌/◌, ◌%◌, Bool, true, false, not, List, [], ◌∷◌, take, drop, replicate, eqb}
use Rattle.slices.specs.Choose.{choose}
use Rattle.slices.specs.Bytes.{at, word_at, bit_at}
use Rattle.spectrum.specs.declared.Machine.{Machine}
use Rattle.spectrum.specs.declared.Switches.{Switches}
use Rattle.spectrum.specs.declared.Video.{Video}
use Rattle.spectrum.specs.declared.Video.TheVariants.{Normal, High, Low}
use Rattle.pages.specs.declared.Model.{Model}
use Rattle.pages.specs.declared.Model.TheVariants.{K48, K128}
use Rattle.spectrum.specs.declared.Attachment.{Attachment}
use Rattle.clock.specs.Clock.{position_of}
use Rattle.header.specs.declared.Version.{Version}
use Rattle.header.specs.declared.Version.TheVariants.{V1, V2, V3}
use Rattle.header.specs.Heads.{byte12_of}

-- "PC not zero means v1. Otherwise .. PC is at 32."
abbrev pub pc_at : Version → ℕ
pc_at V1 = 6
pc_at V2 = 32
pc_at V3 = 32

-- AF BC DE HL AF' BC' DE' HL' IX IY SP PC: "0 A, 1 F, 2 BC, 4 HL, 8 SP, 13 DE, 15 BC', 17 DE', 19 HL', 21 A', 22 F', 23 IY, 25 IX"
unfoldable pub pairs_before : List ℕ → ℕ → List ℕ
pairs_before s pc =
    (at s 1 + 256 * at s 0) ∷ word_at s 2 ∷ word_at s 13 ∷ word_at s 4 ∷ (at s 22 + 256 * at s 21) ∷ word_at s 15
    ∷ word_at s 17 ∷ word_at s 19 ∷ word_at s 25 ∷ word_at s 23 ∷ word_at s 8 ∷ pc ∷ []

abbrev pub pairs_of : Version → List ℕ → List ℕ
pairs_of version s = pairs_before s (word_at s (pc_at version))

-- "R is byte 11 modulo 128, with bit 7 from bit 0 of byte 12"
abbrev pub r_of : List ℕ → ℕ
r_of s = at s 11 % 128 + 128 * (byte12_of s % 2)

-- "video (1 high, 3 low, 0 and 2 normal)"
abbrev pub video_of : ℕ → Video
video_of n = choose (eqb n 1) High (choose (eqb n 3) Low Normal)

-- border: bits 1-3 of byte 12; 27 and 28: "on exactly when not zero"; 29: its five parts
unfoldable pub switches_of : List ℕ → Switches
switches_of s =
    record {
      border = byte12_of s / 2 % 8;
      iff1 = not (eqb (at s 27) 0);
      iff2 = not (eqb (at s 28) 0);
      im = at s 29 % 4;
      issue2 = bit_at (at s 29) 4;
      double = bit_at (at s 29) 8;
      video = video_of (at s 29 / 16 % 4);
      joystick = at s 29 / 64 % 4;
    }

-- byte 35: "In 48K mode these carry nothing: read as 0"
abbrev pub carried : Model → ℕ → ℕ
carried K48 b = 0
carried K128 b = b

-- "v1 gives 0 for 36 and 37"
abbrev pub after_v1 : Version → ℕ → ℕ
after_v1 V1 b = 0
after_v1 V2 b = b
after_v1 V3 b = b

-- whether the machine has the sound chip, by byte 37: of a 48K machine bit 2 says so, which in v1 counts as 0. "A 128K machine always has
-- the chip."
abbrev pub chip_of : Model → ℕ → Bool
chip_of K48 b = bit_at b 4
chip_of K128 b = true

-- with the chip "bytes 38 to 54" are kept; "without, they read as 0"
abbrev pub chip_byte : Bool → ℕ → ℕ
chip_byte true b = b
chip_byte false b = 0

abbrev pub sound_of : Bool → List ℕ → List ℕ
sound_of true s = take 16 (drop 39 s)
sound_of false s = replicate 16 0

-- "v1 and v2 give position 0"
abbrev pub frame_position : Version → Model → List ℕ → ℕ
frame_position V1 model s = 0
frame_position V2 model s = 0
frame_position V3 model s = position_of model (word_at s 55) (at s 57)

-- the 26 side bytes: "v1 and v2 give 255 for bytes 61 and 62, 0 for the rest"
abbrev pub side59_of : Version → List ℕ → ℕ
side59_of V1 s = 0
side59_of V2 s = 0
side59_of V3 s = at s 59

abbrev pub no_side : List ℕ
no_side = 255 ∷ 255 ∷ replicate 23 0

abbrev pub side_of : Version → List ℕ → List ℕ
side_of V1 s = no_side
side_of V2 s = no_side
side_of V3 s = take 25 (drop 61 s)

unfoldable pub machine_of : Version → Model → Attachment → List ℕ → Machine
machine_of version model attachment s =
    let b = after_v1 version (at s 37) in
    let hasChip = chip_of model b in
    record {
      pairs = pairs_of version s;
      i = at s 10;
      r = r_of s;
      switches = switches_of s;
      model = model;
      attachment = attachment;
      out7ffd = carried model (at s 35);
      byte36 = after_v1 version (at s 36);
      remulation = bit_at b 1;
      ldiremulation = bit_at b 2;
      chip = hasChip;
      outfffd = chip_byte hasChip (at s 38);
      sound = sound_of hasChip s;
      position = frame_position version model s;
      side59 = side59_of version s;
      side = side_of version s;
    }
