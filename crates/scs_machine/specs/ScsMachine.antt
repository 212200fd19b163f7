-- The machine that an SCS file gives: from the 34 bytes of its CPU block and the 19 of its Ports block.
use Rattle.std.specs.Prelude.{ℕ, ◌+◌, ◌*◌, ◌%◌, true, false, List, [], ◌∷◌, take, drop}
use Rattle.slices.specs.Bytes.{at, word_at, bit_at}
use Rattle.pages.specs.declared.Model.{Model}
use Rattle.spectrum.specs.declared.Machine.{Machine}
use Rattle.spectrum.specs.declared.Switches.{Switches}
use Rattle.spectrum.specs.declared.Video.TheVariants.{Normal}
use Rattle.spectrum.specs.declared.Attachment.TheVariants.{Nothing}
use Rattle.header_read.specs.Reading.{carried, no_side}

-- "BYTE a, f, b, c, d, e, h, l": the high byte first
abbrev pub high_first : List ℕ → ℕ → ℕ
high_first s i = at s (i + 1) + 256 * at s i

-- AF BC DE HL AF' BC' DE' HL' IX IY SP PC; of these "WORD ix, iy, pc, sp" have their low byte first
unfoldable pub scs_pairs : List ℕ → List ℕ
scs_pairs cpu =
    high_first cpu 0 ∷ high_first cpu 2 ∷ high_first cpu 4 ∷ high_first cpu 6
    ∷ high_first cpu 8 ∷ high_first cpu 10 ∷ high_first cpu 12 ∷ high_first cpu 14
    ∷ word_at cpu 16 ∷ word_at cpu 18 ∷ word_at cpu 22 ∷ word_at cpu 20 ∷ []

-- "Of the interrupt mode the low two bits count"
abbrev pub scs_mode : List ℕ → ℕ
scs_mode cpu = at cpu 26 % 4

-- of the border three; "bit0=IFF1, bit1=IFF2"; "bits 2-7 of byte 29 zero"
unfoldable pub scs_switches : List ℕ → List ℕ → Switches
scs_switches cpu ports =
    record {
      border = at ports 0 % 8;
      iff1 = bit_at (at cpu 27) 1;
      iff2 = bit_at (at cpu 27) 2;
      im = scs_mode cpu;
      issue2 = false;
      double = false;
      video = Normal;
      joystick = 0;
    }

-- "what a 48K machine does not carry reads as 0": the last OUT to 7FFD. "A 48K machine from SCS always has the chip"; of the last OUT to
-- FFFD the low four bits count. "Everything else reads as from v1": from the attachment on
unfoldable pub scs_machine : Model → List ℕ → List ℕ → Machine
scs_machine model cpu ports =
    record {
      pairs = scs_pairs cpu;
      i = at cpu 24;
      r = at cpu 25;
      switches = scs_switches cpu ports;
      model = model;
      out7ffd = carried model (at ports 1);
      chip = true;
      outfffd = at ports 2 % 16;
      sound = take 16 (drop 3 ports);
      attachment = Nothing;
      byte36 = 0;
      remulation = false;
      ldiremulation = false;
      position = 0;
      side59 = 0;
      side = no_side;
    }
