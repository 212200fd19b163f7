-- WHAT SCS KEEPS OF A MACHINE: what comes back after a detour through an SCS file, field by field.
use Rattle.std.specs.Prelude.{◌%◌, true, false}
use Rattle.spectrum.specs.declared.Machine.{Machine}
use Rattle.spectrum.specs.declared.Video.TheVariants.{Normal}
use Rattle.spectrum.specs.declared.Attachment.TheVariants.{Nothing}
use Rattle.header_read.specs.Reading.{no_side}

-- "48K or 128K, registers, IFFs, interrupt mode, border, the last OUT to 7FFD and sound come back, and of the last OUT to FFFD the low four
-- bits": kept are all fields that name the machine's own; the others are reset, "as from v1 with bits 2-7 of byte 29 zero". A 48K machine
-- "from SCS always has the chip, so one without gains it there"
unfoldable pub scs_keeps : Machine → Machine
scs_keeps m =
    record {
      model = m.model;
      pairs = m.pairs;
      i = m.i;
      r = m.r;
      switches =
          record {
            iff1 = m.switches.iff1;
            iff2 = m.switches.iff2;
            im = m.switches.im;
            border = m.switches.border;
            issue2 = false;
            double = false;
            video = Normal;
            joystick = 0;
          };
      out7ffd = m.out7ffd;
      chip = true;
      sound = m.sound;
      outfffd = m.outfffd % 16;
      attachment = Nothing;
      byte36 = 0;
      remulation = false;
      ldiremulation = false;
      position = 0;
      side59 = 0;
      side = no_side;
    }
