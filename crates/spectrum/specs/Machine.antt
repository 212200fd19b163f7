-- The blank machine, and a machine with one pair or the last OUT to 7FFD changed.
use Rattle.std.specs.Prelude.{ℕ, false, List, set, replicate}
use Rattle.spectrum.specs.declared.Machine.{Machine}
use Rattle.pages.specs.declared.Model.TheVariants.{K48}
use Rattle.spectrum.specs.declared.Attachment.TheVariants.{Nothing}
use Rattle.spectrum.specs.declared.Video.TheVariants.{Normal}

-- "The blank machine is 48K, no attachment, every number 0, every switch off, video normal."; it has no sound chip
unfoldable pub blank_machine : Machine
blank_machine =
    record {
      pairs = replicate 12 0;
      i = 0;
      r = 0;
      switches = record { border = 0; iff1 = false; iff2 = false; im = 0; issue2 = false; double = false; video = Normal; joystick = 0 };
      model = K48;
      attachment = Nothing;
      out7ffd = 0;
      byte36 = 0;
      remulation = false;
      ldiremulation = false;
      outfffd = 0;
      chip = false;
      sound = replicate 16 0;
      position = 0;
      side59 = 0;
      side = replicate 25 0;
    }

-- the machine with other pairs and another last OUT to 7FFD
abbrev pub changed : Machine → List ℕ → ℕ → Machine
changed m pairs out =
    record {
      pairs = pairs;
      i = m.i;
      r = m.r;
      switches = m.switches;
      model = m.model;
      attachment = m.attachment;
      out7ffd = out;
      byte36 = m.byte36;
      remulation = m.remulation;
      ldiremulation = m.ldiremulation;
      outfffd = m.outfffd;
      chip = m.chip;
      sound = m.sound;
      position = m.position;
      side59 = m.side59;
      side = m.side;
    }

-- the pair p has the value v
unfoldable pub with_pair : Machine → ℕ → ℕ → Machine
with_pair m p v = changed m (set m.pairs p v) m.out7ffd

-- the last OUT to 7FFD is v
unfoldable pub with_out : Machine → ℕ → Machine
with_out m v = changed m m.pairs v
