use Prim.Native.Nat.{◌/◌, ◌%◌}
use mathlib.Core.Bool.{not}
use lib.Dec.{eqb}
use Rattle.slices.specs.Bytes.{at, bit_at}
use Rattle.header_read.specs.Reading.{switches_of}
use Rattle.header_read.proofs.read_switches.Goals as goal

pub returns : goal.returns
unfolding switches_of
returns c = let s = c.args.s.now in
    λ k. record {
      border = c.byte12-c.ensures k / 2 % 8;
      iff1 = not (eqb (at s 27) 0);
      iff2 = not (eqb (at s 28) 0);
      im = at s 29 % 4;
      issue2 = bit_at (at s 29) 4;
      double = bit_at (at s 29) 8;
      video = c.read_video-video.ensures k;
      joystick = at s 29 / 64 % 4;
    }
