use Rattle.header_read.specs.Reading.{machine_of, chip_of, chip_byte, sound_of}
use Rattle.slices.specs.Bytes.{at, bit_at}
use mathlib.Core.Path.{ap, ◌∙◌}
use mathlib.Core.Bool.{Bool}
use Prim.Native.Nat.{◌+◌, ◌*◌, ◌%◌}
use native.Mathlib.Omega.{arith}
use Rattle.header.proofs.HeadSteps.{long_30}
use Rattle.header_read.proofs.ReadSteps.{chip_long, inside_10, inside_11, inside_12}
use Rattle.header_read.proofs.read_machine.Goals as goal

pub read_switches-switches-requires : goal.read_switches-switches-requires
read_switches-switches-requires c = search long_30

pub bounds-s-11 : goal.bounds-s-11
bounds-s-11 c = search inside_11

pub byte12-requires : goal.byte12-requires
byte12-requires c = search inside_12

pub chip_byte-outfffd-requires : goal.chip_byte-outfffd-requires
chip_byte-outfffd-requires c = (chip_long _ _ _ _ _ c.requires c.later_byte-b.ensures c.read_chip-chip.ensures, omega arith)

pub read_sound-sound-requires : goal.read_sound-sound-requires
read_sound-sound-requires c = chip_long _ _ _ _ _ c.requires c.later_byte-b.ensures c.read_chip-chip.ensures

pub bounds-s-10 : goal.bounds-s-10
bounds-s-10 c = search inside_10

pub returns : goal.returns
unfolding machine_of
returns c = let s = c.args.s.now in
    let model = c.args.model in
    let b = c.later_byte-b.ensures in
    let chip = c.read_chip-chip.ensures ∙ ap (chip_of model) b in
    λ k. record {
      pairs = c.read_pairs-pairs.ensures k;
      i = at s 10;
      r = at s 11 % 128 + 128 * (c.byte12.ensures k % 2);
      switches = c.read_switches-switches.ensures k;
      model = model;
      attachment = c.args.attachment;
      out7ffd = c.carry-out7ffd.ensures k;
      byte36 = c.later_byte-byte36.ensures k;
      remulation = bit_at (b k) 1;
      ldiremulation = bit_at (b k) 2;
      chip = chip k;
      outfffd = (c.chip_byte-outfffd.ensures ∙ ap (λ (x : Bool). chip_byte x (at s 38)) chip) k;
      sound = (c.read_sound-sound.ensures ∙ ap (λ (x : Bool). sound_of x s) chip) k;
      position = c.read_position-position.ensures k;
      side59 = c.read_side59-side59.ensures k;
      side = c.read_side-side.ensures k;
    }
