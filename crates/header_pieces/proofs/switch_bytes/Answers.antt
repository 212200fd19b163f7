use Prim.Native.Nat.{◌+◌, ◌*◌, ◌%◌}
use mathlib.Core.List.{[], ◌∷◌}
use Rattle.slices.specs.Bytes.{low_byte, high_byte}
use Rattle.header_pieces.proofs.switch_bytes.Goals as goal

pub returns : goal.returns
returns c = let s = c.args.s in
    λ k. c.bit.ensures k ∷ c.bit-2.ensures k
    ∷ (s.im % 4 + 4 * (c.bit-3.ensures k % 2) + 8 * (c.bit-4.ensures k % 2) + 16 * (c.video_bits-video.ensures k % 4) + 64 * (s.joystick % 4))
    ∷ 54 ∷ 0 ∷ low_byte c.args.pc ∷ high_byte c.args.pc ∷ []
