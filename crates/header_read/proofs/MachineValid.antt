-- A header that is accepted gives a valid machine.
use Prim.Native.Nat.{ℕ, ◌%◌, ◌<◌}
use native.Mathlib.Omega.{arith}
use mathlib.Core.Path.{◌≡◌, refl}
use mathlib.Core.Bool.{true}
use mathlib.Core.List.{List}
use Rattle.slices.specs.Bytes.{at}
use Rattle.pages.specs.declared.Model.{Model}
use Rattle.pages.specs.declared.Model.TheVariants.{K48, K128}
use Rattle.spectrum.specs.declared.Attachment.{Attachment}
use Rattle.clock.specs.Clock.{clock_end}
use Rattle.spectrum.specs.Valid.{Valid, valid_of}
use Rattle.spectrum.proofs.Validity.{valid_true}
use Rattle.header.specs.declared.Version.{Version}
use Rattle.header.specs.declared.Version.TheVariants.{V1, V2, V3}
use Rattle.header.specs.declared.Head.TheVariants.{Header}
use Rattle.header.specs.Heads.{head_of}
use Rattle.header.proofs.AcceptedHeads.{opens}
use Rattle.header_read.specs.Reading.{switches_of, frame_position, machine_of}

-- a position made of counters is below 4q
position_below : (v : Version) (k : Model) (s : List ℕ) → frame_position v k s < clock_end k
position_below V1 K48 s = omega arith
position_below V1 K128 s = omega arith
position_below V2 K48 s = omega arith
position_below V2 K128 s = omega arith
position_below V3 K48 s = omega arith
position_below V3 K128 s = omega arith

pub read_valid : (v : Version) (model : Model) (a : Attachment) (s : List ℕ) → (at s 29 % 4 ≡ 3 → ⊥) → Valid (machine_of v model a s)
unfolding machine_of switches_of
read_valid v model a s i =
    record {
      im = let n : at s 29 % 4 ≡ 3 → ⊥ = i in omega arith;
      border = omega arith;
      joystick = omega arith;
      position = position_below v model s;
      out7ffd = λ e. rw e;
      chip = λ e. rw e;
      outfffd = λ e. rw e;
      silent = λ e. rw e;
    }

pub machine_valid : (s : List ℕ) (v : Version) (model : Model) (a : Attachment) → head_of s ≡ Header v model a → valid_of (machine_of v model a s) ≡ true
machine_valid s v model a e = valid_true _ (read_valid v model a s (opens s (head_of s) v model a refl e).im)
