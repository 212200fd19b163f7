-- A 128K machine, all of whose numbers are 0, on which the empty versions are tried.
use Prim.Native.Nat.{ℕ, zero, suc}
use mathlib.Core.Path.{◌≡◌, refl}
use mathlib.Core.Bool.{true, false}
use native.Mathlib.Omega.{arith}
use lib.ListN.{get_or, replicate}
use Rattle.spectrum.specs.declared.Machine.{Machine}
use Rattle.pages.specs.declared.Model.TheVariants.{K128}
use Rattle.spectrum.specs.declared.Attachment.TheVariants.{Nothing}
use Rattle.spectrum.specs.declared.Video.TheVariants.{Normal}
use Rattle.spectrum.specs.Valid.{Typed, valid_of}

unfoldable pub sample : Machine
sample =
    record {
      pairs = replicate 12 0;
      i = 0;
      r = 0;
      switches = record { border = 0; iff1 = false; iff2 = false; im = 0; issue2 = false; double = false; video = Normal; joystick = 0 };
      model = K128;
      attachment = Nothing;
      out7ffd = 0;
      byte36 = 0;
      remulation = false;
      ldiremulation = false;
      chip = true;
      outfffd = 0;
      sound = replicate 16 0;
      position = 0;
      side59 = 0;
      side = replicate 25 0;
    }

pub zero_at : (n i : ℕ) → ◌≡◌ {A = ℕ} (get_or (replicate n 0) i 0) 0
zero_at zero i = refl
zero_at (suc n) zero = refl
zero_at (suc n) (suc i) = zero_at n i

pub sample_typed : Typed sample
unfolding sample
sample_typed = record { pairs = λ k. omega (arith, zero_at 12 k); count = refl; r8 = omega arith; out = omega arith; sound = refl; side = refl }

pub sample_valid : valid_of sample ≡ true
unfolding sample valid_of
sample_valid = refl
