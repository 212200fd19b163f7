-- A valid machine's header is accepted.
use Prim.Native.Nat.{ℕ, ◌%◌, ◌<◌, ◌≤◌}
use native.Mathlib.Omega.{arith}
use mathlib.Core.Path.{◌≡◌, refl, sym, subst}
use mathlib.Core.List.{List, ◌++◌}
use lib.ListN.{length, length-append}
use Rattle.slices.specs.Bytes.{at, word_at, bit_of}
use Rattle.spectrum.specs.declared.Machine.{Machine}
use Rattle.pages.specs.declared.Model.{Model}
use Rattle.pages.specs.declared.Model.TheVariants.{K48, K128}
use Rattle.spectrum.specs.declared.Attachment.{Attachment}
use Rattle.spectrum.specs.declared.Attachment.TheVariants.{Nothing, InterfaceI, Mgt}
use Rattle.clock.specs.Clock.{quarter, low_of, high_of}
use Rattle.spectrum.specs.Valid.{Typed, Valid}
use Rattle.header.specs.declared.Version.TheVariants.{V3}
use Rattle.header.specs.declared.Known.TheVariants.{Is}
use Rattle.header.specs.declared.Mode.TheVariants.{Carried}
use Rattle.header.specs.declared.Head.TheVariants.{Header}
use Rattle.header.specs.Heads.{mode3, mode_of, clock_head, head_of}
use Rattle.header.proofs.HeadSteps.{clock_good, mode_3, later_good, head_later}
use Rattle.header_pieces.specs.Pieces.{video_bits, mode_byte}
use Rattle.header_write.specs.Writing.{header_of}
use Rattle.header_write.proofs.WriteSteps.{header_86}
use Rattle.header_canonical.proofs.MachineBack.{im_back, low_back, high_back, zero_back}

pub mode_back : (k : Model) (a : Attachment) → mode3 (mode_byte k a) ≡ Carried k a
mode_back K48 Nothing = refl
mode_back K48 InterfaceI = refl
mode_back K48 Mgt = refl
mode_back K128 Nothing = refl
mode_back K128 InterfaceI = refl
mode_back K128 Mgt = refl

low_below : (k : Model) (p : ℕ) → low_of k p < quarter k
low_below K48 p = omega arith
low_below K128 p = omega arith

high_below : (k : Model) (p : ℕ) → high_of k p ≤ 3
high_below K48 p = omega arith
high_below K128 p = omega arith

module _ (m : Machine) (rest : List ℕ) (t : Typed m) (v : Valid m) where
  abbrev whole : List ℕ
  whole = header_of m ++ rest

  whole_long : 86 ≤ length whole
  whole_long = omega (arith, length-append (header_of m) rest, header_86 m t)

  im_good : at whole 29 % 4 ≡ 3 → ⊥
  unfolding header_of
  im_good e =
      let w = m.switches in
      let q = im_back w.im (bit_of w.issue2) (bit_of w.double) (video_bits w.video) w.joystick v.im in
      omega (arith, v.im)

  no_pc : 0 ≡ word_at whole 6
  unfolding header_of
  no_pc = refl

  is_54 : 54 ≡ word_at whole 30
  unfolding header_of
  is_54 = refl

  is_mode : Carried m.model m.attachment ≡ mode_of V3 (at whole 34)
  unfolding header_of
  is_mode = sym (mode_back m.model m.attachment)

  pub head_back : head_of whole ≡ Header V3 m.model m.attachment
  head_back =
      let k = m.model in
      let a = m.attachment in
      let clock : Header V3 k a ≡ clock_head V3 k a whole =
      clock_good k a whole (quarter k) (word_at whole 55) refl refl
      (subst (λ (x : ℕ). x < quarter k) (sym (low_back m rest t)) (low_below k m.position))
      (subst (λ (x : ℕ). x ≤ 3) (sym (high_back m rest t)) (high_below k m.position)) (zero_back m rest t) in
      sym (head_later whole (omega (arith, whole_long)) 0 no_pc refl (omega (arith, whole_long)) 54 (Is V3) is_54 refl V3 _ refl
      (later_good V3 whole 86 refl (Carried k a) whole_long is_mode k a _ refl (mode_3 V3 k a whole im_good _ refl clock)))
