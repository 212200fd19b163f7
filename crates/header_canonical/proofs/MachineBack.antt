-- A valid machine's header reads back as that machine.
use Prim.Native.Nat.{ℕ, zero, suc, ◌+◌, ◌*◌, ◌/◌, ◌%◌, ◌<◌}
use native.Mathlib.Omega.{arith}
use mathlib.Core.Path.{◌≡◌, refl, sym, ap, ◌∙◌}
use mathlib.Core.Bool.{Bool, true, false, not}
use mathlib.Core.List.{List, [], ◌∷◌, ◌++◌, append_assoc}
use lib.ListN.{length, get_or, take, drop, replicate, drop_of_length-le}
use lib.Seq.{drop-cons, take_at, get_or-append-add, drop-append-add}
use lib.Dec.{eqb}
use borrow.Author.Tests.{ne_eqb}
use Rattle.slices.specs.Choose.{choose}
use Rattle.slices.specs.Bytes.{at, word_at, bit_at, bit_of}
use Rattle.spectrum.specs.declared.Machine.{Machine}
use Rattle.spectrum.specs.declared.Video.{Video}
use Rattle.spectrum.specs.declared.Video.TheVariants.{Normal, High, Low}
use Rattle.pages.specs.declared.Model.{Model}
use Rattle.pages.specs.declared.Model.TheVariants.{K48, K128}
use Rattle.clock.specs.Clock.{position_of, low_of, high_of}
use Rattle.spectrum.specs.Valid.{Typed, Valid}
use Rattle.clock.proofs.Counters.{position_back}
use Rattle.header.specs.declared.Version.TheVariants.{V3}
use Rattle.header_read.specs.Reading.{pairs_before, pairs_of, video_of, switches_of, carried, chip_of, chip_byte, sound_of, machine_of}
use Rattle.header_pieces.specs.Pieces.{video_bits, chip_bit, byte37, counter_bytes}
use Rattle.header_write.specs.Writing.{header_of}

pub word_back : (n : ℕ) → n < 65536 → n % 256 + 256 * (n / 256 % 256) ≡ n
word_back n h = omega arith

-- byte 12 as it is written, with R's bit 7 and the border, is never 255
byte12_kept : (r b : ℕ) → r < 256 → choose (eqb (r / 128 + 2 * (b % 8)) 255) 1 (r / 128 + 2 * (b % 8)) ≡ r / 128 + 2 * (b % 8)
byte12_kept r b h = rw (ne_eqb (r / 128 + 2 * (b % 8)) 255 (λ e. omega arith))

r_back : (r b : ℕ) → r < 256 → r % 128 % 128 + 128 * (choose (eqb (r / 128 + 2 * (b % 8)) 255) 1 (r / 128 + 2 * (b % 8)) % 2) ≡ r
r_back r b h = rw (byte12_kept r b h) (omega arith)

border_back : (r b : ℕ) → r < 256 → b < 8 → choose (eqb (r / 128 + 2 * (b % 8)) 255) 1 (r / 128 + 2 * (b % 8)) / 2 % 8 ≡ b
border_back r b h k = rw (byte12_kept r b h) (omega arith)

-- the parts of byte 29
module _ (im i d v j : ℕ) where
  abbrev pub parts : ℕ
  parts = im % 4 + 4 * (i % 2) + 8 * (d % 2) + 16 * (v % 4) + 64 * (j % 4)

  pub im_back : im < 3 → parts % 4 ≡ im
  im_back h = omega arith

  issue_back : parts / 4 % 2 ≡ i % 2
  issue_back = omega arith

  double_back : parts / 8 % 2 ≡ d % 2
  double_back = omega arith

  video_back : parts / 16 % 4 ≡ v % 4
  video_back = omega arith

  joystick_back : j < 4 → parts / 64 % 4 ≡ j
  joystick_back h = omega arith

is_one : (b : Bool) → eqb (bit_of b % 2) 1 ≡ b
is_one true = refl
is_one false = refl

is_not_zero : (b : Bool) → not (eqb (bit_of b) 0) ≡ b
is_not_zero true = refl
is_not_zero false = refl

is_video : (v : Video) → video_of (video_bits v % 4) ≡ v
is_video Normal = refl
is_video High = refl
is_video Low = refl

low_small : (k : Model) (p : ℕ) → low_of k p < 65536
low_small K48 p = omega arith
low_small K128 p = omega arith

-- the n elements of l from i on
abbrev span : ℕ → ℕ → List ℕ → List ℕ
span zero i l = []
span (suc n) i l = get_or l i 0 ∷ span n (suc i) l

span_is : (n i : ℕ) (l : List ℕ) → i + n ≡ length l → span n i l ≡ drop i l
span_is zero i l e = sym (drop_of_length-le l {i = i} (omega arith))
span_is (suc n) i l e = ap (λ (t : List ℕ). get_or l i 0 ∷ t) (span_is n (suc i) l (omega arith)) ∙ sym (drop-cons l i 0 (omega arith))

-- past a list of known length
skip : (p t : List ℕ) (n j : ℕ) → length p ≡ n → get_or (p ++ t) (n + j) 0 ≡ get_or t j 0
skip p t n j e = rw (← e) (get_or-append-add p t j 0)

skip_drop : (p t : List ℕ) (n j : ℕ) → length p ≡ n → drop (n + j) (p ++ t) ≡ drop j t
skip_drop p t n j e = rw (← e) (drop-append-add p t j)

pub carried_back : (k : Model) (b : ℕ) → (k ≡ K48 → b ≡ 0) → carried k b ≡ b
carried_back K48 b h = sym (h refl)
carried_back K128 b h = refl

outfffd_back : (c : Bool) (b : ℕ) → (c ≡ false → b ≡ 0) → chip_byte c b ≡ b
outfffd_back true b h = refl
outfffd_back false b h = sym (h refl)

silent_back : (c : Bool) (l s : List ℕ) → (c ≡ false → l ≡ replicate 16 0) → take 16 (drop 39 s) ≡ l → sound_of c s ≡ l
silent_back true l s h e = e
silent_back false l s h e = sym (h refl)

-- the low two bits of a byte
module _ (a b : Bool) (c n : ℕ) (e : n ≡ bit_of a % 2 + 2 * (bit_of b % 2) + 4 * c) where
  pub first_bit : bit_at n 1 ≡ a
  first_bit = let q : n / 1 % 2 ≡ bit_of a % 2 = omega arith in ap (λ (x : ℕ). eqb x 1) q ∙ is_one a

  pub second_bit : bit_at n 2 ≡ b
  second_bit = let q : n / 2 % 2 ≡ bit_of b % 2 = omega arith in ap (λ (x : ℕ). eqb x 1) q ∙ is_one b

-- bit 2 of byte 37
module _ (a b chip : Bool) where
  third_bit : (n : ℕ) → byte37 a b n / 4 % 2 ≡ n % 2
  third_bit n = omega arith

  bit2_back : bit_at (byte37 a b (bit_of chip)) 4 ≡ chip
  bit2_back = ap (λ (x : ℕ). eqb x 1) (third_bit (bit_of chip)) ∙ is_one chip

  chip_back : (k : Model) → (k ≡ K128 → chip ≡ true) → chip_of k (byte37 a b (chip_bit k chip)) ≡ chip
  chip_back K48 h = bit2_back
  chip_back K128 h = sym (h refl)

  mark_back : (k : Model) → bit_of (bit_at (byte37 a b (chip_bit k chip)) 4) ≡ chip_bit k chip
  mark_back K48 = ap bit_of bit2_back
  mark_back K128 = ap (λ (x : ℕ). bit_of (eqb x 1)) (third_bit 0)

pub header_mark : (m : Machine) → bit_of (bit_at (at (header_of m) 37) 4) ≡ chip_bit m.model m.chip
unfolding header_of
header_mark m = mark_back m.remulation m.ldiremulation m.chip m.model

high_small : (k : Model) (p : ℕ) → high_of k p % 256 ≡ high_of k p
high_small K48 p = omega arith
high_small K128 p = omega arith

module _ (m : Machine) (rest : List ℕ) (t : Typed m) where
  abbrev whole : List ℕ
  whole = header_of m ++ rest

  abbrev after_sound : List ℕ
  after_sound = counter_bytes m.model m.position m.side59 ++ m.side

  pairs_back : pairs_of V3 whole ≡ m.pairs
  unfolding pairs_before header_of
  pairs_back =
      let w : (j : ℕ) → get_or m.pairs j 0 % 256 + 256 * (get_or m.pairs j 0 / 256 % 256) ≡ get_or m.pairs j 0 = λ j. word_back (get_or m.pairs j 0) (t.pairs j) in
      (λ k. w 0 k ∷ w 1 k ∷ w 2 k ∷ w 3 k ∷ w 4 k ∷ w 5 k ∷ w 6 k ∷ w 7 k ∷ w 8 k ∷ w 9 k ∷ w 10 k ∷ w 11 k ∷ [])
      ∙ span_is 12 0 m.pairs (sym t.count)

  sound_back : take 16 (drop 39 whole) ≡ m.sound
  unfolding header_of
  sound_back = ap (take 16) (append_assoc m.sound after_sound rest) ∙ take_at m.sound (after_sound ++ rest) 16 t.sound

  counter_at : (j : ℕ) → get_or ((m.sound ++ after_sound) ++ rest) (16 + j) 0 ≡ get_or (after_sound ++ rest) j 0
  counter_at j = ap (λ (l : List ℕ). get_or l (16 + j) 0) (append_assoc m.sound after_sound rest) ∙ skip m.sound (after_sound ++ rest) 16 j t.sound

  pub low_back : word_at whole 55 ≡ low_of m.model m.position
  unfolding header_of
  low_back = (λ k. counter_at 0 k + 256 * counter_at 1 k) ∙ word_back (low_of m.model m.position) (low_small m.model m.position)

  pub high_back : at whole 57 ≡ high_of m.model m.position
  unfolding header_of
  high_back = counter_at 2 ∙ high_small m.model m.position

  pub zero_back : at whole 60 ≡ 0
  unfolding header_of
  zero_back = counter_at 5

  side59_back : at whole 59 ≡ m.side59
  unfolding header_of
  side59_back = counter_at 4

  side_back : take 25 (drop 61 whole) ≡ m.side
  unfolding header_of
  side_back =
      ap (λ (l : List ℕ). take 25 (drop 22 l)) (append_assoc m.sound after_sound rest)
      ∙ ap (take 25) (skip_drop m.sound (after_sound ++ rest) 16 6 t.sound)
      ∙ take_at m.side rest 25 t.side

  module _ (v : Valid m) where
    switches_back : switches_of whole ≡ m.switches
    unfolding switches_of header_of
    switches_back =
        let w = m.switches in
        let i = bit_of w.issue2 in
        let d = bit_of w.double in
        let u = video_bits w.video in
        λ k. record {
          border = border_back m.r w.border t.r8 v.border k;
          iff1 = is_not_zero w.iff1 k;
          iff2 = is_not_zero w.iff2 k;
          im = im_back w.im i d u w.joystick v.im k;
          issue2 = (ap (λ (n : ℕ). eqb n 1) (issue_back w.im i d u w.joystick) ∙ is_one w.issue2) k;
          double = (ap (λ (n : ℕ). eqb n 1) (double_back w.im i d u w.joystick) ∙ is_one w.double) k;
          video = (ap video_of (video_back w.im i d u w.joystick) ∙ is_video w.video) k;
          joystick = joystick_back w.im i d u w.joystick v.joystick k;
        }

    pub machine_back : machine_of V3 m.model m.attachment whole ≡ m
    unfolding machine_of header_of
    machine_back =
        let a = m.remulation in
        let b = m.ldiremulation in
        let c = chip_bit m.model m.chip % 2 in
        let chip = chip_back a b m.chip m.model v.chip in
        λ k. record {
          pairs = pairs_back k;
          i = m.i;
          r = r_back m.r m.switches.border t.r8 k;
          switches = switches_back k;
          model = m.model;
          attachment = m.attachment;
          out7ffd = carried_back m.model m.out7ffd v.out7ffd k;
          byte36 = m.byte36;
          remulation = first_bit a b c _ refl k;
          ldiremulation = second_bit a b c _ refl k;
          chip = chip k;
          outfffd = (ap (λ (x : Bool). chip_byte x m.outfffd) chip ∙ outfffd_back m.chip m.outfffd v.outfffd) k;
          sound = (ap (λ (x : Bool). sound_of x whole) chip ∙ silent_back m.chip m.sound whole v.silent sound_back) k;
          position = ((λ j. position_of m.model (low_back j) (high_back j)) ∙ position_back m.model m.position v.position) k;
          side59 = side59_back k;
          side = side_back k;
        }
