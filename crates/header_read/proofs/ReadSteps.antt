-- The parts of a machine, at each return of the code that reads them.
use Prim.Native.Nat.{ℕ, ◌+◌, ◌<◌, ◌≤◌}
use native.Mathlib.Omega.{arith}
use mathlib.Core.Path.{◌≡◌, refl, sym, ap, ◌∙◌}
use mathlib.Core.Bool.{Bool, true}
use mathlib.Core.List.{List}
use lib.ListN.{length, take, drop}
use borrow.Author.Tests.{ne_eqb}
use Rattle.slices.specs.Bytes.{at, word_at, bit_at}
use Rattle.pages.specs.declared.Model.{Model}
use Rattle.pages.specs.declared.Model.TheVariants.{K48, K128}
use Rattle.spectrum.specs.declared.Video.TheVariants.{Normal}
use Rattle.clock.specs.Clock.{position_of}
use Rattle.header.specs.declared.Version.{Version}
use Rattle.header.specs.declared.Version.TheVariants.{V1, V2, V3}
use Rattle.header.specs.Heads.{header_length}
use Rattle.header.specs.Inner.{Readable}
use Rattle.header.proofs.HeadSteps.{long_30, long_v2, long_v3}
use Rattle.header_read.specs.Reading.{pc_at, pairs_before, pairs_of, video_of, carried, after_v1, chip_of, chip_byte, sound_of, frame_position, side59_of, side_of}

-- places inside a header
module _ (v : Version) (n : ℕ) (h : header_length v ≤ n) where
  pub inside_10 : 10 < n
  inside_10 = let k = long_30 v n h in omega arith

  pub inside_11 : 11 < n
  inside_11 = let k = long_30 v n h in omega arith

  pub inside_12 : 12 < n
  inside_12 = let k = long_30 v n h in omega arith

  pub later_2 : (place : ℕ) → v ≡ V2 → place < 55 → place < n
  later_2 place e l = let k = long_v2 v n e h in omega arith

  pub later_3 : (place : ℕ) → v ≡ V3 → place < 55 → place < n
  later_3 place e l = let k = long_v3 v n e h in omega arith

  pub inside_56 : v ≡ V3 → 55 + 1 < n
  inside_56 e = let k = long_v3 v n e h in omega arith

  pub inside_57 : v ≡ V3 → 57 < n
  inside_57 e = let k = long_v3 v n e h in omega arith

  pub inside_59 : v ≡ V3 → 59 < n
  inside_59 e = let k = long_v3 v n e h in omega arith

  pub inside_side : v ≡ V3 → 61 + 25 ≤ n
  inside_side e = let k = long_v3 v n e h in omega arith

-- a header that says that the machine has the sound chip has its bytes
chip_later : (v : Version) (b n : ℕ) → header_length v ≤ n → bit_at (after_v1 v b) 4 ≡ true → 55 ≤ n
chip_later V1 b n h e = let z : ◌≡◌ {A = ℕ} 0 1 = cc in omega arith
chip_later V2 b n h e = h
chip_later V3 b n h e = omega arith

pub chip_long : (v : Version) (m : Model) (s : List ℕ) (b : ℕ) (c : Bool) → Readable v m s → b ≡ after_v1 v (at s 37) → c ≡ chip_of m b → c ≡ true → 55 ≤ length s
chip_long v K48 s b c g p q e = chip_later v (at s 37) (length s) g.long (ap (λ (x : ℕ). bit_at x 4) (sym p) ∙ sym q ∙ e)
chip_long v K128 s b c g p q e = g.later refl

-- what a model or the chip asks for
module _ {A : Type 0} (x y : A) (n : ℕ) (e : x ≡ y) (f : x ≡ y → 55 ≤ n) where
  pub asked_inside : (place : ℕ) → place < 55 → place < n
  asked_inside place h = let k : 55 ≤ n = f e in omega arith

  pub inside_sound : 39 + 16 ≤ n
  inside_sound = let k : 55 ≤ n = f e in omega arith

pub pc_inside : (v : Version) (n p : ℕ) → header_length v ≤ n → p ≡ pc_at v → p + 1 < n
pc_inside V1 n p h e = omega arith
pc_inside V2 n p h e = omega arith
pc_inside V3 n p h e = omega arith

-- parts by version, model and chip
pub carry_128 : (m : Model) (b : ℕ) → m ≡ K128 → b ≡ carried m b
carry_128 m b e = rw e

pub chip_48 : (m : Model) (b : ℕ) → m ≡ K48 → bit_at b 4 ≡ chip_of m b
chip_48 m b e = rw e

pub byte_chip : (c : Bool) (b : ℕ) → c ≡ true → b ≡ chip_byte c b
byte_chip c b e = rw e

pub sound_chip : (c : Bool) (s r : List ℕ) → c ≡ true → r ≡ take 16 (drop 39 s) → r ≡ sound_of c s
sound_chip c s r e q = rw e q

pub after_2 : (v : Version) (b : ℕ) → v ≡ V2 → b ≡ after_v1 v b
after_2 v b e = rw e

pub after_3 : (v : Version) (b : ℕ) → v ≡ V3 → b ≡ after_v1 v b
after_3 v b e = rw e

pub position_3 : (v : Version) (m : Model) (s : List ℕ) (w r : ℕ) → v ≡ V3 → w ≡ word_at s 55 → r ≡ position_of m w (at s 57) → r ≡ frame_position v m s
position_3 v m s w r e p q = rw e (q ∙ ap (λ (x : ℕ). position_of m x (at s 57)) p)

pub side59_3 : (v : Version) (s : List ℕ) → v ≡ V3 → at s 59 ≡ side59_of v s
side59_3 v s e = rw e

pub side_3 : (v : Version) (s r : List ℕ) → v ≡ V3 → r ≡ take 25 (drop 61 s) → r ≡ side_of v s
side_3 v s r e q = rw e q

pub video_other : (n : ℕ) → (n ≡ 1 → ⊥) → (n ≡ 3 → ⊥) → Normal ≡ video_of n
video_other n a b = simp (ne_eqb n 1 a, ne_eqb n 3 b)

pub pairs_read : (v : Version) (s r : List ℕ) (w p : ℕ) → p ≡ pc_at v → w ≡ word_at s p → r ≡ pairs_before s w → r ≡ pairs_of v s
pairs_read v s r w p e q k = k ∙ ap (pairs_before s) (q ∙ ap (word_at s) e)
