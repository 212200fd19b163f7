-- A machine read off bytes is as the types of the code say.
use Prim.Native.Nat.{ℕ, zero, suc, ◌+◌, ◌*◌, ◌%◌, ◌≤◌, ◌<◌}
use mathlib.Core.Path.{◌≡◌, refl}
use mathlib.Core.Bool.{Bool, true, false}
use mathlib.Core.List.{List}
use native.Mathlib.Omega.{arith}
use lib.ListN.{length, get_or, length-take, length-drop}
use Rattle.slices.specs.Bytes.{at, word_at}
use Rattle.pages.specs.declared.Model.{Model}
use Rattle.pages.specs.declared.Model.TheVariants.{K48, K128}
use Rattle.spectrum.specs.declared.Attachment.{Attachment}
use Rattle.spectrum.specs.Valid.{Typed}
use Rattle.header.specs.declared.Version.{Version}
use Rattle.header.specs.declared.Version.TheVariants.{V1, V2, V3}
use Rattle.header.specs.Heads.{byte12_of, header_length}
use Rattle.header.specs.Inner.{Readable}
use Rattle.header_read.specs.Reading.{pc_at, pairs_before, carried, sound_of, side_of, machine_of}
use Rattle.header_read.proofs.ReadSteps.{chip_long}

module _ (s : List ℕ) (h : (i : ℕ) → get_or s i 0 < 256) where
  word_small : (i j : ℕ) → get_or s i 0 + 256 * get_or s j 0 < 65536
  word_small i j = omega (arith, h i, h j)

  words : (pc : ℕ) → pc < 65536 → (k : ℕ) → get_or (pairs_before s pc) k 0 < 65536
  unfolding pairs_before
  words pc b zero = word_small 1 0
  words pc b (suc zero) = word_small 2 3
  words pc b (suc (suc zero)) = word_small 13 14
  words pc b (suc (suc (suc zero))) = word_small 4 5
  words pc b (suc (suc (suc (suc zero)))) = word_small 22 21
  words pc b (suc (suc (suc (suc (suc zero))))) = word_small 15 16
  words pc b (suc (suc (suc (suc (suc (suc zero)))))) = word_small 17 18
  words pc b (suc (suc (suc (suc (suc (suc (suc zero))))))) = word_small 19 20
  words pc b (suc (suc (suc (suc (suc (suc (suc (suc zero)))))))) = word_small 25 26
  words pc b (suc (suc (suc (suc (suc (suc (suc (suc (suc zero))))))))) = word_small 23 24
  words pc b (suc (suc (suc (suc (suc (suc (suc (suc (suc (suc zero)))))))))) = word_small 8 9
  words pc b (suc (suc (suc (suc (suc (suc (suc (suc (suc (suc (suc zero))))))))))) = b
  words pc b (suc (suc (suc (suc (suc (suc (suc (suc (suc (suc (suc (suc k)))))))))))) = omega arith

  twelve : (pc : ℕ) → length (pairs_before s pc) ≡ 12
  unfolding pairs_before
  twelve pc = refl

  pc_small : (v : Version) → word_at s (pc_at v) < 65536
  pc_small V1 = word_small 6 7
  pc_small V2 = word_small 32 33
  pc_small V3 = word_small 32 33

  sixteen : (c : Bool) → (c ≡ true → 55 ≤ length s) → length (sound_of c s) ≡ 16
  sixteen true l = let q = l refl in simp (length-take, length-drop) (omega arith)
  sixteen false l = refl

  twenty_five : (v : Version) → header_length v ≤ length s → length (side_of v s) ≡ 25
  twenty_five V1 l = refl
  twenty_five V2 l = refl
  twenty_five V3 l = simp (length-take, length-drop) (omega arith)

  out_small : (k : Model) → carried k (at s 35) < 256
  out_small K48 = omega arith
  out_small K128 = h 35

  r_small : (b : ℕ) → at s 11 % 128 + 128 * (b % 2) < 256
  r_small b = omega arith

  pub machine_typed : (v : Version) (k : Model) (a : Attachment) → Readable v k s → Typed (machine_of v k a s)
  unfolding machine_of
  machine_typed v k a l =
      record {
        pairs = words (word_at s (pc_at v)) (pc_small v);
        count = twelve (word_at s (pc_at v));
        r8 = r_small (byte12_of s);
        out = out_small k;
        sound = sixteen _ (chip_long v k s _ _ l refl refl);
        side = twenty_five v l.long;
      }
