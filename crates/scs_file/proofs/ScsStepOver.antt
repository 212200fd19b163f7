-- The loop over the blocks, at a block that stands whole at a place: it is noted, and the loop goes on behind it.
use Prim.Native.Nat.{ℕ, ◌+◌, ◌-◌, ◌*◌, ◌/◌, ◌%◌, ◌<◌}
use native.Mathlib.Omega.{arith}
use mathlib.Core.Path.{◌≡◌, refl, sym, ap, ◌∙◌}
use mathlib.Core.Bool.{false}
use mathlib.Core.List.{List, ◌++◌}
use lib.ListN.{length, get_or, take, drop, length-append, length-drop}
use lib.Seq.{get_or-drop, drop-drop, take_at, drop_at}
use Rattle.slices.specs.Bytes.{at}
use Rattle.scs_blocks.specs.declared.ScsPart.TheVariants.{Stands}
use Rattle.scs_blocks.specs.declared.ScsSeen.{ScsSeen}
use Rattle.scs_blocks.specs.declared.ScsFound.{ScsFound}
use Rattle.scs_blocks.specs.ScsBlocks.{size_at, is_there, part_of, noted}
use Rattle.scs_blocks.proofs.ScsSoFar.{ScsSoFar, scs_more}
use Rattle.scs_write.specs.ScsWritten.{scs_block}

size_back : (n : ℕ) → n < 4294967296 → n % 256 + 256 * (n / 256 % 256) + 65536 * (n / 65536 % 256) + 16777216 * (n / 16777216 % 256) ≡ n
size_back n h =
    let y : n / 256 / 256 ≡ n / 65536 = omega arith in
    let z : n / 65536 / 256 ≡ n / 16777216 = omega arith in
    let a : n ≡ n % 256 + 256 * (n / 256) = omega arith in
    let b : n / 256 ≡ n / 256 % 256 + 256 * (n / 65536) = omega (arith, y) in
    let c : n / 65536 ≡ n / 65536 % 256 + 256 * (n / 16777216) = omega (arith, z) in
    let d : n / 16777216 % 256 ≡ n / 16777216 = omega arith in
    omega (arith, a, b, c, d)

module _ (s : List ℕ) (place number : ℕ) (xs rest : List ℕ) (e : drop place s ≡ scs_block number xs ++ rest) where
  -- a byte of the block's head
  block_byte : (j k : ℕ) → place + j ≡ k → at s k ≡ get_or (scs_block number xs ++ rest) j 0
  block_byte j k q = ap (λ (i : ℕ). at s i) (sym q) ∙ sym (get_or-drop place s j 0) ∙ ap (λ (l : List ℕ). get_or l j 0) e

  block_number_is : at s place ≡ number
  block_number_is = block_byte 0 place (omega arith)

  size_is : length xs < 4294967296 → length xs ≡ size_at s (place + 1)
  size_is h =
      sym (size_back (length xs) h)
      ∙ sym (λ i. block_byte 1 (place + 1) refl i + 256 * block_byte 2 (place + 1 + 1) (omega arith) i + 65536 * block_byte 3 (place + 1 + 2) (omega arith) i + 16777216 * block_byte 4 (place + 1 + 3) (omega arith) i)

  room_behind : 5 + length xs + length rest ≡ length s - place
  room_behind = sym (sym (length-drop place s) ∙ ap length e ∙ five) where
    five : length (scs_block number xs ++ rest) ≡ 5 + length xs + length rest
    five = omega (arith, length-append xs rest)

  behind : drop (place + 5) s ≡ xs ++ rest
  behind = sym (drop-drop 5 place s) ∙ ap (drop 5) e

  pub data_is : take (length xs) (drop (place + 5) s) ≡ xs
  data_is = ap (take (length xs)) behind ∙ take_at xs rest (length xs) refl

  pub rest_is : drop (place + 5 + length xs) s ≡ rest
  rest_is = sym (drop-drop (length xs) (place + 5) s) ∙ ap (drop (length xs)) behind ∙ drop_at xs rest (length xs) refl

  pub step_over : (all : ScsFound) (seen : ScsSeen) → ScsSoFar s all seen place → length xs < 4294967296 → (number ≡ 0 → ⊥) → is_there (part_of seen number) ≡ false
      → ScsSoFar s all (noted seen number (Stands (place + 5) (length xs))) (place + 5 + length xs)
  step_over all seen g h n t =
      scs_more s all seen place g (omega (arith, room_behind)) (λ z. n (sym block_number_is ∙ z)) (omega (arith, room_behind)) (length xs) (size_is h) (omega (arith, room_behind))
      (part_of seen number) (ap (part_of seen) (sym block_number_is)) (is_there (part_of seen number)) refl _ t
      (ap (λ (k : ℕ). noted seen k (Stands (place + 5) (length xs))) (sym block_number_is))
