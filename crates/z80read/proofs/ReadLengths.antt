-- How long a file that is read is at most.
use Prim.Native.Nat.{ℕ, ◌+◌, ◌<◌, ◌≤◌}
use native.Mathlib.Omega.{arith}
use mathlib.Core.Path.{◌≡◌, refl}
use mathlib.Core.List.{List}
use lib.Dec.{eqb}
use lib.ListN.{length, get_or, drop, length-drop}
use lib.Seq.{get_or-drop}
use Rattle.slices.specs.Blank.{blank}
use Rattle.slices.proofs.Chosen.{either}
use Rattle.spectrum.specs.declared.Machine.{Machine}
use Rattle.pages.specs.declared.Model.{Model}
use Rattle.numbers.specs.Numbers.{accepted}
use Rattle.header.specs.declared.Version.{Version}
use Rattle.header.specs.declared.Version.TheVariants.{V1, V2, V3}
use Rattle.header.specs.declared.Head.{Head}
use Rattle.header.specs.declared.Head.TheVariants.{Header}
use Rattle.slices.specs.Bytes.{bit_at}
use Rattle.header.specs.Heads.{byte12_of, head_of}
use Rattle.header_read.specs.Reading.{machine_of}
use Rattle.blocks.specs.Blocks.{BodyResult, body_refused, body_read, blocks_into}
use Rattle.blocks.proofs.BlocksLengths.{blocks_most}
use Rattle.body_v1.proofs.BodyLengths.{body_most}
use Rattle.z80read.specs.Read.{memory_into, ReadResult, after_body, after_head, read_of}

module _ (s : List ℕ) (n : ℕ) (w : (i : ℕ) → get_or s i 0 < 256) where
  blocks_after : (k : ℕ) (model : Model) (area a : List ℕ) → k ≤ 86 → blocks_into model area k (drop k s) ≡ body_read a → length s ≤ 524382
  blocks_after k model area a h e = omega (arith, blocks_most model area k (drop k s) a (λ i. rw (get_or-drop k s i 0) (w (k + i))) e, length-drop k s)

  memory_most : (v : Version) (model : Model) (area a : List ℕ) → memory_into v model area s ≡ body_read a → length s ≤ 524382
  memory_most V1 model area a e = omega (arith, body_most (bit_at (byte12_of s) 32) area 30 (drop 30 s) a e, length-drop 30 s)
  memory_most V2 model area a e = blocks_after 55 model area a (omega arith) e
  memory_most V3 model area a e = blocks_after 86 model area a (omega arith) e

  result_most : (x : BodyResult) (m : Machine) → ((a : List ℕ) → x ≡ body_read a → length s ≤ 524382) → (after_body x m n).answer ≡ accepted → length s ≤ 524382
  result_most (body_refused fault) m f e = let z : ◌≡◌ {A = ℕ} 0 1 = cc in absurd (omega arith)
  result_most (body_read a) m f e = f a refl

  head_most : (h : Head) → (after_head h s n).answer ≡ accepted → length s ≤ 524382
  head_most (Head.Refused why) e = let z : ◌≡◌ {A = ℕ} 0 1 = cc in absurd (omega arith)
  head_most (Header v model a) e = result_most (memory_into v model (blank 131072) s) (machine_of v model a s) (memory_most v model (blank 131072)) e

-- the header of v3 and the blocks; v2 and v1 are shorter
pub read_most : (s : List ℕ) (n : ℕ) → ((i : ℕ) → get_or s i 0 < 256) → (read_of s n).answer ≡ accepted → length s ≤ 524382
unfolding read_of
read_most s n w e =
    either (λ (o : ReadResult). o.answer ≡ accepted → length s ≤ 524382) (eqb n 131072) _ _ (λ t. head_most s n w (head_of s))
    (λ t q. let z : ◌≡◌ {A = ℕ} 0 1 = cc in absurd (omega arith)) e
