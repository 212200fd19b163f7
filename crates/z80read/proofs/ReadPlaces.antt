-- The place that reading names with its number.
use Prim.Native.Nat.{ℕ, ◌+◌, ◌≤◌}
use native.Mathlib.Omega.{arith}
use mathlib.Core.Path.{◌≡◌, refl, subst}
use mathlib.Core.List.{List}
use lib.Dec.{eqb}
use lib.ListN.{length, drop, length-drop}
use Rattle.slices.specs.Bytes.{bit_at}
use Rattle.slices.specs.Blank.{blank}
use Rattle.slices.proofs.Chosen.{either}
use Rattle.spectrum.specs.declared.Machine.{Machine}
use Rattle.pages.specs.declared.Model.{Model}
use Rattle.numbers.specs.Numbers.{number_of}
use Rattle.numbers.specs.Faults.{NamedPlace}
use Rattle.numbers.proofs.FaultPlaces.{nowhere}
use Rattle.header.specs.declared.Version.{Version}
use Rattle.header.specs.declared.Version.TheVariants.{V1, V2, V3}
use Rattle.header.specs.declared.Head.{Head}
use Rattle.header.specs.declared.Head.TheVariants.{Header}
use Rattle.header.specs.Heads.{byte12_of, header_length, head_of}
use Rattle.header.proofs.AcceptedHeads.{opens, head_unplaced}
use Rattle.header_read.specs.Reading.{machine_of}
use Rattle.blocks.specs.Blocks.{BodyResult, body_refused, body_read}
use Rattle.blocks.proofs.BlockPlaces.{BodyPlaced, blocks_placed}
use Rattle.body_v1.proofs.BodyPlaces.{v1_placed}
use Rattle.z80read.specs.Read.{memory_into, ReadResult, after_body, after_head, read_of}

-- of a file s
abbrev pub ResultPlaced : List ℕ → ReadResult → Type 0
ResultPlaced s o = NamedPlace (number_of o.answer) o.place (length s)

-- what stands behind a header of k bytes ends where the file does
from_header : (s : List ℕ) (k : ℕ) (x : BodyResult) → k ≤ length s → BodyPlaced (k + length (drop k s)) x → BodyPlaced (length s) x
from_header s k x h p = let e : k + length (drop k s) ≡ length s = omega (arith, length-drop k s) in subst (λ (n : ℕ). BodyPlaced n x) e p

pub memory_placed : (v : Version) (model : Model) (area s : List ℕ) → header_length v ≤ length s → BodyPlaced (length s) (memory_into v model area s)
memory_placed V1 model area s h = from_header s 30 (memory_into V1 model area s) h (v1_placed (bit_at (byte12_of s) 32) area 30 (drop 30 s) (omega arith))
memory_placed V2 model area s h = from_header s 55 (memory_into V2 model area s) h (blocks_placed model area 55 (drop 55 s) (omega arith))
memory_placed V3 model area s h = from_header s 86 (memory_into V3 model area s) h (blocks_placed model area 86 (drop 86 s) (omega arith))

after_body_lem : (s : List ℕ) (x : BodyResult) (m : Machine) (n : ℕ) → BodyPlaced (length s) x → ResultPlaced s (after_body x m n)
after_body_lem s (body_refused fault) m n p = p.0
after_body_lem s (body_read area) m n p = nowhere 0 (length s) refl

after_head_lem : (s : List ℕ) (n : ℕ) (x : Head) → head_of s ≡ x → ResultPlaced s (after_head x s n)
after_head_lem s n (Head.Refused fault) e = (head_unplaced s fault e).0
after_head_lem s n (Header v model a) e =
    after_body_lem s (memory_into v model (blank 131072) s) (machine_of v model a s) n (memory_placed v model (blank 131072) s (opens s (head_of s) v model a refl e).readable.long)

pub read_place : (s : List ℕ) (n : ℕ) → ResultPlaced s (read_of s n)
unfolding read_of
read_place s n = either (ResultPlaced s) (eqb n 131072) _ _ (λ t. after_head_lem s n (head_of s) refl) (λ t. nowhere 1 (length s) refl)
