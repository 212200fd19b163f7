-- The place of a fault among the blocks lies in the file.
use Prim.Native.Nat.{ℕ, zero, suc, ◌+◌, ◌<◌, ◌≤◌}
use native.Mathlib.Omega.{arith}
use mathlib.Core.Path.{◌≡◌, refl}
use mathlib.Core.List.{List}
use lib.ListN.{length}
use lib.Dec.{eqb, leb, ltb}
use borrow.Author.Tests.{leb-false}
use Rattle.slices.specs.Bytes.{at}
use Rattle.slices.proofs.Chosen.{either}
use Rattle.numbers.proofs.FaultPlaces.{FaultIn, somewhere}
use Rattle.scs_blocks.specs.declared.ScsSeen.{ScsSeen}
use Rattle.scs_blocks.specs.declared.ScsFound.{ScsFound}
use Rattle.scs_blocks.specs.declared.ScsFound.TheVariants.{Bad, Blocks}
use Rattle.scs_blocks.specs.ScsBlocks.{size_at, is_there, part_of, nothing_seen, blocks_from, scs_blocks}

abbrev pub FoundPlaced : List ℕ → ScsFound → Type 0
FoundPlaced s (Bad fault) = FaultIn fault (length s)
FoundPlaced s (Blocks seen) = Unit {0}

found_placed : (s : List ℕ) (turns place : ℕ) (seen : ScsSeen) → 0 < place → FoundPlaced s (blocks_from s turns place seen)
unfolding blocks_from
found_placed s zero place seen h = tt
found_placed s (suc turns) place seen h =
    either (FoundPlaced s) (leb (length s) place) _ _ (λ t. tt)
    (λ t.
    let l = leb-false (length s) place t in
    either (FoundPlaced s) (eqb (at s place) 0) _ _ (λ u. tt)
    (λ u. either (FoundPlaced s) (ltb (length s) (place + 5)) _ _ (λ v. somewhere 8 place (length s) refl (λ e. omega arith) h (omega arith))
    (λ v. either (FoundPlaced s) (ltb (length s) (place + 5 + size_at s (place + 1))) _ _ (λ w. somewhere 8 place (length s) refl (λ e. omega arith) h (omega arith))
    (λ w. either (FoundPlaced s) (is_there (part_of seen (at s place))) _ _ (λ x. somewhere 42 place (length s) refl (λ e. omega arith) h (omega arith))
    (λ x. found_placed s turns _ _ (omega arith))))))

pub blocks_found_placed : (s : List ℕ) (from : ℕ) → 0 < from → FoundPlaced s (scs_blocks s from)
unfolding scs_blocks
blocks_found_placed s from h = found_placed s (length s) from nothing_seen h
