-- The place that reading an SCS file names with its number.
use Prim.Native.Nat.{ℕ}
use native.Mathlib.Omega.{arith}
use mathlib.Core.Path.{◌≡◌, refl}
use mathlib.Core.List.{List}
use lib.Dec.{eqb}
use lib.ListN.{length}
use Rattle.slices.proofs.Chosen.{either}
use Rattle.pages.specs.declared.Model.{Model}
use Rattle.numbers.specs.Numbers.{refusal_number}
use Rattle.numbers.proofs.FaultPlaces.{nowhere}
use Rattle.z80read.proofs.ReadPlaces.{ResultPlaced}
use Rattle.scs_blocks.specs.declared.ScsSeen.{ScsSeen}
use Rattle.scs_blocks.specs.declared.ScsFound.{ScsFound}
use Rattle.scs_blocks.specs.declared.ScsFound.TheVariants.{Bad, Blocks}
use Rattle.scs_blocks.specs.ScsBlocks.{three_seen, scs_blocks, data_of, zero_filled}
use Rattle.scs_blocks.proofs.ScsPlaces.{FoundPlaced, blocks_found_placed}
use Rattle.scs_machine.specs.ScsMachine.{scs_mode}
use Rattle.scs_head.specs.declared.ScsHead.{ScsHead}
use Rattle.scs_head.specs.declared.ScsHead.TheVariants.{Spectrum}
use Rattle.scs_head.specs.ScsHeads.{scs_head_of}
use Rattle.scs_head.proofs.ScsHeadPlaces.{scs_head_unplaced}
use Rattle.scs_read.specs.ScsReads.{after_seen, after_found, after_scs_head, scs_read_of}

seen_placed : (s : List ℕ) (n : ℕ) (model : Model) (seen : ScsSeen) → ResultPlaced s (after_seen seen model s n)
seen_placed s n model seen =
    either (ResultPlaced s) (three_seen seen) _ _
    (λ t. either (ResultPlaced s) (eqb (scs_mode (zero_filled 34 (data_of s seen.cpu))) 3) _ _ (λ u. nowhere 5 (length s) refl) (λ u. nowhere 0 (length s) refl))
    (λ t. nowhere 41 (length s) refl)

after_found_placed : (s : List ℕ) (n : ℕ) (model : Model) (found : ScsFound) → FoundPlaced s found → ResultPlaced s (after_found found model s n)
after_found_placed s n model (Bad fault) p = p
after_found_placed s n model (Blocks seen) p = seen_placed s n model seen

after_head_placed : (s : List ℕ) (n : ℕ) (head : ScsHead) → scs_head_of s ≡ head → ResultPlaced s (after_scs_head head s n)
after_head_placed s n (ScsHead.Bad why) e = nowhere (refusal_number why) (length s) (scs_head_unplaced s why e)
after_head_placed s n (Spectrum model) e = after_found_placed s n model (scs_blocks s 15) (blocks_found_placed s 15 (omega arith))

pub scs_read_place : (s : List ℕ) (n : ℕ) → ResultPlaced s (scs_read_of s n)
unfolding scs_read_of
scs_read_place s n = either (ResultPlaced s) (eqb n 131072) _ _ (λ t. after_head_placed s n (scs_head_of s) refl) (λ t. nowhere 1 (length s) refl)
