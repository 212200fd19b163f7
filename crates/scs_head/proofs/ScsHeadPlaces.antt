-- The first bytes of a file are refused without a place.
use Prim.Native.Nat.{ℕ}
use mathlib.Core.Path.{◌≡◌, refl, subst}
use mathlib.Core.Bool.{false}
use mathlib.Core.List.{List}
use lib.ListN.{length, take}
use lib.Dec.{eqb, ltb}
use Rattle.slices.specs.Same.{same}
use Rattle.slices.specs.Bytes.{at}
use Rattle.slices.proofs.Chosen.{either}
use Rattle.pages.specs.declared.Model.{Model}
use Rattle.numbers.specs.declared.Refusal.{Refusal}
use Rattle.numbers.specs.Numbers.{refusal_number}
use Rattle.numbers.specs.Faults.{is_placed}
use Rattle.scs_blocks.specs.ScsIdentity.{sam_snap, hardware_of}
use Rattle.scs_head.specs.declared.ScsHead.{ScsHead}
use Rattle.scs_head.specs.declared.ScsHead.TheVariants.{Bad, Spectrum}
use Rattle.scs_head.specs.ScsHeads.{memory_first, scs_head_of}

abbrev NoneNamed : ScsHead → Type 0
NoneNamed (Bad why) = is_placed (refusal_number why) ≡ false
NoneNamed (Spectrum model) = Unit {0}

first_unplaced : (s : List ℕ) (model : Model) → NoneNamed (memory_first s model)
first_unplaced s model = either NoneNamed (eqb (at s 15) 3) _ _ (λ t. tt) (λ t. refl)

all_unplaced : (s : List ℕ) → NoneNamed (scs_head_of s)
unfolding scs_head_of
all_unplaced s =
    either NoneNamed (ltb (length s) 15) _ _ (λ t. refl)
    (λ t. either NoneNamed (same (take 8 s) sam_snap) _ _
    (λ u. either NoneNamed (eqb (at s 14) 1) _ _ (λ v. first_unplaced s _) (λ v. either NoneNamed (eqb (at s 14) 2) _ _ (λ w. first_unplaced s _) (λ w. refl)))
    (λ u. refl))

pub scs_head_unplaced : (s : List ℕ) (why : Refusal) → scs_head_of s ≡ Bad why → is_placed (refusal_number why) ≡ false
scs_head_unplaced s why e = subst NoneNamed e (all_unplaced s)
