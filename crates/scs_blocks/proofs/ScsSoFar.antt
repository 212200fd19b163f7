-- The loop over the blocks: what is found from here on is what is found from the start on.
use Prim.Native.Nat.{ℕ, zero, suc, ◌+◌, ◌-◌, ◌<◌, ◌≤◌}
use native.Mathlib.Omega.{arith}
use mathlib.Core.Path.{◌≡◌, refl, sym, ap, ◌∙◌}
use mathlib.Core.Bool.{Bool, true, false}
use mathlib.Core.List.{List}
use lib.ListN.{length}
use lib.Dec.{eqb, ltb}
use borrow.Author.Tests.{lt-ltb, le-ltb, le-leb, lt-leb, eq-eqb, ne_eqb}
use Rattle.slices.specs.Choose.{choose}
use Rattle.slices.specs.Bytes.{at}
use Rattle.numbers.specs.declared.Refusal.TheVariants.{BlockCut, ScsBlockTwice}
use Rattle.numbers.specs.declared.FileFault.{FileFault}
use Rattle.numbers.specs.Faults.{fault_at}
use Rattle.scs_blocks.specs.declared.ScsPart.{ScsPart}
use Rattle.scs_blocks.specs.declared.ScsPart.TheVariants.{Stands}
use Rattle.scs_blocks.specs.declared.ScsSeen.{ScsSeen}
use Rattle.scs_blocks.specs.declared.ScsFound.{ScsFound}
use Rattle.scs_blocks.specs.declared.ScsFound.TheVariants.{Bad, Blocks}
use Rattle.scs_blocks.specs.ScsBlocks.{size_at, is_there, part_of, noted, nothing_seen, blocks_from, scs_blocks}

pub record ScsSoFar (file : List ℕ) (all : ScsFound) (seen : ScsSeen) (place : ℕ) : Type 0 where
  pub turns : ℕ
  pub enough : length file - place ≤ turns
  pub same : blocks_from file turns place seen ≡ all

pub scs_begin : (file : List ℕ) (from : ℕ) → ScsSoFar file (scs_blocks file from) nothing_seen from
unfolding scs_blocks
scs_begin file from = record { turns = length file; enough = omega arith; same = refl }

-- the block at a place, with so many turns left for those after it
abbrev pub block_from : List ℕ → ℕ → ℕ → ScsSeen → ScsFound
block_from s turns place seen =
    choose (eqb (at s place) 0) (Blocks seen)
    (choose (ltb (length s) (place + 5)) (Bad (fault_at place BlockCut))
    (choose (ltb (length s) (place + 5 + size_at s (place + 1))) (Bad (fault_at place BlockCut))
    (choose (is_there (part_of seen (at s place))) (Bad (fault_at place ScsBlockTwice))
    (blocks_from s turns (place + 5 + size_at s (place + 1)) (noted seen (at s place) (Stands (place + 5) (size_at s (place + 1))))))))

pub one_turn : (s : List ℕ) (turns place : ℕ) (seen : ScsSeen) → place < length s → blocks_from s (suc turns) place seen ≡ block_from s turns place seen
unfolding blocks_from
one_turn s turns place seen h = rw (lt-leb (length s) place h)

pub no_turn : (s : List ℕ) (turns place : ℕ) (seen : ScsSeen) → length s ≤ place → blocks_from s turns place seen ≡ Blocks seen
unfolding blocks_from
no_turn s zero place seen h = refl
no_turn s (suc turns) place seen h = rw (le-leb (length s) place h)

module _ (file : List ℕ) (all : ScsFound) (seen : ScsSeen) (place : ℕ) (g : ScsSoFar file all seen place) where
  pub found_all : length file ≤ place → Blocks seen ≡ all
  found_all h = sym (no_turn file g.turns place seen h) ∙ g.same

  module _ (h : place < length file) where
    block_to_come : (t : ℕ) × ((length file - place ≤ suc t) × (block_from file t place seen ≡ all))
    block_to_come = go g.turns g.enough g.same
      where
        go : (t : ℕ) → length file - place ≤ t → blocks_from file t place seen ≡ all → (t : ℕ) × ((length file - place ≤ suc t) × (block_from file t place seen ≡ all))
        go zero e q = absurd (omega arith)
        go (suc t) e q = (t, (e, sym (one_turn file t place seen h) ∙ q))

    pub found_end : at file place ≡ 0 → Blocks seen ≡ all
    found_end e = rw (eq-eqb (at file place) 0 e) at block_to_come.1.1

    module _ (n : at file place ≡ 0 → ⊥) where
      pub cut_head : (fault : FileFault) → length file - place < 5 → fault ≡ fault_at place BlockCut → Bad fault ≡ all
      cut_head fault l f = ap Bad f ∙ rw (ne_eqb (at file place) 0 n, lt-ltb (length file) (place + 5) (omega arith)) at block_to_come.1.1

      module _ (l : 5 ≤ length file - place) (size : ℕ) (e : size ≡ size_at file (place + 1)) where
        pub cut_data : (fault : FileFault) → length file - place - 5 < size → fault ≡ fault_at place BlockCut → Bad fault ≡ all
        cut_data fault k f =
            ap Bad f ∙ rw (ne_eqb (at file place) 0 n, le-ltb (length file) (place + 5) (omega arith), ← e, lt-ltb (length file) (place + 5 + size) (omega arith)) at block_to_come.1.1

        module _ (k : size ≤ length file - place - 5) (part : ScsPart) (p : part ≡ part_of seen (at file place)) (there : Bool) (t : there ≡ is_there part) where
          pub seen_twice : (fault : FileFault) → there ≡ true → fault ≡ fault_at place ScsBlockTwice → Bad fault ≡ all
          seen_twice fault q f =
              ap Bad f ∙ rw (ne_eqb (at file place) 0 n, le-ltb (length file) (place + 5) (omega arith), ← e, le-ltb (length file) (place + 5 + size) (omega arith), ← p, ← t, q) at block_to_come.1.1

          pub scs_more : (next : ScsSeen) → there ≡ false → next ≡ noted seen (at file place) (Stands (place + 5) size) → ScsSoFar file all next (place + 5 + size)
          scs_more next q d =
              record {
                turns = block_to_come.0;
                enough = omega (arith, block_to_come.1.0);
                same =
                    rw d
                    (rw (ne_eqb (at file place) 0 n, le-ltb (length file) (place + 5) (omega arith), ← e, le-ltb (length file) (place + 5 + size) (omega arith), ← p, ← t, q) at block_to_come.1.1);
              }
