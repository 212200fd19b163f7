-- The place of a fault that names one is not 0, and not behind the file's end; it names its block too.
use Prim.Native.Nat.{ℕ, zero, suc, ◌+◌, ◌-◌, ◌<◌, ◌≤◌}
use native.Mathlib.Omega.{arith}
use mathlib.Core.Path.{◌≡◌, refl, subst}
use mathlib.Core.Bool.{Bool}
use mathlib.Core.List.{List}
use borrow.Author.Tests.{ltb-false}
use lib.Dec.{eqb, ltb}
use lib.ListN.{length, get_or, take, drop, length-drop, length-take}
use Rattle.slices.specs.Bytes.{word_at}
use Rattle.slices.proofs.Chosen.{either}
use Rattle.packed.specs.Packed.{Found, malformed, bytes}
use Rattle.packed.specs.Unpacking.{length_counted}
use Rattle.pages.specs.declared.Model.{Model}
use Rattle.numbers.specs.declared.Refusal.TheVariants.{BlockCut}
use Rattle.numbers.specs.Faults.{fault_in}
use Rattle.numbers.proofs.FaultPlaces.{FaultIn, somewhere, nowhere, FaultFigures, in_a_block, of_a_length, with_figures_lem}
use Rattle.block_pages.specs.declared.Page.{Page}
use Rattle.block_pages.specs.declared.Page.TheVariants.{At, NoPage}
use Rattle.block_pages.specs.Numbered.{page_of, all_there, pages_seen, pages_due}
use Rattle.block_read.specs.Block.{Block, refused, brought, size_of, contents, ordinal, page_from, on_page, block_of}
use Rattle.blocks.specs.Blocks.{BodyResult, body_refused, body_read, after_block, finished, blocks, none_seen, blocks_into}
use Rattle.blocks.proofs.BlockSteps.{found_inside}
use Rattle.blocks.proofs.BlocksSoFar.{blocks_onward}

-- of a body of a file of so many bytes
abbrev pub BodyPlaced : ℕ → BodyResult → Type 0
BodyPlaced size (body_refused fault) = FaultIn fault size × FaultFigures fault
BodyPlaced size (body_read area) = Unit {0}

-- of a block at the front of s
abbrev BlockPlaced : ℕ → List ℕ → Block → Type 0
BlockPlaced size s (refused fault) = FaultIn fault size × FaultFigures fault
BlockPlaced size s (brought page xs rest) = length rest ≤ length s

module _ (place : ℕ) (s : List ℕ) (h : 0 < place) where
  size : ℕ
  size = place + length s

  data_placed : (block : ℕ) (d : Found) (page : ℕ) (rest : List ℕ) → 0 < block → ((i : ℕ) → d ≡ malformed i → 3 + i ≤ length s) → length rest ≤ length s
      → BlockPlaced size s (page_from block place d page rest)
  unfolding size
  data_placed block (malformed i) page rest b f l = (somewhere 11 (place + 3 + i) (place + length s) refl (λ e. omega arith) (omega arith) (omega (arith, f i refl)), in_a_block 11 block refl refl b)
  data_placed block (bytes xs) page rest b f l =
      either (BlockPlaced size s) (eqb (length xs) 16384) _ _ (λ t. l)
      (λ t. (somewhere 12 place (place + length s) refl (λ e. omega arith) h (omega arith), of_a_length block (length_counted (length xs)) 16384 b (omega arith)))

  page_placed : (p : Page) (seen : List Bool) (d : Found) (rest : List ℕ) → ((i : ℕ) → d ≡ malformed i → 3 + i ≤ length s) → length rest ≤ length s
      → BlockPlaced size s (on_page place p seen d rest)
  unfolding size
  page_placed NoPage seen d rest f l = (somewhere 9 place (place + length s) refl (λ e. omega arith) h (omega arith), in_a_block 9 (ordinal seen) refl refl (omega arith))
  page_placed (At page) seen d rest f l =
      either (BlockPlaced size s) (get_or seen page _) _ _ (λ t. (somewhere 10 place (place + length s) refl (λ e. omega arith) h (omega arith), in_a_block 10 (ordinal seen) refl refl (omega arith)))
      (λ t. data_placed (ordinal seen) d page rest (omega arith) f l)

  block_placed : (model : Model) (seen : List Bool) → BlockPlaced size s (block_of model seen place s)
  unfolding size block_of
  block_placed model seen =
      let n = size_of (word_at s 0) in
      let body = take n (drop 3 s) in
      let cut : BlockPlaced size s (refused (fault_in (ordinal seen) place BlockCut)) = (somewhere 8 place (place + length s) refl (λ e. omega arith) h (omega arith), in_a_block 8 (ordinal seen) refl refl (omega arith)) in
      either (BlockPlaced size s) (ltb (length s) 3) _ _ (λ t. cut)
      (λ t. either (BlockPlaced size s) (ltb (length s) (3 + n)) _ _ (λ u. cut)
      (λ u. page_placed (page_of model (get_or s 2 0)) seen (contents (eqb (word_at s 0) 65535) body) (drop (3 + n) s)
      (λ i e. omega (arith, found_inside (eqb (word_at s 0) 65535) body i e, length-take n (drop 3 s), length-drop 3 s, ltb-false (length s) (3 + n) u))
      (omega (arith, length-drop (3 + n) s))))

  after_placed : (x : Block) (f : ℕ → List ℕ → List ℕ → BodyResult) → BlockPlaced size s x
      → ((page : ℕ) (xs rest : List ℕ) → length rest ≤ length s → BodyPlaced size (f page xs rest)) → BodyPlaced size (after_block x f)
  after_placed (refused fault) f g k = g
  after_placed (brought page xs rest) f g k = k page xs rest g

finished_placed : (model : Model) (seen : List Bool) (area : List ℕ) (size : ℕ) → BodyPlaced size (finished model seen area)
finished_placed model seen area size = either (BodyPlaced size) (all_there model seen) _ _ (λ t. tt) (λ t. (nowhere 13 size refl, with_figures_lem 13 (pages_seen seen) (pages_due model) refl refl))

all_placed : (model : Model) (turns : ℕ) (seen : List Bool) (area : List ℕ) (place : ℕ) (s : List ℕ) → 0 < place → BodyPlaced (place + length s) (blocks model turns seen area place s)
unfolding blocks size
all_placed model zero seen area place s h = finished_placed model seen area (place + length s)
all_placed model (suc turns) seen area place s h =
    either (BodyPlaced (place + length s)) (eqb (length s) 0) _ _ (λ t. finished_placed model seen area (place + length s))
    (λ t. after_placed place s h (block_of model seen place s) (blocks_onward model turns seen area place s) (block_placed place s h model seen)
    (λ page xs rest l.
    let q = place + (length s - length rest) in
    let e : q + length rest ≡ place + length s = omega arith in
    subst (λ (n : ℕ). BodyPlaced n (blocks_onward model turns seen area place s page xs rest)) e (all_placed model turns _ _ q rest (omega arith))))

pub blocks_placed : (model : Model) (area : List ℕ) (place : ℕ) (s : List ℕ) → 0 < place → BodyPlaced (place + length s) (blocks_into model area place s)
unfolding blocks_into
blocks_placed model area place s h = all_placed model (length s) none_seen area place s h
