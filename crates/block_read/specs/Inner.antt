-- Contracts of functions that only proved code calls: a reviewer may skip this file.
use Rattle.std.specs.Prelude.{ℕ, ◌+◌, ◌-◌, ◌≡◌, Bool, false, List, eqb, ltb, length, get_or, drop}
use Rattle.slices.specs.Choose.{choose}
use Rattle.slices.specs.Bytes.{word_at}
use Rattle.packed.specs.Unpacking.{answer_of, left_by}
use Rattle.packed.specs.declared.Unpacked.{Unpacked}
use Rattle.pages.specs.declared.Model.{Model}
use Rattle.numbers.specs.declared.FileFault.{FileFault}
use Rattle.numbers.specs.declared.Refusal.TheVariants.{BlockCut, BlockNumber, BlockTwice}
use Rattle.block_pages.specs.declared.Page.{Page}
use Rattle.block_pages.specs.declared.Page.TheVariants.{At, NoPage}
use Rattle.block_pages.specs.Numbered.{page_of}
use Rattle.block_read.specs.declared.BlockHead.{BlockHead}
use Rattle.block_read.specs.declared.BlockHead.TheVariants.{Bad, Data}
use Rattle.block_read.specs.Block.{refused, size_of, contents, block_of}

-- as `Unpacks` of `packed`, with plain data too
pub record Fills (plain : Bool) (body before after : List ℕ) (r : Unpacked) : Type 0 where
  pub answer : r ≡ answer_of (contents plain body) (length before)
  pub memory : after ≡ left_by (contents plain body) (length before)

-- 9, then 10, else where the data lie
abbrev pub head_on : Page → List Bool → ℕ → ℕ → Bool → BlockHead
head_on NoPage seen start end plain = Bad BlockNumber
head_on (At page) seen start end plain = choose (get_or seen page false) (Bad BlockTwice) (Data page start end plain)

-- the head at a place: 8 cut short, 8 its data cut short, 9, 10
unfoldable pub head_at : Model → List Bool → List ℕ → ℕ → BlockHead
head_at model seen file place =
    choose (ltb (length file - place) 3) (Bad BlockCut)
    (choose (ltb (length file - place - 3) (size_of (word_at file place))) (Bad BlockCut)
    (head_on (page_of model (get_or file (place + 2) 0)) seen (place + 3) (place + 3 + size_of (word_at file place)) (eqb (word_at file place) 65535)))

-- the block at a place is refused
pub record Refuses (model : Model) (seen : List Bool) (file : List ℕ) (at : ℕ) (fault : FileFault) : Type 0 where
  pub block : block_of model seen at (drop at file) ≡ refused fault
