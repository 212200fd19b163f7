-- Contracts of private functions, by the cases of their answers: a reviewer may skip this file.
use Rattle.std.specs.Prelude.{ℕ, ◌*◌, ◌<◌, ◌≤◌, ◌≡◌, Bool, List, length, drop}
use Rattle.slices.specs.Put.{put}
use Rattle.pages.specs.declared.Model.{Model}
use Rattle.packed.specs.Unpacking.{answer_of, left_by}
use Rattle.packed.specs.declared.Unpacked.{Unpacked}
use Rattle.block_read.specs.Block.{brought, contents, block_of}
use Rattle.block_read.specs.Inner.{Refuses}
use Rattle.blocks.specs.declared.BlockStep.{BlockStep}
use Rattle.blocks.specs.declared.BlockStep.TheVariants.{Failed, Next}

-- a block's data for a page of their own: the answer, and what is left in an area of 131,072 bytes
pub record FillsOwn (plain : Bool) (body : List ℕ) (page : ℕ) (before after : List ℕ) (r : Unpacked) : Type 0 where
  pub answer : r ≡ answer_of (contents plain body) 16384
  pub memory : length before ≡ 131072 → after ≡ put before (page * 16384) (left_by (contents plain body) 16384)

-- a block that was read: its bytes stand in their page, where there is an area
pub record Brings (model : Model) (seen : List Bool) (file : List ℕ) (at : ℕ) (before after : List ℕ) (page next : ℕ) : Type 0 where
  pub page_bytes : List ℕ
  pub block : block_of model seen at (drop at file) ≡ brought page page_bytes (drop next file)
  pub placed : length before ≡ 131072 → after ≡ put before (page * 16384) page_bytes
  pub page_small : page < 8
  pub further : at < next
  pub within : next ≤ length file

abbrev pub StepSays : Model → List Bool → List ℕ → ℕ → List ℕ → List ℕ → BlockStep → Type 0
StepSays model seen file at before after (Failed fault) = Refuses model seen file at fault
StepSays model seen file at before after (Next page next) = Brings model seen file at before after page next
