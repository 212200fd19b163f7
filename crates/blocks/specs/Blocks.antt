-- Document 01, "Packed data": "blocks to the end of the file, each a two-byte length, a page number, data".
use Rattle.std.specs.Prelude.{ℕ, zero, suc, ◌+◌, ◌-◌, ◌*◌, ◌≡◌, Bool, true, false, List, length, set, replicate, eqb}
use Rattle.slices.specs.Choose.{choose}
use Rattle.slices.specs.Put.{put}
use Rattle.slices.specs.Blank.{blank}
use Rattle.pages.specs.declared.Model.{Model}
use Rattle.numbers.specs.declared.FileFault.{FileFault}
use Rattle.numbers.specs.Faults.{missing}
use Rattle.block_pages.specs.Numbered.{all_there, pages_seen, pages_due}
use Rattle.block_read.specs.Block.{Block, refused, brought, block_of}
use Rattle.blocks.specs.declared.BodyAnswer.{BodyAnswer}
use Rattle.blocks.specs.declared.BodyAnswer.TheVariants.{Whole, Faulty}

-- what reading the body of a file comes to: a fault, or the whole area
pub data BodyResult : Type 0 where
  body_refused : FileFault → BodyResult
  body_read : List ℕ → BodyResult

-- what a body is read into: 131,072 zeros; or nothing, where the answer alone is asked
pub record ZerosLent (area : List ℕ) : Type 0 where
  pub zeros : length area ≡ 131072 → area ≡ blank 131072
  pub none : (length area ≡ 131072 → ⊥) → length area ≡ 0

-- what reading a body into n bytes answers, and leaves in an area of 131,072. "A refused read gives .. an area all zero"
abbrev pub ReadsBody : BodyResult → ℕ → BodyAnswer → List ℕ → Type 0
ReadsBody (body_refused fault) n r after = (r ≡ Faulty fault) × (n ≡ 131072 → after ≡ blank 131072)
ReadsBody (body_read area) n r after = (r ≡ Whole) × (n ≡ 131072 → after ≡ area)

abbrev pub after_block : Block → (ℕ → List ℕ → List ℕ → BodyResult) → BodyResult
after_block (refused fault) f = body_refused fault
after_block (brought page xs rest) f = f page xs rest

-- "last 13"
abbrev pub finished : Model → List Bool → List ℕ → BodyResult
finished model seen area = choose (all_there model seen) (body_read area) (body_refused (missing (pages_seen seen) (pages_due model)))

-- block after block from a place of the file, where s stands, to the end; a block has three bytes or more, so as many turns as bytes are
-- enough
unfoldable pub blocks : Model → ℕ → List Bool → List ℕ → ℕ → List ℕ → BodyResult
blocks model zero seen area place s = finished model seen area
blocks model (suc turns) seen area place s =
    choose (eqb (length s) 0)
    (finished model seen area)
    (after_block (block_of model seen place s)
    (λ page xs rest. blocks model turns (set seen page true) (put area (page * 16384) xs) (place + (length s - length rest)) rest))

abbrev pub none_seen : List Bool
none_seen = replicate 8 false

-- the blocks s, from a place of the file on, read into an area
unfoldable pub blocks_into : Model → List ℕ → ℕ → List ℕ → BodyResult
blocks_into model area place s = blocks model (length s) none_seen area place s
