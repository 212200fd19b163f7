-- The loop over the blocks: what is left of the file, read on from here, comes to what the whole comes to.
use Prim.Native.Nat.{ℕ, zero, suc, ◌+◌, ◌-◌, ◌*◌, ◌<◌, ◌≤◌}
use mathlib.Core.Path.{◌≡◌, refl, sym, ap, subst, ◌∙◌}
use mathlib.Core.Bool.{Bool, true, false}
use mathlib.Core.List.{List}
use native.Mathlib.Omega.{arith}
use lib.ListN.{length, set, drop, replicate, length-drop}
use borrow.Author.Tests.{eq-eqb, ne_eqb}
use Rattle.slices.specs.Choose.{choose}
use Rattle.slices.specs.Put.{put}
use Rattle.slices.specs.Blank.{blank}
use Rattle.pages.specs.declared.Model.{Model}
use Rattle.numbers.specs.declared.FileFault.{FileFault}
use Rattle.numbers.specs.Faults.{missing}
use Rattle.blocks.specs.declared.BodyAnswer.{BodyAnswer}
use Rattle.blocks.specs.declared.BodyAnswer.TheVariants.{Whole}
use Rattle.blocks.specs.declared.BlockStep.{BlockStep}
use Rattle.blocks.specs.declared.BlockStep.TheVariants.{Failed, Next}
use Rattle.block_read.specs.Block.{Block, block_of}
use Rattle.blocks.specs.Blocks.{BodyResult, body_refused, body_read, ZerosLent, ReadsBody, after_block, finished, blocks, none_seen, blocks_into}
use Rattle.block_pages.specs.Numbered.{all_there, pages_seen, pages_due}
use Rattle.block_read.specs.Inner.{Refuses}
use Rattle.blocks.specs.Inner.{Brings, StepSays}

-- the pages read so far are laid over zeros; an area of n bytes is that, where n is 131,072
pub record BlocksSoFar (model : Model) (file : List ℕ) (all : BodyResult) (n : ℕ) (area : List ℕ) (seen : List Bool) (at : ℕ) : Type 0 where
  pub turns : ℕ
  pub enough : length file - at ≤ turns
  pub laid : List ℕ
  pub same : blocks model turns seen laid at (drop at file) ≡ all
  pub long : length area ≡ n
  pub real : n ≡ 131072 → area ≡ laid

pub blocks_begin : (model : Model) (file : List ℕ) (area : List ℕ) (from : ℕ) → ZerosLent area
    → BlocksSoFar model file (blocks_into model (blank 131072) from (drop from file)) (length area) area none_seen from
unfolding blocks_into
blocks_begin model file area from l =
    record { turns = length (drop from file); enough = omega (arith, length-drop from file); laid = blank 131072; same = refl; long = refl; real = l.zeros }

-- what follows a block
abbrev pub blocks_onward : Model → ℕ → List Bool → List ℕ → ℕ → List ℕ → ℕ → List ℕ → List ℕ → BodyResult
blocks_onward model turns seen area place s page xs rest = blocks model turns (set seen page true) (put area (page * 16384) xs) (place + (length s - length rest)) rest

-- one turn of the definition, where there is a byte left
pub turn : (model : Model) (turns : ℕ) (seen : List Bool) (area : List ℕ) (place : ℕ) (s : List ℕ) → 0 < length s
    → blocks model (suc turns) seen area place s ≡ after_block (block_of model seen place s) (blocks_onward model turns seen area place s)
unfolding blocks
turn model turns seen area place s h = rw (ne_eqb (length s) 0 (λ e. omega arith))

-- the end
pub ended : (model : Model) (turns : ℕ) (seen : List Bool) (area : List ℕ) (place : ℕ) (s : List ℕ) → length s ≡ 0
    → blocks model turns seen area place s ≡ finished model seen area
unfolding blocks
ended model zero seen area place s h = refl
ended model (suc turns) seen area place s h = rw (eq-eqb (length s) 0 h)

-- a step that brought a page
module _ (model : Model) (file area after : List ℕ) (seen : List Bool) (at : ℕ) (step : BlockStep) (page next : ℕ) (s : StepSays model seen file at area after step) (e : step ≡ Next page next) where
  step_brings : Brings model seen file at area after page next
  step_brings = subst (StepSays model seen file at area after) e s

  pub next_page : page < 8
  next_page = step_brings.page_small

  pub next_falls : at < length file → length file - next < length file - at
  next_falls h = let b = step_brings in omega arith

module _ (model : Model) (file : List ℕ) (all : BodyResult) (n : ℕ) (area : List ℕ) (seen : List Bool) (at : ℕ) (g : BlocksSoFar model file all n area seen at) where
  -- with a byte left there is a turn left
  block_ahead : at < length file
      → (t : ℕ) × ((length file - at ≤ suc t) × (after_block (block_of model seen at (drop at file)) (blocks_onward model t seen g.laid at (drop at file)) ≡ all))
  block_ahead h = go g.turns g.enough g.same
    where
      go : (t : ℕ) → length file - at ≤ t → blocks model t seen g.laid at (drop at file) ≡ all
          → (t : ℕ) × ((length file - at ≤ suc t) × (after_block (block_of model seen at (drop at file)) (blocks_onward model t seen g.laid at (drop at file)) ≡ all))
      go zero e q = absurd (omega arith)
      go (suc t) e q = (t, (e, sym (turn model t seen g.laid at (drop at file) (omega (arith, length-drop at file))) ∙ q))

  pub blocks_more : (after : List ℕ) (step : BlockStep) (page next : ℕ) → at < length file → length after ≡ length area → StepSays model seen file at area after step
      → step ≡ Next page next → BlocksSoFar model file all n after (set seen page true) next
  blocks_more after step page next h k s e =
      let b = step_brings model file area after seen at step page next s e in
      let r = block_ahead h in
      let q : next ≡ at + (length (drop at file) - length (drop next file)) = omega (arith, b.further, b.within, length-drop at file, length-drop next file) in
      record {
        turns = r.0;
        enough = omega (arith, r.1.0, b.further);
        laid = put g.laid (page * 16384) b.page_bytes;
        same =
            ap (λ (n : ℕ). blocks model r.0 (set seen page true) (put g.laid (page * 16384) b.page_bytes) n (drop next file)) q
            ∙ sym (ap (λ (x : Block). after_block x (blocks_onward model r.0 seen g.laid at (drop at file))) b.block)
            ∙ r.1.1;
        long = k ∙ g.long;
        real = λ l. b.placed (g.long ∙ l) ∙ ap (λ (a : List ℕ). put a (page * 16384) b.page_bytes) (g.real l);
      }

  pub going_stop : (after clear : List ℕ) (step : BlockStep) (fault : FileFault) (r : BodyAnswer) → at < length file → length after ≡ length area
      → StepSays model seen file at area after step → step ≡ Failed fault → ReadsBody (body_refused fault) (length after) r clear → ReadsBody all n r clear
  going_stop after clear step fault r h k s e t =
      let b : Refuses model seen file at fault = subst (StepSays model seen file at area after) e s in
      let o = block_ahead h in
      let q : body_refused fault ≡ all = sym (ap (λ (x : Block). after_block x (blocks_onward model o.0 seen g.laid at (drop at file))) b.block) ∙ o.1.1 in
      subst (λ (x : BodyResult). ReadsBody x n r clear) q (t.0, λ l. t.1 (k ∙ g.long ∙ l))

  no_more : FileFault
  no_more = missing (pages_seen seen) (pages_due model)

  at_end : length file ≤ at → (b : Bool) → b ≡ all_there model seen → choose b (body_read g.laid) (body_refused no_more) ≡ all
  unfolding no_more
  at_end h b e = ap (λ (x : Bool). choose x (body_read g.laid) (body_refused no_more)) e ∙ sym (ended model g.turns seen g.laid at (drop at file) (length-drop at file ∙ omega arith)) ∙ g.same

  pub going_all : (b : Bool) → length file ≤ at → b ≡ all_there model seen → b ≡ true → ReadsBody all n Whole area
  going_all b h e t = subst (λ (x : BodyResult). ReadsBody x n Whole area) (rw t at (at_end h b e)) (refl, g.real)

  pub going_missing : (b : Bool) (clear : List ℕ) (fault : FileFault) (r : BodyAnswer) → length file ≤ at → b ≡ all_there model seen → b ≡ false
      → fault ≡ missing (pages_seen seen) (pages_due model) → ReadsBody (body_refused fault) (length area) r clear → ReadsBody all n r clear
  unfolding no_more
  going_missing b clear fault r h e t f q =
      subst (λ (x : BodyResult). ReadsBody x n r clear) (ap body_refused f ∙ rw t at (at_end h b e)) (q.0, λ l. q.1 (g.long ∙ l))

-- the whole area filled with zeros
pub area_cleared : (before after : List ℕ) → after ≡ replicate (length before) 0 → length before ≡ 131072 → after ≡ blank 131072
unfolding blank
area_cleared before after e l = e ∙ ap (λ (n : ℕ). replicate n 0) l
