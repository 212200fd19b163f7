-- The block at a place of the file, read into its page: each return of `read_block` and `fill_own`.
use Prim.Native.Nat.{ℕ, ◌+◌, ◌-◌, ◌*◌, ◌<◌, ◌≤◌}
use mathlib.Core.Path.{◌≡◌, refl, sym, ap, subst, ◌∙◌}
use mathlib.Core.Bool.{Bool, true, false}
use mathlib.Core.List.{List}
use native.Mathlib.Omega.{arith}
use lib.Dec.{eqb}
use lib.ListN.{length, take, drop, length-drop, length-take, length-replicate}
use lib.Seq.{drop-drop}
use borrow.Author.Tests.{eqb-true}
use borrow.Rule.Slice.PartMut.{put_mid}
use Rattle.slices.specs.Put.{put}
use Rattle.slices.proofs.Chosen.{either}
use Rattle.packed.specs.Packed.{Found, malformed, bytes}
use Rattle.packed.proofs.Enough.{bad_inside}
use Rattle.packed.specs.Unpacking.{Unpacks, answer_of, left_by}
use Rattle.packed.specs.declared.Unpacked.{Unpacked}
use Rattle.packed.specs.declared.Unpacked.TheVariants.{Good, WrongLength, Malformed}
use Rattle.pages.specs.declared.Model.{Model}
use Rattle.numbers.specs.declared.Refusal.{Refusal}
use Rattle.numbers.specs.declared.Refusal.TheVariants.{MalformedData}
use Rattle.numbers.specs.declared.FileFault.{FileFault}
use Rattle.numbers.specs.Faults.{fault_in, length_fault, missing}
use Rattle.block_pages.specs.Numbered.{pages_seen, pages_due}
use Rattle.block_read.specs.declared.BlockHead.{BlockHead}
use Rattle.block_read.specs.declared.BlockHead.TheVariants.{Bad, Data}
use Rattle.block_read.specs.Block.{refused, contents, ordinal}
use Rattle.block_read.proofs.Answers.{good_is, malformed_is, wrong_is}
use Rattle.block_read.specs.Inner.{Fills, head_at}
use Rattle.block_read.proofs.BlockHeads.{BlockAt, HeadSays, head_says}
use Rattle.blocks.specs.declared.BlockStep.{BlockStep}
use Rattle.blocks.specs.declared.BlockStep.TheVariants.{Failed}
use Rattle.blocks.specs.Inner.{FillsOwn, Brings, StepSays}

pub found_inside : (plain : Bool) (body : List ℕ) (i : ℕ) → contents plain body ≡ malformed i → i < length body
found_inside true body i e = let z : ◌≡◌ {A = ℕ} 0 1 = cc in absurd (omega arith)
found_inside false body i e = bad_inside body i e

page_part_long : (before : List ℕ) (page : ℕ) → page < 8 → length before ≡ 131072 → length (take (page * 16384 + 16384 - page * 16384) (drop (page * 16384) before)) ≡ 16384
page_part_long before page h l = simp (length-take, length-drop) (omega arith)

left_long : (u : Found) → length (left_by u 16384) ≡ 16384
left_long (malformed i) = length-replicate {A = ℕ} 16384 0
left_long (bytes xs) = either (λ (l : List ℕ). length l ≡ 16384) (eqb (length xs) 16384) _ _ (λ e. eqb-true (length xs) 16384 e) (λ e. length-replicate {A = ℕ} 16384 0)

module _ (plain : Bool) (body : List ℕ) (page : ℕ) (before : List ℕ) (r : Unpacked) where
  pub fills_own : (part : List ℕ) → page < 8 → length before ≡ 131072 → Fills plain body (take (page * 16384 + 16384 - page * 16384) (drop (page * 16384) before)) part r
      → FillsOwn plain body page before (put_mid (page * 16384) (page * 16384 + 16384 - page * 16384) before part) r
  unfolding put
  fills_own part h l f =
      let n = page_part_long before page h l in
      let d : page * 16384 + 16384 - page * 16384 ≡ 16384 = omega arith in
      let m : part ≡ left_by (contents plain body) 16384 = f.memory ∙ ap (left_by (contents plain body)) n in
      record {
        answer = f.answer ∙ ap (answer_of (contents plain body)) n;
        memory = λ _. rw (d, m, left_long (contents plain body), drop-drop 16384 (page * 16384) before);
      }

  pub fills_none : (length before ≡ 131072 → ⊥) → r ≡ answer_of (contents plain body) 16384 → FillsOwn plain body page before before r
  fills_none h e = record { answer = e; memory = λ l. absurd (h l) }

pub head_refuses : (k : Model) (seen : List Bool) (file : List ℕ) (at : ℕ) (before after : List ℕ) (h : BlockHead) (n : Refusal) (step : BlockStep) → at < length file
    → h ≡ head_at k seen file at → h ≡ Bad n → step ≡ Failed (fault_in (ordinal seen) at n) → StepSays k seen file at before after step
head_refuses k seen file at before after h n step l s e q = rw q (subst (HeadSays k seen file at) e (head_says k seen file at h l s))

module _ (k : Model) (seen : List Bool) (file : List ℕ) (at : ℕ) (head : BlockHead) (page start end : ℕ) (plain : Bool) (inside : at < length file)
    (hs : head ≡ head_at k seen file at) (hd : head ≡ Data page start end plain) where
  head_holds : BlockAt k seen file at page start end plain
  head_holds = subst (HeadSays k seen file at) hd (head_says k seen file at head inside hs)

  pub page_below : page < 8
  page_below = head_holds.page_small

  pub data_ordered : start ≤ end
  data_ordered = head_holds.ordered

  pub data_within : end ≤ length file
  data_within = head_holds.within

  -- the data, and what they stand for
  body : List ℕ
  body = take (end - start) (drop start file)

  module _ (before after : List ℕ) (r : Unpacked) (f : FillsOwn plain (take (end - start) (drop start file)) page before after r) where
    data_fills : Unpacks (contents plain body) 16384 r (left_by (contents plain body) 16384)
    unfolding body
    data_fills = record { answer = f.answer; memory = refl }

    pub brings : r ≡ Good → Brings k seen file at before after page end
    unfolding body
    brings e =
        let w = good_is _ _ 16384 r _ data_fills refl e in
        record {
          page_bytes = left_by (contents plain body) 16384;
          block = head_holds.block ∙ rw (w.0, w.1);
          placed = f.memory;
          page_small = head_holds.page_small;
          further = omega (arith, head_holds);
          within = head_holds.within;
        }

    -- a bad code is among the data
    pub bad_code_within : (i : ℕ) → r ≡ Malformed i → start + i < length file
    unfolding body
    bad_code_within i e =
        let h = found_inside plain _ i (malformed_is _ _ 16384 r _ data_fills refl i e) in
        omega (arith, head_holds, length-take (end - start) (drop start file))

    pub malformed_block : (i : ℕ) (step : BlockStep) → r ≡ Malformed i → step ≡ Failed (fault_in (ordinal seen) (start + i) MalformedData) → StepSays k seen file at before after step
    unfolding body
    malformed_block i step e q =
        rw q
        (record {
          block =
              head_holds.block ∙ rw (malformed_is _ _ 16384 r _ data_fills refl i e)
              (ap (λ (j : ℕ). refused (fault_in (ordinal seen) (j + i) MalformedData)) (sym head_holds.behind));
        })

    pub wrong_block : (n : ℕ) (step : BlockStep) → r ≡ WrongLength n → step ≡ Failed (length_fault (ordinal seen) at n 16384) → StepSays k seen file at before after step
    unfolding body
    wrong_block n step e q =
        let w = wrong_is _ _ 16384 r _ data_fills refl n e in
        rw q (record { block = head_holds.block ∙ rw (w.1.0, w.1.1.0) (ap (λ (m : ℕ). refused (length_fault (ordinal seen) at m 16384)) (sym w.1.1.1)) })

-- the faults that are made from what was seen
pub fault_missing : (model : Model) (seen : List Bool) (good due : ℕ) (r : FileFault) → good ≡ pages_seen seen → due ≡ pages_due model → r ≡ missing good due → r ≡ missing (pages_seen seen) (pages_due model)
fault_missing model seen good due r a b q = q ∙ rw (a, b)

pub step_failed : (why : Refusal) (place : ℕ) (seen : List Bool) (n : ℕ) (fault : FileFault) → n ≡ ordinal seen → fault ≡ fault_in n place why → Failed fault ≡ Failed (fault_in (ordinal seen) place why)
step_failed why place seen n fault a q = ap Failed (q ∙ ap (λ (m : ℕ). fault_in m place why) a)

pub step_length : (place : ℕ) (seen : List Bool) (found n : ℕ) (fault : FileFault) → n ≡ ordinal seen → fault ≡ length_fault n place found 16384
    → Failed fault ≡ Failed (length_fault (ordinal seen) place found 16384)
step_length place seen found n fault a q = ap Failed (q ∙ ap (λ (m : ℕ). length_fault m place found 16384) a)
