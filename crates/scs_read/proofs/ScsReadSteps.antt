-- A file read, at each return of the code.
use Prim.Native.Nat.{ℕ}
use mathlib.Core.Path.{◌≡◌, sym, ap, subst, ◌∙◌}
use mathlib.Core.Bool.{true}
use mathlib.Core.List.{List}
use lib.ListN.{length}
use lib.Dec.{eqb}
use borrow.Author.Tests.{eq-eqb, ne_eqb, eqb-false}
use Rattle.slices.proofs.Chosen.{either}
use Rattle.pages.specs.declared.Model.{Model}
use Rattle.numbers.specs.declared.Refusal.{Refusal}
use Rattle.numbers.specs.declared.FileFault.{FileFault}
use Rattle.numbers.specs.Faults.{unplaced}
use Rattle.numbers.specs.declared.Refusal.TheVariants.{AreaLength}
use Rattle.numbers.specs.Numbers.{accepted}
use Rattle.numbers.proofs.Numbers.{refused_not}
use Rattle.spectrum.specs.Valid.{valid_of}
use Rattle.z80read.specs.declared.Opened.{Opened}
use Rattle.z80read.specs.Read.{ReadResult, refused_read, ReadLeaves, Reads}
use Rattle.scs_blocks.specs.declared.ScsSeen.{ScsSeen}
use Rattle.scs_blocks.specs.declared.ScsFound.{ScsFound}
use Rattle.scs_blocks.specs.declared.ScsFound.TheVariants.{Bad, Blocks}
use Rattle.scs_blocks.specs.ScsBlocks.{three_seen, scs_blocks, data_of, zero_filled}
use Rattle.scs_machine.specs.ScsMachine.{scs_mode}
use Rattle.scs_machine.proofs.ScsValid.{scs_valid}
use Rattle.scs_head.specs.declared.ScsHead.{ScsHead}
use Rattle.scs_head.specs.declared.ScsHead.TheVariants.{Spectrum}
use Rattle.scs_head.specs.ScsHeads.{scs_head_of}
use Rattle.scs_read.specs.ScsReads.{after_seen, after_found, after_scs_head, scs_read_of}

-- a refusal is not accepted, so nothing is said of its machine
refused_reads : (o : ReadResult) (fault : FileFault) (n : ℕ) (r : Opened) (area : List ℕ) → refused_read fault n ≡ o → ReadLeaves (refused_read fault n) r area → Reads o r area
refused_reads o fault n r area e l = subst (λ (x : ReadResult). Reads x r area) e (record { leaves = l; valid = λ a. absurd (refused_not fault.why (sym l.answer ∙ a)) })

-- what is loaded is valid where it is accepted
loaded_valid : (seen : ScsSeen) (model : Model) (s : List ℕ) (n : ℕ) → (after_seen seen model s n).answer ≡ accepted → valid_of (after_seen seen model s n).machine ≡ true
loaded_valid seen model s n =
    let cpu = zero_filled 34 (data_of s seen.cpu) in
    let P : ReadResult → Type 0 = λ o. o.answer ≡ accepted → valid_of o.machine ≡ true in
    either P (three_seen seen) _ _
    (λ t. either P (eqb (scs_mode cpu) 3) _ _ (λ e a. absurd (refused_not _ a)) (λ e a. scs_valid model cpu (zero_filled 19 (data_of s seen.ports)) (eqb-false _ _ e)))
    (λ t a. absurd (refused_not _ a))

module _ (s area : List ℕ) (r : Opened) (after : List ℕ) where
  pub scs_length : (fault : FileFault) → (length area ≡ 131072 → ⊥) → fault ≡ unplaced AreaLength → ReadLeaves (refused_read fault (length area)) r after → Reads (scs_read_of s (length area)) r after
  unfolding scs_read_of
  scs_length fault h f l = refused_reads _ fault (length area) r after (rw (ne_eqb (length area) 131072 h, f)) l

  module _ (h : length area ≡ 131072) (head : ScsHead) (eh : head ≡ scs_head_of s) where
    scs_after_head : after_scs_head head s (length area) ≡ scs_read_of s (length area)
    unfolding scs_read_of
    scs_after_head = rw (eq-eqb (length area) 131072 h, ← eh)

    pub scs_head_refused : (why : Refusal) (fault : FileFault) → head ≡ ScsHead.Bad why → fault ≡ unplaced why → ReadLeaves (refused_read fault (length area)) r after
        → Reads (scs_read_of s (length area)) r after
    scs_head_refused why fault e f l =
        refused_reads _ fault (length area) r after
        (ap (λ (x : FileFault). refused_read x (length area)) f ∙ sym (ap (λ (x : ScsHead). after_scs_head x s (length area)) e) ∙ scs_after_head) l

    module _ (model : Model) (em : head ≡ Spectrum model) (found : ScsFound) (ef : found ≡ scs_blocks s 15) where
      after_found_lem : after_found found model s (length area) ≡ scs_read_of s (length area)
      after_found_lem = ap (λ (x : ScsFound). after_found x model s (length area)) ef ∙ sym (ap (λ (x : ScsHead). after_scs_head x s (length area)) em) ∙ scs_after_head

      pub scs_blocks_refused : (fault : FileFault) → found ≡ Bad fault → ReadLeaves (refused_read fault (length area)) r after → Reads (scs_read_of s (length area)) r after
      scs_blocks_refused fault e l = refused_reads _ fault (length area) r after (sym (ap (λ (x : ScsFound). after_found x model s (length area)) e) ∙ after_found_lem) l

      module _ (seen : ScsSeen) (e : found ≡ Blocks seen) where
        pub scs_read : ReadLeaves (after_seen seen model s (length area)) r after → Reads (scs_read_of s (length area)) r after
        scs_read l =
            let q : after_seen seen model s (length area) ≡ scs_read_of s (length area) = sym (ap (λ (x : ScsFound). after_found x model s (length area)) e) ∙ after_found_lem in
            subst (λ (x : ReadResult). Reads x r after) q
            (record { leaves = l; valid = λ a. ap valid_of l.machine ∙ loaded_valid seen model s (length area) (sym l.answer ∙ a) })
