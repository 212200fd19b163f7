-- Each return of the code, and why reading refuses for the same reason and at the same place.
use Prim.Native.Nat.{ℕ, ◌≤◌}
use native.Mathlib.Omega.{arith}
use mathlib.Core.Path.{◌≡◌, refl, sym, ap, ◌∙◌}
use mathlib.Core.List.{List}
use lib.ListN.{length}
use Rattle.slices.specs.Blank.{blank}
use Rattle.pages.specs.declared.Model.{Model}
use Rattle.spectrum.specs.declared.Attachment.{Attachment}
use Rattle.spectrum.specs.declared.Machine.{Machine}
use Rattle.numbers.specs.declared.FileFault.{FileFault}
use Rattle.numbers.specs.Numbers.{number_of}
use Rattle.numbers.specs.Faults.{NamedFigures}
use Rattle.numbers.proofs.FaultPlaces.{no_figures_at_all}
use Rattle.header.specs.declared.Version.{Version}
use Rattle.header.specs.declared.Head.{Head}
use Rattle.header.specs.declared.Head.TheVariants.{Header}
use Rattle.header.specs.Heads.{header_length, head_of}
use Rattle.header.proofs.AcceptedHeads.{opens, head_unplaced}
use Rattle.header_read.specs.Reading.{machine_of}
use Rattle.blocks.specs.Blocks.{BodyResult, body_refused, body_read, ZerosLent, ReadsBody}
use Rattle.blocks.specs.declared.BodyAnswer.{BodyAnswer}
use Rattle.blocks.specs.declared.BodyAnswer.TheVariants.{Whole, Faulty}
use Rattle.blocks.proofs.BlockPlaces.{BodyPlaced}
use Rattle.z80read.proofs.ReadPlaces.{memory_placed}
use Rattle.z80read.specs.Read.{memory_into, after_body, after_head, read_of}
use Rattle.z80explain.specs.declared.Explained.{Explained}
use Rattle.z80explain.specs.Explain.{nothing_wrong, told, told_body, told_head, explain_of}

pub nothing_lent : (area : List ℕ) → length area ≡ 0 → ZerosLent area
nothing_lent area e = record { zeros = λ l. absurd (omega arith); none = λ _. e }

-- what each answer of reading into nothing tells
abbrev Told : BodyResult → BodyAnswer → Type 0
Told x Whole = told_body x ≡ nothing_wrong
Told x (Faulty fault) = told_body x ≡ told fault

body_told : (x : BodyResult) (n : ℕ) (answer : BodyAnswer) (after : List ℕ) → ReadsBody x n answer after → Told x answer
body_told (body_refused w) n answer after t = rw t.0
body_told (body_read area) n answer after t = rw t.0

module _ (x : BodyResult) (n : ℕ) (answer : BodyAnswer) (after : List ℕ) (t : ReadsBody x n answer after) (r : Explained) where
  pub body_good : answer ≡ Whole → r ≡ nothing_wrong → r ≡ told_body x
  body_good e q = q ∙ sym (rw e at (body_told x n answer after t))

  pub body_faulty : (fault : FileFault) → answer ≡ Faulty fault → r ≡ told fault → r ≡ told_body x
  body_faulty fault e q = q ∙ sym (rw e at (body_told x n answer after t))

module _ (s : List ℕ) (head : Head) (eh : head ≡ head_of s) where
  head_told : told_head head s ≡ explain_of s
  unfolding explain_of
  head_told = ap (λ (h : Head). told_head h s) eh

  pub head_faulty : (r : Explained) (fault : FileFault) → head ≡ Head.Refused fault → r ≡ told fault → r ≡ explain_of s
  head_faulty r fault e q = q ∙ ap (λ (h : Head). told_head h s) (sym e) ∙ head_told

  module _ (v : Version) (model : Model) (a : Attachment) (e : head ≡ Header v model a) where
    pub head_there : header_length v ≤ length s
    head_there = (opens s head v model a eh e).readable.long

    pub head_good : (r : Explained) → r ≡ told_body (memory_into v model (blank 131072) s) → r ≡ explain_of s
    head_good r q = q ∙ ap (λ (h : Head). told_head h s) (sym e) ∙ head_told

-- reading refuses where this does
after_answer : (x : BodyResult) (m : Machine) (n : ℕ) → (told_body x).answer ≡ (after_body x m n).answer
after_answer (body_refused fault) m n = refl
after_answer (body_read area) m n = refl

after_place : (x : BodyResult) (m : Machine) (n : ℕ) → (told_body x).place ≡ (after_body x m n).place
after_place (body_refused fault) m n = refl
after_place (body_read area) m n = refl

pub explained_answer : (s : List ℕ) → (explain_of s).answer ≡ (read_of s 131072).answer
unfolding explain_of read_of
explained_answer s = go (head_of s)
  where
    go : (h : Head) → (told_head h s).answer ≡ (after_head h s 131072).answer
    go (Head.Refused fault) = refl
    go (Header v model a) = after_answer (memory_into v model (blank 131072) s) (machine_of v model a s) 131072

pub explained_place : (s : List ℕ) → (explain_of s).place ≡ (read_of s 131072).place
unfolding explain_of read_of
explained_place s = go (head_of s)
  where
    go : (h : Head) → (told_head h s).place ≡ (after_head h s 131072).place
    go (Head.Refused fault) = refl
    go (Header v model a) = after_place (memory_into v model (blank 131072) s) (machine_of v model a s) 131072

-- the block and the figures that are told
abbrev ToldFigures : Explained → Type 0
ToldFigures o = NamedFigures (number_of o.answer) o.block o.found o.due

body_figures : (size : ℕ) (x : BodyResult) → BodyPlaced size x → ToldFigures (told_body x)
body_figures size (body_refused fault) p = p.1
body_figures size (body_read area) p = no_figures_at_all 0 refl

pub explained_figures : (s : List ℕ) → ToldFigures (explain_of s)
unfolding explain_of
explained_figures s = go (head_of s) refl
  where
    go : (h : Head) → head_of s ≡ h → ToldFigures (told_head h s)
    go (Head.Refused fault) e = (head_unplaced s fault e).1
    go (Header v model a) e =
        body_figures (length s) (memory_into v model (blank 131072) s) (memory_placed v model (blank 131072) s (opens s (head_of s) v model a refl e).readable.long)
