-- The whole reading, at each return of the code: what the header, the memory and the cleared area come to.
use Prim.Native.Nat.{ℕ, ◌-◌, ◌<◌, ◌≤◌, ◌/◌, ◌%◌}
use native.Mathlib.Omega.{arith}
use mathlib.Core.Path.{◌≡◌, sym, ap, subst, ◌∙◌}
use mathlib.Core.Bool.{true}
use mathlib.Core.List.{List, ◌++◌}
use lib.ListN.{length, take, drop, replicate, length-replicate}
use lib.Dec.{eqb}
use borrow.Author.Tests.{eq-eqb, ne_eqb}
use Rattle.std.specs.Prelude.{Err}
use Rattle.slices.specs.Blank.{blank}
use Rattle.slices.proofs.Fills.{cleared_whole}
use Rattle.spectrum.specs.declared.Machine.{Machine}
use Rattle.pages.specs.declared.Model.{Model}
use Rattle.spectrum.specs.declared.Attachment.{Attachment}
use Rattle.numbers.specs.declared.Refusal.{Refusal}
use Rattle.numbers.specs.declared.FileFault.{FileFault}
use Rattle.numbers.specs.Faults.{unplaced}
use Rattle.numbers.specs.declared.Refusal.TheVariants.{AreaLength}
use Rattle.numbers.specs.Numbers.{accepted}
use Rattle.numbers.proofs.Numbers.{refused_not}
use Rattle.spectrum.specs.Machine.{blank_machine}
use Rattle.spectrum.specs.Valid.{valid_of}
use Rattle.header.specs.declared.Version.{Version}
use Rattle.header.specs.declared.Version.TheVariants.{V1, V2, V3}
use Rattle.header.specs.declared.Head.{Head}
use Rattle.header.specs.declared.Head.TheVariants.{Header}
use Rattle.header.specs.Heads.{byte12_of, header_length, head_of}
use Rattle.header_read.specs.Reading.{machine_of}
use Rattle.header.specs.Inner.{Readable}
use Rattle.header.proofs.HeadSteps.{long_30}
use Rattle.header.proofs.AcceptedHeads.{opens}
use Rattle.header_read.proofs.MachineValid.{machine_valid}
use Rattle.blocks.specs.declared.BodyAnswer.{BodyAnswer}
use Rattle.blocks.specs.declared.BodyAnswer.TheVariants.{Whole, Faulty}
use Rattle.blocks.specs.Blocks.{BodyResult, body_refused, body_read, ZerosLent, ReadsBody, blocks_into}
use Rattle.body_v1.specs.Body.{body_into}
use Rattle.z80read.specs.declared.Opened.{Opened}
use Rattle.z80read.specs.Read.{memory_into, ReadResult, refused_read, after_body, after_head, read_of, ReadLeaves, Reads}

-- what a refused read gives beside the area
abbrev refused_opened : FileFault → Opened
refused_opened fault = record { answer = Err fault.why; place = fault.place; machine = blank_machine }

-- what follows the header, by version
module _ (v : Version) (model : Model) (area s : List ℕ) (n : ℕ) (r : BodyAnswer) (after : List ℕ) where
  pub memory_1 : (b : ℕ) → b ≡ byte12_of s → v ≡ V1 → ReadsBody (body_into (eqb (b / 32 % 2) 1) area 30 (drop 30 s)) n r after → ReadsBody (memory_into v model area s) n r after
  memory_1 b e q t = rw (q, ← e) t

  pub memory_2 : v ≡ V2 → ReadsBody (blocks_into model area 55 (drop 55 s)) n r after → ReadsBody (memory_into v model area s) n r after
  memory_2 q t = rw q t

  pub memory_3 : v ≡ V3 → ReadsBody (blocks_into model area 86 (drop 86 s)) n r after → ReadsBody (memory_into v model area s) n r after
  memory_3 q t = rw q t

pub at_12 : (v : Version) (n : ℕ) → header_length v ≤ n → 12 < n
at_12 v n h = let k = long_30 v n h in omega arith

-- the answer of what follows the header decides
module _ (x : BodyResult) (m : Machine) (n : ℕ) (answer : BodyAnswer) (after : List ℕ) (t : ReadsBody x n answer after) (l : n ≡ 131072) where
  pub on_refused : (fault : FileFault) (r : Opened) → answer ≡ Faulty fault → r ≡ refused_opened fault → ReadLeaves (after_body x m n) r after
  unfolding blank
  on_refused fault r e q = go x t
    where
      go : (x : BodyResult) → ReadsBody x n answer after → ReadLeaves (after_body x m n) r after
      go (body_refused w) t =
          let z : Faulty w ≡ Faulty fault = sym t.0 ∙ e in
          let f : w ≡ fault = cc in
          record {
            answer = ap (λ (o : Opened). o.answer) q ∙ sym (ap (λ (x : FileFault). Err x.why) f);
            place = ap (λ (o : Opened). o.place) q ∙ sym (ap (λ (x : FileFault). x.place) f);
            machine = ap (λ (o : Opened). o.machine) q;
            memory = t.1 l ∙ sym (ap (λ (k : ℕ). replicate k 0) l);
          }
      go (body_read a) t = let z : ◌≡◌ {A = ℕ} 0 1 = cc in absurd (omega arith)

  pub on_accepted : (machine : Machine) (r : Opened) → answer ≡ Whole → machine ≡ m → r.answer ≡ accepted → r.place ≡ 0 → r.machine ≡ machine → ReadLeaves (after_body x m n) r after
  on_accepted machine r e q a p b = go x t
    where
      go : (x : BodyResult) → ReadsBody x n answer after → ReadLeaves (after_body x m n) r after
      go (body_refused w) t = let z : ◌≡◌ {A = ℕ} 0 1 = cc in absurd (omega arith)
      go (body_read area) t = record { answer = a; place = p; machine = b ∙ q; memory = t.1 l }

-- a refusal is not accepted, so nothing is said of its machine
no_machine : (o : ReadResult) (why : Refusal) (r : Opened) (area : List ℕ) → ReadLeaves o r area → r.answer ≡ Err why → Reads o r area
no_machine o why r area l e = record { leaves = l; valid = λ a. absurd (refused_not why (sym e ∙ a)) }

module _ (s before clear : List ℕ) (c₀ : clear ≡ take 0 before ++ replicate (length before - 0) 0) where
  c : clear ≡ replicate (length before) 0
  c = cleared_whole before clear c₀

  clear_long : length clear ≡ length before
  clear_long = ap length c ∙ length-replicate (length before) 0

  read_none : (o : ReadResult) (fault : FileFault) (r : Opened) → r ≡ refused_opened fault → o ≡ refused_read fault (length before) → Reads o r clear
  read_none o fault r q e =
      no_machine o fault.why r clear
      (record {
        answer = ap (λ (x : Opened). x.answer) q ∙ sym (ap (λ (x : ReadResult). x.answer) e);
        place = ap (λ (x : Opened). x.place) q ∙ sym (ap (λ (x : ReadResult). x.place) e);
        machine = ap (λ (x : Opened). x.machine) q ∙ sym (ap (λ (x : ReadResult). x.machine) e);
        memory = c ∙ sym (ap (λ (x : ReadResult). x.memory) e);
      })
      (ap (λ (x : Opened). x.answer) q)

  pub read_length : (fault : FileFault) (r : Opened) → (length clear ≡ 131072 → ⊥) → fault ≡ unplaced AreaLength → r ≡ refused_opened fault → Reads (read_of s (length before)) r clear
  unfolding read_of
  read_length fault r h f q = read_none _ (unplaced AreaLength) r (q ∙ ap refused_opened f) (rw (ne_eqb (length before) 131072 (λ e. h (clear_long ∙ e))))

  module _ (h : length clear ≡ 131072) (head : Head) (eh : head ≡ head_of s) where
    read_after_head : after_head head s (length before) ≡ read_of s (length before)
    unfolding read_of
    read_after_head = rw (eq-eqb (length before) 131072 (sym clear_long ∙ h), ← eh)

    pub read_refused : (fault : FileFault) (r : Opened) → head ≡ Head.Refused fault → r ≡ refused_opened fault → Reads (read_of s (length before)) r clear
    read_refused fault r e q = read_none _ fault r q (sym read_after_head ∙ ap (λ (x : Head). after_head x s (length before)) e)

    is_blank : clear ≡ blank 131072
    unfolding blank
    is_blank = c ∙ ap (λ (k : ℕ). replicate k 0) (sym clear_long ∙ h)

    pub is_lent : ZerosLent clear
    is_lent = record { zeros = λ _. is_blank; none = λ f. absurd (f h) }

    module _ (v : Version) (model : Model) (a : Attachment) (e : head ≡ Header v model a) where
      pub read_readable : Readable v model s
      read_readable = (opens s head v model a eh e).readable

      pub read_on : (r : Opened) (area : List ℕ)
          → ReadLeaves (after_body (memory_into v model (blank 131072) s) (machine_of v model a s) (length clear)) r area → Reads (read_of s (length before)) r area
      read_on r area l =
          let x = memory_into v model (blank 131072) s in
          let p : after_body x (machine_of v model a s) (length clear) ≡ after_body x (machine_of v model a s) (length before) = ap (after_body x (machine_of v model a s)) clear_long in
          let q : after_body x (machine_of v model a s) (length before) ≡ read_of s (length before) = sym (ap (λ (z : Head). after_head z s (length before)) e) ∙ read_after_head in
          record {
            leaves = subst (λ (o : ReadResult). ReadLeaves o r area) (p ∙ q) l;
            valid = λ g. valid x (subst (λ (o : ReadResult). ReadLeaves o r area) p l) g;
          }
        where
          valid : (x : BodyResult) → ReadLeaves (after_body x (machine_of v model a s) (length before)) r area → r.answer ≡ accepted → valid_of r.machine ≡ true
          valid (body_refused w) l g = absurd (refused_not w.why (sym l.answer ∙ g))
          valid (body_read m) l g = ap valid_of l.machine ∙ machine_valid s v model a (sym eh ∙ e)
