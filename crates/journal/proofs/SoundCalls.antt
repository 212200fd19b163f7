-- What the code of a call shows at each return, taken to the definition that its contract cites. Each premise is a fact as the code leaves it.
use Prim.Native.Nat.{ℕ, ◌≤◌, ◌<◌}
use mathlib.Core.Path.{◌≡◌, sym, ap, ◌∙◌}
use mathlib.Core.Bool.{Bool, true, false, not}
use mathlib.Core.List.{List}
use borrow.Author.Tests.{eq-eqb, ne_eqb, le-leb, lt-leb, eqb-true, leb-true}
use lib.Dec.{leb, eqb}
use lib.ListN.{length, replicate}
use Rattle.std.specs.Prelude.{Err}
use Rattle.slices.specs.Choose.{both}
use Rattle.slices.proofs.Chosen.{both_true, not_flip}
use Rattle.spectrum.specs.declared.Machine.{Machine}
use Rattle.numbers.specs.declared.Refusal.{Refusal}
use Rattle.numbers.specs.declared.Refusal.TheVariants.{InvalidMachine, MemoryLength, CountsDisagree}
use Rattle.numbers.specs.Numbers.{Answer, accepted}
use Rattle.spectrum.specs.Valid.{valid_of}
use Rattle.numbers.proofs.Numbers.{refuse_not}
use Rattle.z80read.specs.declared.Opened.{Opened}
use Rattle.z80read.specs.Read.{ReadResult, read_of, Reads}
use Rattle.scs_read.specs.ScsReads.{scs_read_of}
use Rattle.session.specs.declared.Counts.{Counts}
use Rattle.session.specs.declared.Done.{Done}
use Rattle.log_steps.specs.Steps.{capacity}
use Rattle.session.specs.Session.{CallResult, session_on, result_of, if_accepted}
use Rattle.log_steps.specs.Inner.{Ready}
use Rattle.session.proofs.Given.{refused_done}
use Rattle.five_calls.specs.declared.Call.{Call}
use Rattle.five_calls.specs.FiveCalls.{called}
use Rattle.journal.specs.Journal.{soundness, journal_call, start_counts, opened_as, open_of, scs_open_of}

-- 20, 21, 29
module _ (m : Machine) (area cap standing total : ℕ) (t : Bool) (et : t ≡ valid_of m) where
  pub sound_20 : t ≡ false → Err InvalidMachine ≡ soundness m area cap standing total
  unfolding soundness
  sound_20 h = rw (← et, h)

  module _ (h : t ≡ true) where
    pub sound_21 : (area ≡ 131072 → ⊥) → Err MemoryLength ≡ soundness m area cap standing total
    unfolding soundness
    sound_21 a = rw (← et, h, ne_eqb area 131072 a)

    pub sound_0 : area ≡ 131072 → standing ≤ total → total ≤ cap → accepted ≡ soundness m area cap standing total
    unfolding soundness
    sound_0 a b c = rw (← et, h, eq-eqb area 131072 a, le-leb standing total b, le-leb total cap c)

    pub sound_29 : area ≡ 131072 → standing ≤ total → cap < total → Err CountsDisagree ≡ soundness m area cap standing total
    unfolding soundness
    sound_29 a b c = rw (← et, h, eq-eqb area 131072 a, le-leb standing total b, lt-leb total cap c)

    pub sound_29b : area ≡ 131072 → total < standing → Err CountsDisagree ≡ soundness m area cap standing total
    unfolding soundness
    sound_29b a b = rw (← et, h, eq-eqb area 131072 a, lt-leb standing total b)

module _ (m : Machine) (mem log : List ℕ) (n : Counts) (cap : ℕ) (f : Answer) (ecap : cap ≡ capacity (length log)) (ef : f ≡ soundness m (length mem) cap n.standing n.total) where
  soundness_is : soundness m (length mem) (capacity (length log)) n.standing n.total ≡ f
  soundness_is = ap (λ (k : ℕ). soundness m (length mem) k n.standing n.total) (sym ecap) ∙ sym ef

  pub sound_ready : f ≡ accepted → Ready mem log n cap
  unfolding soundness
  sound_ready h =
      let a = refuse_not (not (valid_of m)) InvalidMachine _ (sym ef ∙ h) in
      let b = refuse_not (not (eqb (length mem) 131072)) MemoryLength _ a.1 in
      let c = refuse_not (not (both (leb n.standing n.total) (leb n.total cap))) CountsDisagree accepted b.1 in
      let d = both_true _ _ (not_flip _ c.0) in
      record { capped = ecap; area = eqb-true _ _ (not_flip _ b.0); ordered = leb-true _ _ d.0; within = leb-true _ _ d.1 }

  pub not_sound : (c : Call) (why : Refusal) (r : Done) → f ≡ Err why → r ≡ refused_done why m n → result_of r mem log ≡ journal_call c (session_on m mem log n)
  unfolding journal_call
  not_sound c why r h er = rw er (sym (ap (λ (a : Answer). if_accepted a (session_on m mem log n) (called c (session_on m mem log n))) (soundness_is ∙ h)))

  pub is_sound : (c : Call) (x : CallResult) → f ≡ accepted → x ≡ called c (session_on m mem log n) → x ≡ journal_call c (session_on m mem log n)
  unfolding journal_call
  is_sound c x h q = q ∙ sym (ap (λ (a : Answer). if_accepted a (session_on m mem log n) (called c (session_on m mem log n))) (soundness_is ∙ h))

-- a file opened
opened_as_lem : (x : ReadResult) (size : ℕ) (o : Opened) (counts : Counts) (area log : List ℕ) → Reads x o area → (counts ≡ start_counts) × (log ≡ replicate size 0)
    → result_of (record { answer = o.answer; machine = o.machine; counts = counts }) area log ≡ opened_as x size
opened_as_lem x size o counts area log p q =
    rw (q.0, q.1) (λ k. record {
      answer = p.leaves.answer k;
      session = record { state = record { machine = p.leaves.machine k; memory = p.leaves.memory k }; log = replicate size 0; standing = 0; total = 0 };
    })

module _ (s : List ℕ) (n size : ℕ) (o : Opened) (counts : Counts) (area log : List ℕ) where
  pub opened_is : Reads (read_of s n) o area → (counts ≡ start_counts) × (log ≡ replicate size 0)
      → result_of (record { answer = o.answer; machine = o.machine; counts = counts }) area log ≡ open_of s n size
  unfolding open_of
  opened_is p q = opened_as_lem (read_of s n) size o counts area log p q

  pub scs_opened_is : Reads (scs_read_of s n) o area → (counts ≡ start_counts) × (log ≡ replicate size 0)
      → result_of (record { answer = o.answer; machine = o.machine; counts = counts }) area log ≡ scs_open_of s n size
  unfolding scs_open_of
  scs_opened_is p q = opened_as_lem (scs_read_of s n) size o counts area log p q
