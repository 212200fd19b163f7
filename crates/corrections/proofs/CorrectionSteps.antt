-- What the code of a correction shows at each return, taken to the definition that its contract cites. Each premise is a fact as the code leaves it.
use Prim.Native.Nat.{ℕ, ◌+◌, ◌*◌, ◌/◌, ◌%◌, ◌≤◌, ◌<◌}
use mathlib.Core.Path.{◌≡◌, sym, ap, ◌∙◌}
use mathlib.Core.List.{List}
use borrow.Author.Tests.{lt-ltb, le-ltb, eq-eqb, ne_eqb}
use lib.ListN.{length, get_or}
use Rattle.std.specs.Prelude.{Err}
use Rattle.spectrum.specs.declared.Machine.{Machine}
use Rattle.pages.specs.declared.Model.{Model}
use Rattle.pages.specs.declared.Model.TheVariants.{K48, K128}
use Rattle.numbers.specs.declared.Refusal.{Refusal}
use Rattle.numbers.specs.declared.Refusal.TheVariants.{OutOn48k, PagingLocked, JournalFull, PairNumber}
use Rattle.numbers.specs.Numbers.{Answer, accepted}
use Rattle.spectrum.specs.Machine.{with_pair, with_out}
use Rattle.log_steps.specs.declared.Step.{Step}
use Rattle.session.specs.declared.Counts.{Counts}
use Rattle.session.specs.declared.Done.{Done}
use Rattle.log_steps.specs.Steps.{capacity, put_step}
use Rattle.session.specs.Session.{session_on, result_of}
use Rattle.log_steps.specs.Inner.{Ready}
use Rattle.session.proofs.Given.{on, refused_done}
use Rattle.log_steps.proofs.Room.{log_room, few_steps}
use Rattle.corrections.specs.Corrections.{Correction, pair_to, out_to, make, out_first, room, correction_answer, step, step_for, corrected}

-- the end of a correction
abbrev pub added_done : Machine → Counts → Done
added_done m n = record { answer = accepted; machine = m; counts = record { standing = n.standing + 1; total = n.standing + 1 } }

pub added_is : (m : Machine) (n : Counts) (k : Counts) (r : Done) → k ≡ record { standing = n.standing + 1; total = n.standing + 1 } → r ≡ record { answer = accepted; machine = m; counts = k }
    → r ≡ added_done m n
added_is m n k r e q = q ∙ ap (λ (x : Counts). record { answer = accepted; machine = m; counts = x }) e

-- ---- corrections
module _ (m : Machine) (mem log : List ℕ) (n : Counts) (cap : ℕ) (g : Ready mem log n cap) where
  pub refused_as : (c : Correction) (why : Refusal) (r : Done) → correction_answer cap (on m mem) n.standing c ≡ Err why → r ≡ refused_done why m n → result_of r mem log ≡ corrected c (session_on m mem log n)
  unfolding corrected
  refused_as c why r e er =
      let e2 : correction_answer (capacity (length log)) (on m mem) n.standing c ≡ Err why = ap (λ (k : ℕ). correction_answer k (on m mem) n.standing c) (sym g.capped) ∙ e in
      rw er (sym (simp e2))

  accepted_as : (c : Correction) (m' : Machine) (mem' log' : List ℕ) (s : Step) (r : Done) → correction_answer cap (on m mem) n.standing c ≡ accepted
      → on m' mem' ≡ make c (on m mem) → s ≡ step_for c (on m mem) → r ≡ added_done m' n → log' ≡ put_step log n.standing s
      → result_of r mem' log' ≡ corrected c (session_on m mem log n)
  unfolding corrected
  accepted_as c m' mem' log' s r e ew es er el =
      let e2 : correction_answer (capacity (length log)) (on m mem) n.standing c ≡ accepted = ap (λ (k : ℕ). correction_answer k (on m mem) n.standing c) (sym g.capped) ∙ e in
      let el2 : log' ≡ put_step log n.standing (step_for c (on m mem)) = el ∙ ap (put_step log n.standing) es in
      rw er (sym (simp (e2, ← ew, ← el2)))

  pub journal_full : cap ≤ n.standing → room cap n.standing ≡ Err JournalFull
  journal_full h = simp (le-ltb n.standing cap h)

  pub open_room : n.standing < cap → room cap n.standing ≡ accepted
  open_room h = simp (lt-ltb n.standing cap h)

  pub standing_few : n.standing < cap → n.standing < 4096
  standing_few h = few_steps log cap n.standing g.capped h

  pub standing_room : n.standing < cap → n.standing * 11 + 11 ≤ length log
  standing_room h = log_room log cap n.standing g.capped h

  -- a pair
  module _ (p v : ℕ) where
    pub pair_none : (r : Done) → 11 < p → r ≡ refused_done PairNumber m n → result_of r mem log ≡ corrected (pair_to p v) (session_on m mem log n)
    unfolding correction_answer
    pair_none r h er = refused_as (pair_to p v) PairNumber r (simp (lt-ltb 11 p h)) er

    pub pair_full : (r : Done) → p ≤ 11 → cap ≤ n.standing → r ≡ refused_done JournalFull m n → result_of r mem log ≡ corrected (pair_to p v) (session_on m mem log n)
    unfolding correction_answer
    pair_full r h k er = refused_as (pair_to p v) JournalFull r (simp (le-ltb 11 p h, le-ltb n.standing cap k)) er

    pub pair_made : (m' : Machine) (old : ℕ) (r : Done) (log' : List ℕ) → p ≤ 11 → n.standing < cap → old ≡ get_or m.pairs p 0 → m' ≡ with_pair m p v
        → (r ≡ added_done m' n) × (log' ≡ put_step log n.standing (step 2 p 0 old v)) → result_of r mem log' ≡ corrected (pair_to p v) (session_on m mem log n)
    unfolding correction_answer make step_for
    pair_made m' old r log' h k eo em q =
        accepted_as (pair_to p v) m' mem log' _ r (simp (le-ltb 11 p h, lt-ltb n.standing cap k)) (ap (λ (x : Machine). on x mem) em) (simp eo) q.0 q.1

  -- an OUT
  module _ (v : ℕ) where
    by_model : (k : Model) (x : Answer) → m.model ≡ k → out_first m.model m.out7ffd x ≡ out_first k m.out7ffd x
    by_model k x e = ap (λ (z : Model). out_first z m.out7ffd x) e

    pub out_48 : (r : Done) → m.model ≡ K48 → r ≡ refused_done OutOn48k m n → result_of r mem log ≡ corrected (out_to v) (session_on m mem log n)
    unfolding correction_answer
    out_48 r e er = refused_as (out_to v) OutOn48k r (by_model K48 _ e) er

    pub out_locked : (r : Done) → m.model ≡ K128 → m.out7ffd / 32 % 2 ≡ 1 → r ≡ refused_done PagingLocked m n → result_of r mem log ≡ corrected (out_to v) (session_on m mem log n)
    unfolding correction_answer
    out_locked r e l er = refused_as (out_to v) PagingLocked r (by_model K128 _ e ∙ simp (eq-eqb (m.out7ffd / 32 % 2) 1 l)) er

    module _ (e : m.model ≡ K128) (l : m.out7ffd / 32 % 2 ≡ 1 → ⊥) where
      pub out_full : (r : Done) → cap ≤ n.standing → r ≡ refused_done JournalFull m n → result_of r mem log ≡ corrected (out_to v) (session_on m mem log n)
      unfolding correction_answer
      out_full r h er = refused_as (out_to v) JournalFull r (by_model K128 _ e ∙ simp (ne_eqb (m.out7ffd / 32 % 2) 1 l, le-ltb n.standing cap h)) er

      pub out_made : (m' : Machine) (old new : ℕ) (r : Done) (log' : List ℕ) → n.standing < cap → old ≡ m.out7ffd → new ≡ v → m' ≡ with_out m v
          → (r ≡ added_done m' n) × (log' ≡ put_step log n.standing (step 3 0 0 old new)) → result_of r mem log' ≡ corrected (out_to v) (session_on m mem log n)
      unfolding correction_answer make step_for
      out_made m' old new r log' h eo en em q =
          accepted_as (out_to v) m' mem log' _ r (by_model K128 _ e ∙ simp (ne_eqb (m.out7ffd / 32 % 2) 1 l, lt-ltb n.standing cap h)) (ap (λ (x : Machine). on x mem) em) (simp (eo, en)) q.0 q.1
