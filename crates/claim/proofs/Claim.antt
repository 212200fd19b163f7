-- After every list of calls the session is the paper bench's: by induction, from a relation that each call keeps.
use Prim.Native.Nat.{ℕ, suc, ◌+◌, ◌-◌, ◌*◌, ◌≤◌, ◌<◌}
use mathlib.Core.Path.{◌≡◌, refl, sym, ap, subst, ◌∙◌}
use mathlib.Core.Bool.{true}
use mathlib.Core.List.{List, [], ◌∷◌}
use native.Mathlib.Omega.{arith}
use native.Mathlib.Numerals.{add-one}
use native.Mathlib.Nat.{add-zero}
use borrow.Author.Tests.{lt-ltb, le-ltb, le-leb, eq-eqb, ne_eqb}
use lib.ListN.{length}
use Rattle.std.specs.Prelude.{Ok, Err}
use Rattle.numbers.specs.Numbers.{Answer, accepted}
use Rattle.spectrum.specs.State.{State}
use Rattle.log_steps.specs.declared.Step.{Step}
use Rattle.log_steps.specs.Steps.{capacity, put_step}
use Rattle.step_places.specs.Pointed.{present, placed, intact}
use Rattle.session.specs.Session.{Session, CallResult, started}
use Rattle.log_steps.proofs.StepBytes.{step_at_below, length-put_step, room_in_log}
use Rattle.corrections.specs.Corrections.{Correction, byte_at, pair_to, out_to, make, correction_answer, step_for, corrected}
use Rattle.undo.specs.Undo.{moved, undo_of, redo_of}
use Rattle.five_calls.specs.declared.Call.{Call}
use Rattle.five_calls.specs.declared.Call.TheVariants.{Byte, Pair, Out, Undo, Redo}
use Rattle.journal.specs.Journal.{soundness, if_sound, journal_call}
use Rattle.claim.specs.History.{made, History, HistoryResult, joins, history_correct, history_undo, history_redo, history_call, no_history, history_after, history_answers}
use Rattle.claim.specs.Claim.{ValidStart, TypedCall, TypedCalls, run_after, run_answers, ClaimOf}
use Rattle.claim.proofs.Held.{TypedCorrection, Held, held, answer_room}

-- ---- the relation of a log and a history

-- the steps below a number hold the applied corrections, each on the state that those before it left
abbrev Past : State → List ℕ → List Correction → Type 0
Past start log [] = Unit {0}
Past start log (c ∷ cs) = Held log (length cs) c (made start cs) × Past start log cs

-- the steps from a number on hold the undone ones
abbrev Future : List ℕ → State → ℕ → List Correction → Type 0
Future log w k [] = Unit {0}
Future log w k (c ∷ cs) = Held log k c w × Future log (make c w) (suc k) cs

record Kept (start : State) (size : ℕ) (log : List ℕ) (b : History) : Type 0 where
  long : length log ≡ size
  bound : length b.applied + length b.undone ≤ capacity size
  fit : ValidStart (made start b.applied)
  past : Past start log b.applied
  future : Future log (made start b.applied) (length b.applied) b.undone

-- the session that a history says, but for the log
abbrev history_session : State → List ℕ → History → Session
history_session start log b =
    record { state = made start b.applied; log = log; standing = length b.applied; total = length b.applied + length b.undone }

record Agrees (start : State) (size : ℕ) (x : CallResult) (t : HistoryResult) : Type 0 where
  log : List ℕ
  same : x ≡ record { answer = t.answer; session = history_session start log t.history }
  kept : Kept start size log t.history

-- ---- each call keeps it

past_kept : (start : State) (log : List ℕ) (n : ℕ) (s : Step) (cs : List Correction) → n * 11 + 11 ≤ length log → length cs ≤ n → Past start log cs → Past start (put_step log n s) cs
past_kept start log n s [] f h q = tt
past_kept start log n s (c ∷ cs) f h q = (
  record {
    reads = step_at_below log n s f (length cs) (omega arith) ∙ q.0.reads;
    whole = q.0.whole;
    model = q.0.model;
    new_there = q.0.new_there;
    old_there = q.0.old_there;
    back = q.0.back;
    forth = q.0.forth;
    before = q.0.before;
    after = q.0.after;
  },
  past_kept start log n s cs f (omega arith) q.1,
)

module _ (start : State) (size : ℕ) where
  capped : (log : List ℕ) → length log ≡ size → capacity (length log) ≡ capacity size
  capped log e = ap capacity e

  sound_passes : (log : List ℕ) (b : History) → Kept start size log b → (x : CallResult) → if_sound (history_session start log b) x ≡ x
  unfolding soundness
  sound_passes log b k x =
      simp (
        k.fit.valid,
        eq-eqb (length (made start b.applied).memory) 131072 k.fit.area,
        le-leb (length b.applied) (length b.applied + length b.undone) (omega arith),
        le-leb (length b.applied + length b.undone) (capacity (length log)) (omega (arith, capped log k.long, k.bound)),
      )

  moved_is : (d : Session) (s : Step) (was v n : ℕ) (w : State) (n' t : ℕ) → intact d.state.machine.model s ≡ true → present s d.state ≡ was → placed s v d.state ≡ w → n ≡ n' → d.total ≡ t
      → moved d s was v n ≡ record { answer = accepted; session = record { state = w; log = d.log; standing = n'; total = t } }
  moved_is d s was v n w n' t e1 e2 e3 e4 e5 = simp (e1, eq-eqb (present s d.state) was e2, e3, e4, e5)

  undo_agrees : (log : List ℕ) (cs us : List Correction) → Kept start size log (record { applied = cs; undone = us })
      → Agrees start size (journal_call Undo (history_session start log (record { applied = cs; undone = us }))) (history_undo cs us)
  unfolding journal_call undo_of
  undo_agrees log [] us k = record { log = log; same = sound_passes log _ k _; kept = k }
  undo_agrees log (c ∷ cs) us k =
      let v = made start cs in
      let h = k.past.0 in
      let d = history_session start log (record { applied = c ∷ cs; undone = us }) in
      let n1 : suc (length cs) - 1 ≡ length cs = omega arith in
      let i : intact (make c v).machine.model (step_for c v) ≡ true = rw h.model h.whole in
      record {
        log = log;
        same =
            sound_passes log _ k _
            ∙ simp (ne_eqb (suc (length cs)) 0 (λ e. omega arith), n1, h.reads)
            (moved_is d (step_for c v) _ _ (length cs) v (length cs) (length cs + suc (length us)) i h.new_there h.back refl (omega arith));
        kept = record { long = k.long; bound = omega (arith, k.bound); fit = h.before; past = k.past.1; future = (h, k.future) };
      }

  redo_agrees : (log : List ℕ) (cs us : List Correction) → Kept start size log (record { applied = cs; undone = us })
      → Agrees start size (journal_call Redo (history_session start log (record { applied = cs; undone = us }))) (history_redo cs us)
  unfolding journal_call redo_of
  redo_agrees log cs [] k =
      record { log = log; same = sound_passes log _ k _ ∙ simp (le-ltb (length cs) (length cs + 0) (omega arith)); kept = k }
  redo_agrees log cs (c ∷ us) k =
      let v = made start cs in
      let h = k.future.0 in
      let d = history_session start log (record { applied = cs; undone = c ∷ us }) in
      record {
        log = log;
        same =
            sound_passes log _ k _
            ∙ simp (lt-ltb (length cs) (length cs + suc (length us)) (omega arith), h.reads)
            (moved_is d (step_for c v) _ _ (length cs + 1) (make c v) (suc (length cs)) (suc (length cs) + length us) h.whole h.old_there h.forth (add-one _) (omega arith));
        kept = record { long = k.long; bound = omega (arith, k.bound); fit = h.after; past = (h, k.past); future = k.future.1 };
      }

  correct_agrees : (log : List ℕ) (b : History) (c : Correction) → TypedCorrection c → Kept start size log b
      → Agrees start size (if_sound (history_session start log b) (corrected c (history_session start log b))) (history_correct start size b c)
  unfolding corrected
  correct_agrees log b c wide k = go (correction_answer (capacity size) w n c) refl
    where
      w : State
      w = made start b.applied

      n : ℕ
      n = length b.applied

      go : (a : Answer) → correction_answer (capacity size) w n c ≡ a → Agrees start size (if_sound (history_session start log b) (corrected c (history_session start log b))) (joins (correction_answer (capacity size) w n c) c b)
      go (Ok u) e =
          let lt : n < capacity size = answer_room (capacity size) w n c e in
          let fits = room_in_log log (capacity size) n (capped log k.long) lt in
          let h = held c w log (capacity size) n k.fit wide e fits in
          rw e
          (record {
            log = put_step log n (step_for c w);
            same = sound_passes log b k _ ∙ simp (capped log k.long, e, add-one, add-zero);
            kept = record {
              long = length-put_step log n (step_for c w) fits ∙ k.long;
              bound = omega arith;
              fit = h.after;
              past = (h, past_kept start log n (step_for c w) b.applied fits (omega arith) k.past);
              future = tt;
            };
          })
      go (Err why) e = rw e (record { log = log; same = sound_passes log b k _ ∙ simp (capped log k.long, e); kept = k })

  call_agrees : (call : Call) (log : List ℕ) (b : History) → TypedCall call → Kept start size log b
      → Agrees start size (journal_call call (history_session start log b)) (history_call start size b call)
  unfolding journal_call
  call_agrees (Byte a v) log b wide k = correct_agrees log b (byte_at a v) wide k
  call_agrees (Pair p v) log b wide k = correct_agrees log b (pair_to p v) wide k
  call_agrees (Out v) log b wide k = correct_agrees log b (out_to v) wide k
  call_agrees Undo log b wide k = undo_agrees log b.applied b.undone k
  call_agrees Redo log b wide k = redo_agrees log b.applied b.undone k

  -- what holds after a list of calls
  record AfterCalls (calls : List Call) (log : List ℕ) (b : History) : Type 0 where
    last : List ℕ
    fit : ValidStart (made start (history_after start size b calls).applied)
    session : run_after journal_call (history_session start log b) calls ≡ history_session start last (history_after start size b calls)
    answers : run_answers journal_call (history_session start log b) calls ≡ history_answers start size b calls

  calls_agree : (calls : List Call) (log : List ℕ) (b : History) → TypedCalls calls → Kept start size log b → AfterCalls calls log b
  calls_agree [] log b wide k = record { last = log; fit = k.fit; session = refl; answers = refl }
  calls_agree (c ∷ cs) log b wide k =
      let a = call_agrees c log b wide.0 k in
      let t = calls_agree cs a.log (history_call start size b c).history wide.1 a.kept in
      record {
        last = t.last;
        fit = t.fit;
        session = ap (λ (x : CallResult). run_after journal_call x.session cs) a.same ∙ t.session;
        answers = ap (λ (x : CallResult). x.answer ∷ run_answers journal_call x.session cs) a.same ∙ ap (λ (l : List Answer). (history_call start size b c).answer ∷ l) t.answers;
      }

  after_calls : (log : List ℕ) → length log ≡ size → ValidStart start → (calls : List Call) → TypedCalls calls → AfterCalls calls log no_history
  after_calls log e ok calls wide = calls_agree calls log no_history wide (record { long = e; bound = omega arith; fit = ok; past = tt; future = tt })

-- THE CLAIM
pub claim : ClaimOf journal_call
claim start log ok calls wide =
    let t = after_calls start (length log) log refl ok calls wide in
    record {
      state = ap (λ (d : Session). d.state) t.session;
      standing = ap (λ (d : Session). d.standing) t.session;
      total = ap (λ (d : Session). d.total) t.session;
      answers = t.answers;
    }

-- what a list of calls leaves is a start again
pub start_after : (start : State) (log : List ℕ) → ValidStart start → (calls : List Call) → TypedCalls calls → ValidStart (run_after journal_call (started start log) calls).state
start_after start log ok calls wide =
    let t = after_calls start (length log) log refl ok calls wide in
    subst (λ (d : Session). ValidStart d.state) (sym t.session) t.fit
