-- What the code of undo and redo shows at each return, taken to the definition that its contract cites.
use Prim.Native.Nat.{ℕ, ◌+◌, ◌-◌, ◌≤◌, ◌<◌}
use mathlib.Core.Path.{◌≡◌, sym, ap, ◌∙◌}
use mathlib.Core.Bool.{Bool, true, false}
use mathlib.Core.List.{List}
use borrow.Author.Tests.{lt-ltb, le-ltb, eq-eqb, ne_eqb}
use Rattle.spectrum.specs.declared.Machine.{Machine}
use Rattle.numbers.specs.declared.Refusal.TheVariants.{NothingToMove, StepDamaged}
use Rattle.numbers.specs.Numbers.{accepted}
use Rattle.log_steps.specs.declared.Step.{Step}
use Rattle.session.specs.declared.Counts.{Counts}
use Rattle.session.specs.declared.Done.{Done}
use Rattle.log_steps.specs.Steps.{step_at}
use Rattle.step_places.specs.Pointed.{present, placed, intact}
use Rattle.session.specs.Session.{session_on, result_of}
use Rattle.session.proofs.Given.{on, refused_done}
use Rattle.undo.specs.Undo.{moved, undo_of, redo_of}

pub total_kept : (n next : Counts) (k : ℕ) → next ≡ record { standing = k; total = n.total } → next.total ≡ n.total
total_kept n next k e = ap (λ (x : Counts). x.total) e

-- a step taken back or made again
module _ (m : Machine) (mem : List ℕ) (n : Counts) (s : Step) (was v : ℕ) (next : Counts) (et : next.total ≡ n.total) (i : Bool) (ei : i ≡ intact m.model s) where
  pub moves : (there : ℕ) (m' : Machine) (mem' : List ℕ) (r : Done) → i ≡ true → there ≡ present s (on m mem) → there ≡ was → on m' mem' ≡ placed s v (on m mem)
      → r ≡ record { answer = accepted; machine = m'; counts = next }
      → (log : List ℕ) → result_of r mem' log ≡ moved (session_on m mem log n) s was v next.standing
  moves there m' mem' r y q w e er log =
      rw er (simp (sym ei ∙ y, eq-eqb (present s (on m mem)) was (sym q ∙ w))
      (λ k. record { answer = accepted; session = record { state = e k; log = log; standing = next.standing; total = et k } }))

  pub stays_other : (there : ℕ) (r : Done) → i ≡ true → there ≡ present s (on m mem) → (there ≡ was → ⊥) → r ≡ refused_done StepDamaged m n
      → (log : List ℕ) → result_of r mem log ≡ moved (session_on m mem log n) s was v next.standing
  stays_other there r y q w er log = rw er (simp (sym ei ∙ y, ne_eqb (present s (on m mem)) was (λ e. w (q ∙ e))))

  pub stays_damaged : (r : Done) → i ≡ false → r ≡ refused_done StepDamaged m n → (log : List ℕ) → result_of r mem log ≡ moved (session_on m mem log n) s was v next.standing
  stays_damaged r y er log = rw er (simp (sym ei ∙ y))

-- undo and redo
module _ (m : Machine) (mem log : List ℕ) (n : Counts) where
  pub undo_none : (r : Done) → n.standing ≡ 0 → r ≡ refused_done NothingToMove m n → result_of r mem log ≡ undo_of (session_on m mem log n)
  unfolding undo_of
  undo_none r g er = rw er (sym (simp (eq-eqb n.standing 0 g)))

  pub undo_done : (s : Step) (next : Counts) (mem' : List ℕ) (r : Done) → (n.standing ≡ 0 → ⊥) → s ≡ step_at log (n.standing - 1)
      → next ≡ record { standing = n.standing - 1; total = n.total }
      → ((l : List ℕ) → result_of r mem' l ≡ moved (session_on m mem l n) s s.new s.old next.standing) → result_of r mem' log ≡ undo_of (session_on m mem log n)
  unfolding undo_of
  undo_done s next mem' r g es en e =
      let k : next.standing ≡ n.standing - 1 = ap (λ (x : Counts). x.standing) en in
      sym (simp (ne_eqb n.standing 0 g, ← es) (sym (e log ∙ ap (moved (session_on m mem log n) s s.new s.old) k)))

  pub redo_none : (r : Done) → n.total ≤ n.standing → r ≡ refused_done NothingToMove m n → result_of r mem log ≡ redo_of (session_on m mem log n)
  unfolding redo_of
  redo_none r g er = rw er (sym (simp (le-ltb n.standing n.total g)))

  pub redo_done : (s : Step) (next : Counts) (mem' : List ℕ) (r : Done) → n.standing < n.total → s ≡ step_at log n.standing
      → next ≡ record { standing = n.standing + 1; total = n.total }
      → ((l : List ℕ) → result_of r mem' l ≡ moved (session_on m mem l n) s s.old s.new next.standing) → result_of r mem' log ≡ redo_of (session_on m mem log n)
  unfolding redo_of
  redo_done s next mem' r g es en e =
      let k : next.standing ≡ n.standing + 1 = ap (λ (x : Counts). x.standing) en in
      sym (simp (lt-ltb n.standing n.total g, ← es) (sym (e log ∙ ap (moved (session_on m mem log n) s s.old s.new) k)))
