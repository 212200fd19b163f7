-- Of each empty version the claim is false: a short list of calls on a 128K machine,
-- all of whose numbers are 0, computes to the contradiction.
use Prim.Native.Nat.{ℕ}
use mathlib.Core.Path.{◌≡◌, ap}
use mathlib.Core.List.{List, [], ◌∷◌}
use native.Mathlib.Omega.{arith}
use lib.ListN.{replicate, length-replicate}
use Rattle.slices.specs.Put.{put}
use Rattle.spectrum.specs.Machine.{with_out}
use Rattle.spectrum.specs.Valid.{valid_of}
use Rattle.z80file.proofs.Sample.{sample, zero_at, sample_typed, sample_valid}
use Rattle.five_calls.specs.declared.Call.{Call}
use Rattle.five_calls.specs.declared.Call.TheVariants.{Out, Undo, Redo}
use Rattle.spectrum.specs.State.{State}
use Rattle.log_steps.specs.Steps.{capacity, put_step, step_at}
use Rattle.step_places.specs.Pointed.{present, placed, intact}
use Rattle.corrections.specs.Corrections.{make, correction_answer, step_for, corrected}
use Rattle.undo.specs.Undo.{undo_of}
use Rattle.journal.specs.Journal.{soundness, journal_call}
use Rattle.claim.specs.Claim.{ValidStart, TypedCalls, ClaimOf}
use Rattle.claim.specs.WrongCalls.{always_refuses, alters_nothing, undoes_once, invents_counts, redoes_nothing}

-- ---- the start

zero_area : List ℕ
zero_area = replicate 131072 0

w0 : State
w0 = record { machine = sample; memory = zero_area }

-- a log with room for four steps
log : List ℕ
log = replicate 44 0

w0_valid : ValidStart w0
unfolding w0 zero_area
w0_valid =
    record {
      valid = sample_valid;
      area = length-replicate {A = ℕ} 131072 0;
      typed = sample_typed;
      bytes = λ i. omega (arith, zero_at 131072 i);
    }

-- ---- the lists

one_out : List Call
one_out = Out 1 ∷ []

two_undone : List Call
two_undone = Out 1 ∷ Out 2 ∷ Undo ∷ Undo ∷ []

out_undone_redone : List Call
out_undone_redone = Out 1 ∷ Undo ∷ Redo ∷ []

wide_one : TypedCalls one_out
unfolding one_out
wide_one = (omega arith, tt)

wide_two_undone : TypedCalls two_undone
unfolding two_undone
wide_two_undone = (omega arith, (omega arith, (tt, (tt, tt))))

wide_again : TypedCalls out_undone_redone
unfolding out_undone_redone
wide_again = (omega arith, (tt, (tt, tt)))

-- ---- the empty versions

-- after OUT 1 none stands, where one does
pub refuted_refuses : ClaimOf always_refuses → ⊥
unfolding always_refuses one_out w0 sample log capacity correction_answer
refuted_refuses h = let e : ◌≡◌ {A = ℕ} 0 1 = (h w0 log w0_valid one_out wide_one).standing in omega arith

-- after OUT 1 the last OUT is 0, where it is 1
pub refuted_alters_nothing : ClaimOf alters_nothing → ⊥
unfolding alters_nothing one_out w0 sample log capacity correction_answer make with_out
refuted_alters_nothing h =
    let e : ◌≡◌ {A = ℕ} 0 1 = ap (λ (w : State). w.machine.out7ffd) (h w0 log w0_valid one_out wide_one).state in
    omega arith

-- after OUT 1, OUT 2, undo, undo the last OUT is 1, where it is 0
pub refuted_undoes_once : ClaimOf undoes_once → ⊥
unfolding undoes_once two_undone w0 sample zero_area log journal_call corrected undo_of soundness valid_of capacity correction_answer make with_out step_for put_step put step_at intact present placed
refuted_undoes_once h =
    let e : ◌≡◌ {A = ℕ} 1 0 = ap (λ (w : State). w.machine.out7ffd) (h w0 log w0_valid two_undone wide_two_undone).state in
    omega arith

-- after OUT 1 seven stand, where one does
pub refuted_counts : ClaimOf invents_counts → ⊥
unfolding invents_counts one_out w0 sample log capacity correction_answer
refuted_counts h = let e : ◌≡◌ {A = ℕ} 7 1 = (h w0 log w0_valid one_out wide_one).standing in omega arith

-- after OUT 1, undo, redo the last OUT is 0, where it is 1
pub refuted_redo : ClaimOf redoes_nothing → ⊥
unfolding redoes_nothing out_undone_redone w0 sample zero_area log journal_call corrected undo_of soundness valid_of capacity correction_answer make with_out step_for put_step put step_at intact present placed
refuted_redo h =
    let e : ◌≡◌ {A = ℕ} 0 1 = ap (λ (w : State). w.machine.out7ffd) (h w0 log w0_valid out_undone_redone wide_again).state in
    omega arith
