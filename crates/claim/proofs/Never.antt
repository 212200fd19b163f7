-- 28 and 29 never come in a run from a fresh log: no answer of the paper bench has these numbers, and the run's answers are these.
use Prim.Native.Nat.{ℕ, ◌/◌, ◌%◌}
use mathlib.Core.Path.{◌≡◌, sym, subst}
use mathlib.Core.Bool.{Bool, true, false, not}
use mathlib.Core.List.{List, [], ◌∷◌}
use native.Mathlib.Omega.{arith}
use lib.Dec.{ltb, eqb}
use lib.ListN.{length}
use Rattle.std.specs.Prelude.{Ok, Err}
use Rattle.pages.specs.declared.Model.{Model}
use Rattle.pages.specs.declared.Model.TheVariants.{K48, K128}
use Rattle.pages.specs.declared.Place.{Place}
use Rattle.pages.specs.declared.Place.TheVariants.{Rom, Ram}
use Rattle.numbers.specs.declared.Refusal.{Refusal}
use Rattle.numbers.specs.declared.Refusal.TheVariants.{PagingLocked, JournalFull, PairNumber}
use Rattle.numbers.specs.Numbers.{Answer, accepted, number_of, refusal_number, refuse}
use Rattle.spectrum.specs.State.{State}
use Rattle.log_steps.specs.Steps.{capacity}
use Rattle.session.specs.Session.{started}
use Rattle.corrections.specs.Corrections.{Correction, byte_at, pair_to, out_to, place_in, rom_first, out_first, room, correction_answer}
use Rattle.five_calls.specs.declared.Call.{Call}
use Rattle.five_calls.specs.declared.Call.TheVariants.{Byte, Pair, Out, Undo, Redo}
use Rattle.journal.specs.Journal.{journal_call}
use Rattle.claim.specs.History.{made, History, joins, history_undo, history_redo, history_call, no_history, history_answers}
use Rattle.claim.specs.Claim.{ValidStart, TypedCalls, run_answers}
use Rattle.claim.specs.Theorems.{NoneIs28Or29}
use Rattle.claim.proofs.Claim.{claim}

abbrev Not28Or29 : ℕ → Type 0
Not28Or29 n = (n ≡ 28 → ⊥) × (n ≡ 29 → ⊥)

refuse_other : (t : Bool) (why : Refusal) (a : Answer) → Not28Or29 (refusal_number why) → Not28Or29 (number_of a) → Not28Or29 (number_of (refuse t why a))
refuse_other true why a p q = p
refuse_other false why a p q = q

room_other : (cap n : ℕ) → Not28Or29 (number_of (room cap n))
room_other cap n = refuse_other (not (ltb n cap)) JournalFull accepted (λ e. omega arith, λ e. omega arith) (λ e. omega arith, λ e. omega arith)

rom_other : (p : Place) (a : Answer) → Not28Or29 (number_of a) → Not28Or29 (number_of (rom_first p a))
rom_other Rom a q = (λ e. omega arith, λ e. omega arith)
rom_other (Ram page offset) a q = q

out_other : (k : Model) (out : ℕ) (a : Answer) → Not28Or29 (number_of a) → Not28Or29 (number_of (out_first k out a))
out_other K48 out a q = (λ e. omega arith, λ e. omega arith)
out_other K128 out a q = refuse_other (eqb (out / 32 % 2) 1) PagingLocked a (λ e. omega arith, λ e. omega arith) q

answer_other : (cap : ℕ) (w : State) (n : ℕ) (c : Correction) → Not28Or29 (number_of (correction_answer cap w n c))
unfolding correction_answer
answer_other cap w n (byte_at a v) = rom_other (place_in w.machine a) (room cap n) (room_other cap n)
answer_other cap w n (pair_to p v) = refuse_other (ltb 11 p) PairNumber (room cap n) (λ e. omega arith, λ e. omega arith) (room_other cap n)
answer_other cap w n (out_to v) = out_other w.machine.model w.machine.out7ffd (room cap n) (room_other cap n)

joins_other : (a : Answer) (c : Correction) (b : History) → Not28Or29 (number_of a) → Not28Or29 (number_of (joins a c b).answer)
joins_other (Ok u) c b q = q
joins_other (Err why) c b q = q

undo_other : (cs us : List Correction) → Not28Or29 (number_of (history_undo cs us).answer)
undo_other [] us = (λ e. omega arith, λ e. omega arith)
undo_other (c ∷ cs) us = (λ e. omega arith, λ e. omega arith)

redo_other : (cs us : List Correction) → Not28Or29 (number_of (history_redo cs us).answer)
redo_other cs [] = (λ e. omega arith, λ e. omega arith)
redo_other cs (u ∷ us) = (λ e. omega arith, λ e. omega arith)

correct_other : (start : State) (size : ℕ) (b : History) (c : Correction) → Not28Or29 (number_of (joins (correction_answer (capacity size) (made start b.applied) (length b.applied) c) c b).answer)
correct_other start size b c =
    joins_other (correction_answer (capacity size) (made start b.applied) (length b.applied) c) c b (answer_other (capacity size) (made start b.applied) (length b.applied) c)

call_not_28_29 : (start : State) (size : ℕ) (b : History) (c : Call) → Not28Or29 (number_of (history_call start size b c).answer)
call_not_28_29 start size b (Byte a v) = correct_other start size b (byte_at a v)
call_not_28_29 start size b (Pair p v) = correct_other start size b (pair_to p v)
call_not_28_29 start size b (Out v) = correct_other start size b (out_to v)
call_not_28_29 start size b Undo = undo_other b.applied b.undone
call_not_28_29 start size b Redo = redo_other b.applied b.undone

history_never : (start : State) (size : ℕ) (b : History) (calls : List Call) → NoneIs28Or29 (history_answers start size b calls)
history_never start size b [] = tt
history_never start size b (c ∷ cs) = ((call_not_28_29 start size b c).0, (call_not_28_29 start size b c).1, history_never start size (history_call start size b c).history cs)

pub never_28_29 : (start : State) (log : List ℕ) → ValidStart start → (calls : List Call) → TypedCalls calls → NoneIs28Or29 (run_answers journal_call (started start log) calls)
never_28_29 start log ok calls wide = subst NoneIs28Or29 (sym (claim start log ok calls wide).answers) (history_never start (length log) no_history calls)
