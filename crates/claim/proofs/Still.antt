-- A refused call leaves the session as it was: every refusal of the definitions hands the session on.
use Prim.Native.Nat.{ℕ}
use mathlib.Core.Path.{◌≡◌, refl, sym, ◌∙◌}
use mathlib.Core.Bool.{Bool, true, false}
use lib.Dec.{ltb, eqb}
use lib.ListN.{length}
use Rattle.std.specs.Prelude.{Ok, Err}
use Rattle.slices.specs.Choose.{choose, both}
use Rattle.numbers.specs.declared.Refusal.{Refusal}
use Rattle.numbers.specs.declared.Refusal.TheVariants.{NothingToMove}
use Rattle.numbers.specs.Numbers.{Answer, accepted}
use Rattle.numbers.proofs.Numbers.{refused_not}
use Rattle.log_steps.specs.declared.Step.{Step}
use Rattle.log_steps.specs.Steps.{capacity}
use Rattle.step_places.specs.Pointed.{present, intact}
use Rattle.session.specs.Session.{Session, CallResult, unchanged, if_accepted}
use Rattle.corrections.specs.Corrections.{Correction, byte_at, pair_to, out_to, correction_answer, corrected}
use Rattle.undo.specs.Undo.{moved, undo_of, redo_of}
use Rattle.five_calls.specs.declared.Call.{Call}
use Rattle.five_calls.specs.declared.Call.TheVariants.{Byte, Pair, Out, Undo, Redo}
use Rattle.five_calls.specs.FiveCalls.{called}
use Rattle.journal.specs.Journal.{soundness, if_sound, journal_call}

-- where it is refused, the session is as it was
abbrev Still : Session → CallResult → Type 0
Still d x = (why : Refusal) → x.answer ≡ Err why → x.session ≡ d

accepted_still : (d : Session) (x : CallResult) → x.answer ≡ accepted → Still d x
accepted_still d x a why e = absurd (refused_not why (sym e ∙ a))

then_still : (a : Answer) (d : Session) (x : CallResult) → Still d x → Still d (if_accepted a d x)
then_still (Ok u) d x h = h
then_still (Err w) d x h = λ why e. refl

choose_still : (t : Bool) (d : Session) (x y : CallResult) → Still d x → Still d y → Still d (choose t x y)
choose_still true d x y h g = h
choose_still false d x y h g = g

sound_still : (d : Session) (x : CallResult) → Still d x → Still d (if_sound d x)
sound_still d x h = then_still (soundness d.state.machine (length d.state.memory) (capacity (length d.log)) d.standing d.total) d x h

moved_still : (d : Session) (s : Step) (was v n : ℕ) → Still d (moved d s was v n)
moved_still d s was v n = choose_still (both (intact d.state.machine.model s) (eqb (present s d.state) was)) d _ _ (accepted_still d _ refl) (λ why e. refl)

correct_still : (c : Correction) (d : Session) → Still d (corrected c d)
unfolding corrected
correct_still c d = then_still (correction_answer (capacity (length d.log)) d.state d.standing c) d _ (accepted_still d _ refl)

called_still : (c : Call) (d : Session) → Still d (called c d)
unfolding undo_of redo_of
called_still (Byte address v) d = correct_still (byte_at address v) d
called_still (Pair p v) d = correct_still (pair_to p v) d
called_still (Out v) d = correct_still (out_to v) d
called_still Undo d = choose_still (eqb d.standing 0) d (unchanged d NothingToMove) _ (λ why e. refl) (moved_still d _ _ _ _)
called_still Redo d = choose_still (ltb d.standing d.total) d _ (unchanged d NothingToMove) (moved_still d _ _ _ _) (λ why e. refl)

pub still : (c : Call) (d : Session) (why : Refusal) → (journal_call c d).answer ≡ Err why → (journal_call c d).session ≡ d
unfolding journal_call
still c d = sound_still d (called c d) (called_still c d)
