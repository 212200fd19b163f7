-- What is claimed of the correction log beyond the calls' contracts.
use Rattle.std.specs.Prelude.{ℕ, ◌≡◌, List, [], ◌∷◌, reverse, Err}
use Rattle.numbers.specs.declared.Refusal.{Refusal}
use Rattle.numbers.specs.Numbers.{Answer, accepted, number_of}
use Rattle.spectrum.specs.State.{State}
use Rattle.z80file.specs.Clean.{ReadGives}
use Rattle.session.specs.Session.{Session, started}
use Rattle.corrections.specs.Corrections.{Correction, make}
use Rattle.five_calls.specs.declared.Call.{Call}
use Rattle.journal.specs.Journal.{journal_call, open_of, scs_open_of}
use Rattle.claim.specs.History.{made}
use Rattle.claim.specs.Claim.{ValidStart, TypedCalls, run_after, run_answers, ClaimOf}
use Rattle.claim.specs.WrongCalls.{always_refuses, alters_nothing, undoes_once, invents_counts, redoes_nothing}

-- corrections made from the first of the list on
abbrev pub afresh : State → List Correction → State
afresh w [] = w
afresh w (c ∷ cs) = afresh (make c w) cs

-- of every answer of a list
abbrev pub NoneIs28Or29 : List Answer → Type 0
NoneIs28Or29 [] = Unit {0}
NoneIs28Or29 (a ∷ more) = (number_of a ≡ 28 → ⊥) × (number_of a ≡ 29 → ⊥) × NoneIs28Or29 more

pub record Theorems : Type 0 where
  -- demand 3, of the calls as they are defined, which `journal::call_on` equals
  pub claim : ClaimOf journal_call
  -- "with the standing corrections made afresh in order": the head of the applied ones is the last
  pub first_to_last : (w : State) (cs : List Correction) → afresh w (reverse cs) ≡ made w cs
  -- "The other calls change nothing when refused": machine, memory, log and both numbers, in all five calls and on every input
  pub still : (c : Call) (d : Session) (why : Refusal) → (journal_call c d).answer ≡ Err why → (journal_call c d).session ≡ d
  -- what a list of calls leaves is valid and a start again
  pub start_after : (start : State) (log : List ℕ) → ValidStart start → (calls : List Call) → TypedCalls calls
      → ValidStart (run_after journal_call (started start log) calls).state
  -- "An accepted read of a Spectrum file gives a valid machine .. so an opened file is a start": a valid machine, a clean memory of 131,072 bytes
  pub open_start : (file : List ℕ) (n size : ℕ) → (open_of file n size).answer ≡ accepted
      → ReadGives (open_of file n size).session.state.machine (open_of file n size).session.state.memory n
  -- and so is an opened SCS file
  pub scs_open_start : (file : List ℕ) (n size : ℕ) → (scs_open_of file n size).answer ≡ accepted
      → ReadGives (scs_open_of file n size).session.state.machine (scs_open_of file n size).session.state.memory n
  -- "28 and 29 never come in such a run"
  pub never_28_29 : (start : State) (log : List ℕ) → ValidStart start → (calls : List Call) → TypedCalls calls
      → NoneIs28Or29 (run_answers journal_call (started start log) calls)
  -- the empty versions of demand 3 do not meet it
  pub refuted_refuses : ClaimOf always_refuses → ⊥
  pub refuted_alters_nothing : ClaimOf alters_nothing → ⊥
  pub refuted_undoes_once : ClaimOf undoes_once → ⊥
  pub refuted_counts : ClaimOf invents_counts → ⊥
  pub refuted_redo : ClaimOf redoes_nothing → ⊥
