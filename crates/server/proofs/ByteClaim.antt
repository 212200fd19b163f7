-- The claim over bytes: each call over bytes is the call by value, since a valid machine's header is taken as that machine.
use Prim.Native.Nat.{ℕ}
use mathlib.Core.Path.{◌≡◌, refl, ap, subst, ◌∙◌}
use mathlib.Core.List.{List, [], ◌∷◌, map}
use lib.ListN.{length, replicate, length-replicate}
use Rattle.numbers.specs.Numbers.{number_of}
use Rattle.header_canonical.specs.declared.DecodedHeader.{DecodedHeader}
use Rattle.header_write.specs.Writing.{header_of}
use Rattle.header_canonical.proofs.Canonical.{decoded_back}
use Rattle.five_calls.specs.declared.Call.{Call}
use Rattle.spectrum.specs.State.{State}
use Rattle.claim.specs.History.{no_history, history_after, history_answers}
use Rattle.session.specs.Session.{Session, CallResult, started}
use Rattle.journal.specs.Journal.{journal_call}
use Rattle.claim.specs.Claim.{ValidStart, TypedCalls, run_after, run_answers}
use Rattle.claim.proofs.Claim.{claim, start_after}
use Rattle.journal_bytes.specs.Calls.{Buffers, Answered, session_bytes, answered_by, on_decoded, over_bytes, snap_call}
use Rattle.server.specs.Server.{run_buffers, run_numbers, started_buffers, HistoryBytes, ByteClaimOf}

-- a call over the bytes of a session with a valid machine is the call on the session
call_is : (f : Session → CallResult) (d : Session) → ValidStart d.state → over_bytes f (session_bytes d) ≡ answered_by (f d)
unfolding over_bytes
call_is f d g =
    let m = d.state.machine in
    ap (λ (t : DecodedHeader). on_decoded t f (session_bytes d)) (decoded_back m (header_of m) (record { valid = g.valid; typed = g.typed; is = refl }))

-- every list of calls from here leaves a valid machine
abbrev StartsAfter : Session → Type 0
StartsAfter d = (calls : List Call) → TypedCalls calls → ValidStart (run_after journal_call d calls).state

run_is : (calls : List Call) (d : Session) → TypedCalls calls → StartsAfter d → run_buffers snap_call (session_bytes d) calls ≡ session_bytes (run_after journal_call d calls)
run_is [] d wide g = refl
run_is (c ∷ cs) d wide g =
    ap (λ (x : Answered). run_buffers snap_call x.left cs) (call_is (journal_call c) d (g [] tt))
    ∙ run_is cs (journal_call c d).session wide.1 (λ p w. g (c ∷ p) (wide.0, w))

numbers_are : (calls : List Call) (d : Session) → TypedCalls calls → StartsAfter d → run_numbers snap_call (session_bytes d) calls ≡ map number_of (run_answers journal_call d calls)
numbers_are [] d wide g = refl
numbers_are (c ∷ cs) d wide g =
    ap (λ (x : Answered). x.answer ∷ run_numbers snap_call x.left cs) (call_is (journal_call c) d (g [] tt))
    ∙ ap (λ (l : List ℕ). number_of (journal_call c d).answer ∷ l) (numbers_are cs (journal_call c d).session wide.1 (λ p w. g (c ∷ p) (wide.0, w)))

-- THE CLAIM, in bytes
pub byte_claim : ByteClaimOf snap_call
byte_claim start size ok calls wide =
    let fresh : List ℕ = replicate size 0 in
    let d = started start fresh in
    let ahead : StartsAfter d = start_after start fresh ok in
    let r = run_is calls d wide ahead in
    let q = claim start fresh ok calls wide in
    let long : length fresh ≡ size = length-replicate {A = ℕ} size 0 in
    record {
      left = subst (λ (k : ℕ). HistoryBytes start (history_after start k no_history calls) (run_buffers snap_call (started_buffers (header_of start.machine) start.memory size) calls)) long
          (record {
            header = ap (λ (b : Buffers). b.header) r ∙ ap (λ (w : State). header_of w.machine) q.state;
            area = ap (λ (b : Buffers). b.area) r ∙ ap (λ (w : State). w.memory) q.state;
            standing = ap (λ (b : Buffers). b.standing) r ∙ q.standing;
            total = ap (λ (b : Buffers). b.total) r ∙ q.total;
          });
      numbers = numbers_are calls d wide ahead ∙ ap (map number_of) q.answers ∙ ap (λ (k : ℕ). map number_of (history_answers start k no_history calls)) long;
    }
