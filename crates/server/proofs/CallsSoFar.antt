-- The loop over the calls: what is left of them, made on the buffers as they are, gives what all of them give on the first buffers.
use Prim.Native.Nat.{ℕ, zero, suc, ◌+◌, ◌-◌, ◌≤◌, ◌<◌}
use mathlib.Core.Path.{◌≡◌, refl, sym, ap, subst, ◌∙◌}
use mathlib.Core.Bool.{Bool, true, false}
use mathlib.Core.List.{List, [], ◌∷◌, ◌++◌, append-nil}
use native.Mathlib.Omega.{arith}
use native.Mathlib.Numerals.{add-one}
use lib.ListN.{length, get_or, set, take, replicate, length-set}
use lib.Seq.{take-suc-set, append_snoc}
use Rattle.slices.specs.Choose.{choose}
use Rattle.spectrum.specs.declared.Machine.{Machine}
use Rattle.header_write.specs.Writing.{header_of, HeaderFor}
use Rattle.header_canonical.specs.Canonical.{decoded_of, bad_header}
use Rattle.header_canonical.proofs.Canonical.{decoded_is}
use Rattle.five_calls.specs.declared.Call.{Call}
use Rattle.spectrum.specs.State.{State}
use Rattle.claim.specs.History.{history_of}
use Rattle.session.specs.Session.{Session, CallResult}
use Rattle.claim.specs.Claim.{ValidStart}
use Rattle.call_list.specs.CallList.{call_at, calls_from, call_count, calls_in}
use Rattle.call_list.proofs.Decode.{calls_more, typed_all}
use Rattle.numbers.proofs.Numbers.{number_small}
use Rattle.journal_bytes.specs.Calls.{Buffers, buffers, Answered, session_for, answered_by, over_bytes, snap_call, CallLeaves}
use Rattle.server.specs.Server.{run_buffers, run_numbers, started_buffers, HistoryBytes, RanBytes, Serves}
use Rattle.server.proofs.ByteClaim.{byte_claim}

-- every number answered is a byte
answer_small : (f : Session → CallResult) (b : Buffers) → (over_bytes f b).answer < 256
unfolding over_bytes
answer_small f b = go (decoded_of b.header).canonical
  where
    made : CallResult
    made = f (session_for (decoded_of b.header).machine b)

    go : (t : Bool) → (choose t (answered_by made) (record { answer = bad_header; left = b })).answer < 256
    go true = number_small made.answer
    go false = omega arith

pub number_fits : (f : Session → CallResult) (b : Buffers) (r : ℕ) (x : Buffers) → CallLeaves (over_bytes f b) r x → r < 256
number_fits f b r x e = omega (arith, e.answer, answer_small f b)

pub record CallsSoFar (calls : List ℕ) (n : ℕ) (x₀ x : Buffers) (numbers₀ numbers : List ℕ) (i : ℕ) : Type 0 where
  pub reach : i ≤ n
  pub fits : n ≤ length numbers₀
  pub long : length numbers ≡ length numbers₀
  pub rest : run_buffers snap_call x (calls_from calls i (n - i)) ≡ run_buffers snap_call x₀ (calls_from calls 0 n)
  pub said : take i numbers ++ run_numbers snap_call x (calls_from calls i (n - i)) ≡ run_numbers snap_call x₀ (calls_from calls 0 n)

pub calls_begin : (calls : List ℕ) (n : ℕ) (x : Buffers) (numbers : List ℕ) → n ≤ length numbers → CallsSoFar calls n x x numbers numbers 0
calls_begin calls n x numbers h =
    let q : n - 0 ≡ n = omega arith in
    record { reach = omega arith; fits = h; long = refl; rest = rw q; said = rw q }

pub calls_go_on : (calls : List ℕ) (n : ℕ) (x₀ x : Buffers) (numbers₀ numbers : List ℕ) (i : ℕ) (call : Call) (r : ℕ) (x' : Buffers)
    → CallsSoFar calls n x₀ x numbers₀ numbers i → i < n → call ≡ call_at calls i → CallLeaves (snap_call call x) r x'
    → CallsSoFar calls n x₀ x' numbers₀ (set numbers i r) (i + 1)
calls_go_on calls n x₀ x numbers₀ numbers i call r x' g lt ec e =
    let left = calls_from calls (i + 1) (n - (i + 1)) in
    let e2 : record { answer = r; left = x' } ≡ snap_call (call_at calls i) x = (λ k. record { answer = e.answer k; left = e.left k }) ∙ ap (λ (c : Call). snap_call c x) ec in
    let more = run_numbers snap_call x' left in
    record {
      reach = omega arith;
      fits = g.fits;
      long = length-set numbers i r ∙ g.long;
      rest = ap (λ (y : Answered). run_buffers snap_call y.left left) e2 ∙ sym (ap (run_buffers snap_call x) (calls_more calls i n lt)) ∙ g.rest;
      said =
          ap (λ (k : ℕ). take k (set numbers i r) ++ more) (add-one i)
          ∙ ap (λ (z : List ℕ). z ++ more) (take-suc-set numbers i r (omega arith))
          ∙ append_snoc (take i numbers) r more
          ∙ ap (λ (y : Answered). take i numbers ++ (y.answer ∷ run_numbers snap_call y.left left)) e2
          ∙ sym (ap (λ (z : List Call). take i numbers ++ run_numbers snap_call x z) (calls_more calls i n lt))
          ∙ g.said;
    }

pub going_done : (calls : List ℕ) (n : ℕ) (x₀ x : Buffers) (numbers₀ numbers numbers' : List ℕ) (i : ℕ)
    → CallsSoFar calls n x₀ x numbers₀ numbers i → n ≤ i → n ≡ call_count calls (length numbers₀)
    → numbers' ≡ take n numbers ++ replicate (length numbers - n) 0 → RanBytes calls (length numbers₀) x₀ x numbers'
going_done calls n x₀ x numbers₀ numbers numbers' i g h en e =
    let z : n - i ≡ 0 = omega arith in
    let q : i ≡ n = omega arith in
    let a : take n numbers ++ [] ≡ run_numbers snap_call x₀ (calls_from calls 0 n) = rw (z, q) at g.said in
    record {
      left = rw (← en) (rw z at g.rest);
      said = rw (← en) (e ∙ rw (g.long, ← a, append-nil));
    }

-- bytes that are no valid machine's header are not taken
none_decodes : (head : List ℕ) → ((i : ℕ) → get_or head i 0 < 256) → ((m : Machine) → HeaderFor m head → ⊥) → (decoded_of head).canonical ≡ false
none_decodes head hb none = go (decoded_of head).canonical refl
  where
    go : (t : Bool) → (decoded_of head).canonical ≡ t → (decoded_of head).canonical ≡ false
    go true e = absurd (none _ (decoded_is head hb e))
    go false e = e

module _ (x : Buffers) (h : (decoded_of x.header).canonical ≡ false) where
  call_bad_header : (c : Call) → snap_call c x ≡ record { answer = bad_header; left = x }
  unfolding over_bytes
  call_bad_header c = rw h

  buffers_other : (cs : List Call) → run_buffers snap_call x cs ≡ x
  buffers_other [] = refl
  buffers_other (c ∷ cs) = ap (λ (y : Answered). run_buffers snap_call y.left cs) (call_bad_header c) ∙ buffers_other cs

  numbers_other : (b : List ℕ) (i k : ℕ) → run_numbers snap_call x (calls_from b i k) ≡ replicate k bad_header
  numbers_other b i zero = refl
  numbers_other b i (suc k) =
      ap (λ (y : Answered). y.answer ∷ run_numbers snap_call y.left (calls_from b (suc i) k)) (call_bad_header (call_at b i)) ∙ ap (λ (l : List ℕ). bad_header ∷ l) (numbers_other b (suc i) k)

-- the promise of `serve`, from what its loop leaves
pub serves : (head area log zeros calls : List ℕ) (room r s t : ℕ) (x : Buffers) (numbers : List ℕ)
    → ((i : ℕ) → get_or head i 0 < 256) → ((i : ℕ) → get_or area i 0 < 256) → ((i : ℕ) → get_or calls i 0 < 256)
    → zeros ≡ replicate (length log) 0 → s ≡ 0 → t ≡ 0 → r ≡ call_count calls room
    → RanBytes calls room (buffers head area zeros s t) x numbers → Serves head area log calls room r x numbers
serves head area log zeros calls room r s t x numbers hb ab cb ez es et er g₀ =
    let cs = calls_in calls room in
    let left = room - call_count calls room in
    let d : buffers head area zeros s t ≡ started_buffers head area (length log) = λ k. buffers head area (ez k) (es k) (et k) in
    let g : RanBytes calls room (started_buffers head area (length log)) x numbers = subst (λ (y : Buffers). RanBytes calls room y x numbers) d g₀ in
    record {
      count = er;
      ran = g;
      claim = λ m f a.
          let start : State = record { machine = m; memory = area } in
          let fit : ValidStart start = record { valid = f.valid; area = a; typed = f.typed; bytes = ab } in
          let q = byte_claim start (length log) fit cs (typed_all calls cb 0 (call_count calls room)) in
          let h : started_buffers head area (length log) ≡ started_buffers (header_of m) area (length log) = λ k. started_buffers (f.is k) area (length log) in
          record {
            left = subst (HistoryBytes start (history_of start (length log) cs)) (sym (g.left ∙ ap (λ (y : Buffers). run_buffers snap_call y cs) h)) q.left;
            said = g.said ∙ ap (λ (y : Buffers). run_numbers snap_call y cs ++ replicate left 0) h ∙ ap (λ (z : List ℕ). z ++ replicate left 0) q.numbers;
          };
      not_ours = λ none.
          let v = none_decodes head hb none in
          record {
            left = g.left ∙ buffers_other (started_buffers head area (length log)) v cs;
            said = g.said ∙ ap (λ (z : List ℕ). z ++ replicate left 0) (numbers_other (started_buffers head area (length log)) v calls 0 (call_count calls room));
          };
    }
