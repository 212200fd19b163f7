-- The calls of the journal over bytes, at each return of the code.
use Prim.Native.Nat.{ℕ}
use native.Mathlib.Omega.{arith}
use mathlib.Core.Path.{◌≡◌, refl, ap, ◌∙◌}
use mathlib.Core.Bool.{true, false}
use mathlib.Core.List.{List, ◌++◌, append-nil}
use lib.ListN.{length, drop, drop_of_length-le}
use Rattle.std.specs.Prelude.{Err}
use Rattle.spectrum.specs.declared.Machine.{Machine}
use Rattle.numbers.specs.declared.Refusal.TheVariants.{InvalidMachine}
use Rattle.numbers.specs.Numbers.{number_of}
use Rattle.header_canonical.specs.declared.DecodedHeader.{DecodedHeader}
use Rattle.header_write.specs.Writing.{header_of}
use Rattle.header_canonical.specs.Canonical.{decoded_of}
use Rattle.session.specs.declared.Done.{Done}
use Rattle.five_calls.specs.declared.Call.{Call}
use Rattle.session.specs.Session.{CallResult, session_on, result_of}
use Rattle.journal.specs.Journal.{journal_call}
use Rattle.journal_bytes.specs.Calls.{buffers, answered_by, over_bytes, snap_call, CallLeaves}
use Rattle.journal_bytes.specs.Inner.{PutBack}

pub header_back : (m : Machine) (head made : List ℕ) → length head ≡ 86 → made ≡ header_of m ++ drop 86 head → made ≡ header_of m
header_back m head made l e = e ∙ ap (λ (x : List ℕ). header_of m ++ x) (drop_of_length-le head {i = 86} (omega arith)) ∙ append-nil (header_of m)

module _ (c : Call) (head area log : List ℕ) (s t : ℕ) (k : DecodedHeader) (e : k ≡ decoded_of head) where
  pub call_refused : (r : ℕ) → k.canonical ≡ false → r ≡ number_of (Err InvalidMachine)
      → CallLeaves (snap_call c (buffers head area log s t)) r (buffers head area log s t)
  unfolding over_bytes
  call_refused r h q = rw (← e, h) (record { answer = q; left = refl })

  pub call_leaves : (d : Done) (r : ℕ) (head' area' log' : List ℕ) (s' t' : ℕ) → k.canonical ≡ true
      → result_of d area' log' ≡ journal_call c (session_on k.machine area log (record { standing = s; total = t })) → PutBack d r head' s' t'
      → CallLeaves (snap_call c (buffers head area log s t)) r (buffers head' area' log' s' t')
  unfolding over_bytes
  call_leaves d r head' area' log' s' t' h q p =
      rw (← e, h)
      (record {
        answer = p.answer ∙ ap (λ (x : CallResult). number_of x.answer) q;
        left = (λ i. buffers (p.header i) area' log' (p.standing i) (p.total i)) ∙ ap (λ (x : CallResult). (answered_by x).left) q;
      })
