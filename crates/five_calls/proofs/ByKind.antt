-- A call by its kind.
use Prim.Native.Nat.{ℕ}
use mathlib.Core.Path.{◌≡◌}
use Rattle.session.specs.Session.{Session, CallResult}
use Rattle.corrections.specs.Corrections.{byte_at, pair_to, out_to, corrected}
use Rattle.undo.specs.Undo.{undo_of, redo_of}
use Rattle.five_calls.specs.declared.Call.{Call}
use Rattle.five_calls.specs.declared.Call.TheVariants.{Byte, Pair, Out, Undo, Redo}
use Rattle.five_calls.specs.FiveCalls.{called}

module _ (d : Session) (call : Call) (x : CallResult) where
  pub byte_call : (a v : ℕ) → call ≡ Byte a v → x ≡ corrected (byte_at a v) d → x ≡ called call d
  byte_call a v e q = rw e q

  pub pair_call : (p v : ℕ) → call ≡ Pair p v → x ≡ corrected (pair_to p v) d → x ≡ called call d
  pair_call p v e q = rw e q

  pub out_call : (v : ℕ) → call ≡ Out v → x ≡ corrected (out_to v) d → x ≡ called call d
  out_call v e q = rw e q

  pub undo_call : call ≡ Undo → x ≡ undo_of d → x ≡ called call d
  undo_call e q = rw e q

  pub redo_call : call ≡ Redo → x ≡ redo_of d → x ≡ called call d
  redo_call e q = rw e q
