-- The calls of the correction log, each by its own rules, once 20, 21 and 29 are behind it.
use Rattle.session.specs.Session.{Session, CallResult}
use Rattle.corrections.specs.Corrections.{byte_at, pair_to, out_to, corrected}
use Rattle.undo.specs.Undo.{undo_of, redo_of}
use Rattle.five_calls.specs.declared.Call.{Call}
use Rattle.five_calls.specs.declared.Call.TheVariants.{Byte, Pair, Out, Undo, Redo}

abbrev pub called : Call → Session → CallResult
called (Byte address v) d = corrected (byte_at address v) d
called (Pair p v) d = corrected (pair_to p v) d
called (Out v) d = corrected (out_to v) d
called Undo d = undo_of d
called Redo d = redo_of d
