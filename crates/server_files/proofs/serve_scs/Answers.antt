use native.Mathlib.Omega.{arith}
use Rattle.server_files.proofs.Opened.{scs_serves}
use Rattle.server_files.proofs.serve_scs.Goals as goal

pub returns : goal.returns
returns c = let file = c.shared_slice_known-1.given in
    scs_serves _ _ _ _ _ _ _ _ _ _ _ _ _ (λ j. omega (arith, file j)) c.snap_scs_read-read.ensures c.serve.ensures
