use native.Mathlib.Omega.{arith}
use Rattle.server_files.proofs.Opened.{file_serves}
use Rattle.server_files.proofs.serve_file.Goals as goal

pub returns : goal.returns
returns c = let file = c.shared_slice_known-1.given in
    file_serves _ _ _ _ _ _ _ _ _ _ _ _ _ (λ j. omega (arith, file j)) c.snap_z80_read-answer.ensures c.serve.ensures
