-- What reading a machine off a header asks of the slice, for a function that only proved code calls: a reviewer may skip this file.
use Rattle.std.specs.Prelude.{ℕ, ◌≤◌, ◌≡◌, List, length}
use Rattle.pages.specs.declared.Model.{Model}
use Rattle.pages.specs.declared.Model.TheVariants.{K128}
use Rattle.header.specs.declared.Version.{Version}
use Rattle.header.specs.Heads.{header_length}

-- the header is there; a 128K machine has the later versions' bytes too
pub record Readable (version : Version) (model : Model) (s : List ℕ) : Type 0 where
  pub long : header_length version ≤ length s
  pub later : model ≡ K128 → 55 ≤ length s
