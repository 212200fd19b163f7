-- Zero bytes.
use Rattle.std.specs.Prelude.{ℕ, List, replicate}

-- n zero bytes; shut, so that no proof writes 131,072 of them out
unfoldable pub blank : ℕ → List ℕ
blank n = replicate n 0
