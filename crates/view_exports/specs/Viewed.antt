-- What the test export gives: the page that a view returns, as bytes.
use Rattle.std.specs.Prelude.{ℕ, ◌-◌, List, [], ◌++◌, length, replicate, leb}
use Rattle.slices.specs.Choose.{choose}
use Rattle.header_canonical.specs.declared.DecodedHeader.{DecodedHeader}
use Rattle.header_canonical.specs.Canonical.{decoded_of}
use Rattle.view.specs.View.{view_of}

abbrev pub view_decoded : DecodedHeader → List ℕ → List ℕ → ℕ → List ℕ
view_decoded t rom area page = choose t.canonical (view_of t.machine rom area page) []

-- the page of the machine whose header this is; nothing where it is refused
unfoldable pub viewed_of : List ℕ → List ℕ → List ℕ → ℕ → List ℕ
viewed_of head rom area page = view_decoded (decoded_of head) rom area page

-- bytes in n bytes, and zeros after them; where they do not fit, zeros
abbrev pub page_into : List ℕ → ℕ → List ℕ
page_into xs n = choose (leb (length xs) n) (xs ++ replicate (n - length xs) 0) (replicate n 0)
