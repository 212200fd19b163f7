-- Bytes written over others.
use Rattle.std.specs.Prelude.{ℕ, ◌+◌, List, ◌++◌, length, take, drop}

-- src over dst from at on
unfoldable pub put : List ℕ → ℕ → List ℕ → List ℕ
put dst at src = take at dst ++ (src ++ drop (at + length src) dst)
