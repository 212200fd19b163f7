-- What is claimed of explaining beyond the functions' contracts.
use Rattle.std.specs.Prelude.{ℕ, ◌≡◌, List}
use Rattle.numbers.specs.Numbers.{number_of}
use Rattle.numbers.specs.Faults.{NamedFigures}
use Rattle.z80read.specs.Read.{read_of}
use Rattle.z80explain.specs.Explain.{explain_of}

pub record Theorems : Type 0 where
  -- "reading into a right-sized area gives this number", and this place
  pub explained_answer : (s : List ℕ) → (explain_of s).answer ≡ (read_of s 131072).answer
  pub explained_place : (s : List ℕ) → (explain_of s).place ≡ (read_of s 131072).place
  -- the block and the figures that are told with a number
  pub explained_figures : (s : List ℕ) → NamedFigures (number_of (explain_of s).answer) (explain_of s).block (explain_of s).found (explain_of s).due
