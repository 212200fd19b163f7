-- The examples P1 to P12 of document 01 in one table under one statement: packing's, and the frame clock's.
use Rattle.std.specs.Prelude.{ℕ, List, [], ◌∷◌, ◌++◌, map}
use Rattle.packed.specs.Packed.{Found}
use Rattle.packed.specs.Packed.Examples as P
use Rattle.pages.specs.declared.Model.{Model}
use Rattle.pages.specs.declared.Model.TheVariants.{K48}
use Rattle.clock.specs.Clock.{position_of}

-- a packing example, or a model, its low and high counter and the frame position
pub data Case : Type 0 where
  packing : P.Example → Case
  clock : Model → ℕ → ℕ → ℕ → Case

pub data Result : Type 0 where
  found : Found → Result
  position : ℕ → Result

abbrev pub case_computed : Case → Result
case_computed (packing x) = found (P.computed x)
case_computed (clock model low high p) = position (position_of model low high)

abbrev pub case_expected : Case → Result
case_expected (packing x) = found (P.expected x)
case_expected (clock model low high p) = position p

-- P1 to P11, then P12: "48K low 0, high 2 is position 69,887; low 100, high 0 is 34,843"
unfoldable pub case_table : List Case
case_table = map packing P.table ++ (clock K48 0 2 69887 ∷ clock K48 100 0 34843 ∷ [])
