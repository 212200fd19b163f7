-- P1 to P12: packing's examples, which are proved in its crate, and the frame clock's.
use mathlib.Core.Path.{◌≡◌, refl}
use mathlib.Core.List.{List, [], ◌∷◌, ◌++◌, map}
use Rattle.packed.specs.Packed.Examples as P
use Rattle.pages.specs.declared.Model.TheVariants.{K48}
use Rattle.z80file.specs.Cases.{Case, packing, clock, found, case_computed, case_expected, case_table}

with_packing : (xs : List P.Example) (rest : List Case) → map P.computed xs ≡ map P.expected xs → map case_computed rest ≡ map case_expected rest
    → map case_computed (map packing xs ++ rest) ≡ map case_expected (map packing xs ++ rest)
with_packing [] rest e f = f
with_packing (x ∷ xs) rest e f =
    let h : P.computed x ≡ P.expected x = cc in
    let t : map P.computed xs ≡ map P.expected xs = cc in
    (λ k. found (h k) ∷ with_packing xs rest t f k)

pub cases : map case_computed case_table ≡ map case_expected case_table
unfolding case_table
cases = with_packing P.table (clock K48 0 2 69887 ∷ clock K48 100 0 34843 ∷ []) P.examples refl
