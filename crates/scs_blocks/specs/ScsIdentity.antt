-- What an SCS file begins with: "SamSnap!", and the number of its hardware.
use Rattle.std.specs.Prelude.{ℕ, List, [], ◌∷◌}
use Rattle.pages.specs.declared.Model.{Model}
use Rattle.pages.specs.declared.Model.TheVariants.{K48, K128}

-- "SamSnap!"
abbrev pub sam_snap : List ℕ
sam_snap = 0x53 ∷ 0x61 ∷ 0x6D ∷ 0x53 ∷ 0x6E ∷ 0x61 ∷ 0x70 ∷ 0x21 ∷ []

-- "hardware 1 is 48K, 2 is 128K"
abbrev pub hardware_of : Model → ℕ
hardware_of K48 = 1
hardware_of K128 = 2
