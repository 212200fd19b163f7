-- "each packed if that is shorter than 16,384 bytes, else FFFF"
use Rattle.std.specs.Prelude.{ℕ, ◌/◌, ◌%◌, List, ◌∷◌, length, ltb}
use Rattle.slices.specs.Choose.{choose}
use Rattle.packed.specs.Packed.{packed}

-- a block: its length, its number, the page packed; or FFFF, its number, the page as it is
unfoldable pub block_for : ℕ → List ℕ → List ℕ
block_for number page =
    choose (ltb (length (packed page)) 16384)
    (length (packed page) % 256 ∷ length (packed page) / 256 ∷ number ∷ packed page)
    (255 ∷ 255 ∷ number ∷ page)
