-- "Then blocks by ascending block number, each packed if that is shorter than 16,384 bytes, else FFFF."
use Rattle.std.specs.Prelude.{ℕ, List, [], ◌∷◌, ◌++◌}
use Rattle.pages.specs.declared.Slot.{Slot}
use Rattle.pages.specs.Pages.{page_in}
use Rattle.block_write.specs.BlockFor.{block_for}

-- the blocks of a table's pages, in its order
unfoldable pub laid : List Slot → List ℕ → List ℕ
laid [] area = []
laid (x ∷ more) area = block_for x.number (page_in area x.page) ++ laid more area
