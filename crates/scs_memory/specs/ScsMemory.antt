-- The Memory block of an SCS file: "Memory is 4000 upwards in 48K, RAM pages 0 to 7 in 128K."
use Rattle.std.specs.Prelude.{ℕ, List, ◌++◌}
use Rattle.slices.specs.Blank.{blank}
use Rattle.pages.specs.declared.Model.{Model}
use Rattle.pages.specs.declared.Model.TheVariants.{K48, K128}
use Rattle.pages.specs.Pages.{page_in}
use Rattle.body_v1.specs.Body.{spread}
use Rattle.scs_blocks.specs.ScsBlocks.{zero_filled}

-- how many bytes are due
abbrev pub memory_size : Model → ℕ
memory_size K48 = 49152
memory_size K128 = 131072

-- the area that a block's data give; in 48K they are spread as those of v1, into pages 5, 2 and 0 of an area of zeros
unfoldable pub scs_memory : Model → List ℕ → List ℕ
scs_memory K48 xs = spread (blank 131072) (zero_filled 49152 xs)
scs_memory K128 xs = zero_filled 131072 xs

-- the data that are written of an area
unfoldable pub scs_data : Model → List ℕ → List ℕ
scs_data K48 area = page_in area 5 ++ (page_in area 2 ++ page_in area 0)
scs_data K128 area = area
