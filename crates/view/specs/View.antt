-- "A view gives the caller a page as a part of the ROM or of the area: 0-7 RAM, 8 the first 16K of ROM, 9 the second (128K only). Refused, it
-- gives an empty part, and a second call gives the number."
use Rattle.std.specs.Prelude.{ℕ, ◌-◌, ◌*◌, Bool, not, List, [], length, take, drop, ltb, eqb, Ok, Err}
use Rattle.slices.specs.Choose.{choose}
use Rattle.spectrum.specs.declared.Machine.{Machine}
use Rattle.pages.specs.declared.Model.{Model}
use Rattle.pages.specs.declared.Model.TheVariants.{K48, K128}
use Rattle.numbers.specs.declared.Refusal.TheVariants.{InvalidMachine, MemoryLength, RomLength, PageNotOwned}
use Rattle.numbers.specs.Numbers.{Answer, accepted, refuse}
use Rattle.pages.specs.Pages.{owned}
use Rattle.spectrum.specs.Valid.{valid_of}
use Rattle.view.specs.declared.Part.{Part}
use Rattle.view.specs.declared.Part.TheVariants.{Nowhere, InArea, InRom}

-- "ROM not 16,384 (48K) or 32,768 (128K) bytes"
abbrev pub rom_length : Model → ℕ
rom_length K48 = 16384
rom_length K128 = 32768

-- pages 8 and, on a 128K machine, 9
abbrev pub rom_pages : Model → ℕ
rom_pages K48 = 9
rom_pages K128 = 10

abbrev pub has_page : Model → ℕ → Bool
has_page model page = choose (ltb page 8) (owned model page) (ltb page (rom_pages model))

-- "View: 20, 21, 31, 30"
unfoldable pub view_answer : Machine → ℕ → ℕ → ℕ → Answer
view_answer m rom area page =
    refuse (not (valid_of m)) InvalidMachine
    (refuse (not (eqb area 131072)) MemoryLength
    (refuse (not (eqb rom (rom_length m.model))) RomLength
    (refuse (not (has_page m.model page)) PageNotOwned accepted)))

-- where a page lies, and at which byte it starts
abbrev pub part_for : Answer → ℕ → Part
part_for (Err why) page = Nowhere
part_for (Ok u) page = choose (ltb page 8) (InArea (page * 16384)) (InRom ((page - 8) * 16384))

-- the 16,384 bytes of a part
abbrev pub part_bytes : Part → List ℕ → List ℕ → List ℕ
part_bytes Nowhere rom area = []
part_bytes (InArea start) rom area = take 16384 (drop start area)
part_bytes (InRom start) rom area = take 16384 (drop start rom)

abbrev pub view_of : Machine → List ℕ → List ℕ → ℕ → List ℕ
view_of m rom area page = part_bytes (part_for (view_answer m (length rom) (length area) page) page) rom area
