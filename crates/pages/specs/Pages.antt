-- Document 01, "The machine and the area": which RAM page has which block number, which a machine owns, and where an address leads.
use Rattle.std.specs.Prelude.{ℕ, ◌-◌, ◌*◌, ◌%◌, Bool, true, false, List, [], ◌∷◌, take, drop, eqb, ltb}
use Rattle.slices.specs.Choose.{choose}
use Rattle.pages.specs.declared.Model.{Model}
use Rattle.pages.specs.declared.Model.TheVariants.{K48, K128}
use Rattle.pages.specs.declared.Slot.{Slot}
use Rattle.pages.specs.declared.Place.{Place}
use Rattle.pages.specs.declared.Place.TheVariants.{Rom, Ram}

-- a block number and the RAM page that it stands for
abbrev pub slot : ℕ → ℕ → Slot
slot n p = record { number = n; page = p }

-- THE ONE TABLE of block numbers and pages, "by ascending block number":
-- "48K blocks: 8 is RAM page 5, 4 is 2, 5 is 0. 128K blocks 3 to 10 are RAM pages 0 to 7."
abbrev pub slots : Model → List Slot
slots K48 = slot 4 2 ∷ slot 5 0 ∷ slot 8 5 ∷ []
slots K128 = slot 3 0 ∷ slot 4 1 ∷ slot 5 2 ∷ slot 6 3 ∷ slot 7 4 ∷ slot 8 5 ∷ slot 9 6 ∷ slot 10 7 ∷ []

-- "A 48K machine owns pages 5, 2 and 0. A 128K machine owns all eight": the pages of the table
abbrev pub page_among : List Slot → ℕ → Bool
page_among [] page = false
page_among (x ∷ more) page = choose (eqb x.page page) true (page_among more page)

abbrev pub owned : Model → ℕ → Bool
owned model page = page_among (slots model) page

-- the page at C000: 0 in a 48K machine, "the last OUT to 7FFD modulo 8" in a 128K machine
abbrev pub top_page : Model → ℕ → ℕ
top_page K48 out = 0
top_page K128 out = out % 8

-- below 4000 the ROM; 4000-7FFF page 5; 8000-BFFF page 2; C000-FFFF the page at C000
abbrev pub place_of : Model → ℕ → ℕ → Place
place_of model out address =
    choose (ltb address 0x4000) Rom
    (choose (ltb address 0x8000) (Ram 5 (address - 0x4000))
    (choose (ltb address 0xC000) (Ram 2 (address - 0x8000))
    (Ram (top_page model out) (address - 0xC000))))

-- "RAM pages 0 to 7 lie in the area in that order": a page's 16,384 bytes
abbrev pub page_in : List ℕ → ℕ → List ℕ
page_in area page = take 16384 (drop (page * 16384) area)
