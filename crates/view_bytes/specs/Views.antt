-- Viewing over bytes: the machine crosses as its header, 20 first.
use Rattle.std.specs.Prelude.{ℕ, ◌≡◌, List}
use Rattle.slices.specs.Choose.{choose}
use Rattle.numbers.specs.Numbers.{number_of}
use Rattle.header_canonical.specs.declared.DecodedHeader.{DecodedHeader}
use Rattle.header_canonical.specs.Canonical.{decoded_of, bad_header}
use Rattle.view.specs.declared.Part.{Part}
use Rattle.view.specs.declared.Part.TheVariants.{Nowhere, InArea, InRom}
use Rattle.view.specs.View.{view_answer, part_for}

-- a view: "*in_rom is 1 for the ROM and 0 for the area. Refused: all three are 0"
pub record Shown : Type 0 where
  pub answer : ℕ
  pub rom : ℕ
  pub start : ℕ
  pub size : ℕ

abbrev pub shown_as : ℕ → Part → Shown
shown_as n Nowhere = record { answer = n; rom = 0; start = 0; size = 0 }
shown_as n (InArea start) = record { answer = n; rom = 0; start = start; size = 16384 }
shown_as n (InRom start) = record { answer = n; rom = 1; start = start; size = 16384 }

abbrev pub show_decoded : DecodedHeader → ℕ → ℕ → ℕ → Shown
show_decoded t rom area page =
    choose t.canonical
    (shown_as (number_of (view_answer t.machine rom area page)) (part_for (view_answer t.machine rom area page) page))
    (record { answer = bad_header; rom = 0; start = 0; size = 0 })

unfoldable pub show_of : List ℕ → ℕ → ℕ → ℕ → Shown
show_of header rom area page = show_decoded (decoded_of header) rom area page

pub record Shows (x : Shown) (r i s n : ℕ) : Type 0 where
  pub answer : r ≡ x.answer
  pub rom : i ≡ x.rom
  pub start : s ≡ x.start
  pub size : n ≡ x.size
