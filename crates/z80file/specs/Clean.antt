-- A memory "whose unused pages are zero", and what an accepted read gives.
use Rattle.std.specs.Prelude.{ℕ, ◌/◌, ◌<◌, ◌≡◌, true, false, List, length, get_or}
use Rattle.spectrum.specs.declared.Machine.{Machine}
use Rattle.pages.specs.declared.Model.{Model}
use Rattle.pages.specs.Pages.{owned}
use Rattle.spectrum.specs.Valid.{valid_of}

-- 131,072 bytes; each byte of a page that the machine does not own is 0
pub record Clean (model : Model) (area : List ℕ) : Type 0 where
  pub long : length area ≡ 131072
  pub clear : (i : ℕ) → i < 131072 → owned model (i / 16384) ≡ false → get_or area i 0 ≡ 0

-- what an accepted read gives: a valid machine and a clean memory, so that it can be corrected and written
pub record ReadGives (m : Machine) (area : List ℕ) (n : ℕ) : Type 0 where
  pub whole_area : n ≡ 131072
  pub valid : valid_of m ≡ true
  pub clean : Clean m.model area
