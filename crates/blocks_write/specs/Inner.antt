-- Contracts of private functions, by the cases of their answers: a reviewer may skip this file.
use Rattle.std.specs.Prelude.{ℕ, ◌<◌, ◌≡◌, get_or}
use Rattle.pages.specs.declared.Model.{Model}
use Rattle.pages.specs.declared.Slot.{Slot}
use Rattle.pages.specs.Pages.{slot, slots}

-- the slot at i, and a page of the area
pub record SlotAt (model : Model) (i : ℕ) (r : Slot) : Type 0 where
  pub which : r ≡ get_or (slots model) i (slot 0 0)
  pub page_small : r.page < 8
