-- What ties the page that `view::view` returns to what `snap_view` says of it.
use Rattle.std.specs.Prelude.{ℕ, ◌≡◌, List, length, take, drop, eqb}
use Rattle.slices.specs.Choose.{choose}
use Rattle.view_bytes.specs.Views.{show_of}
use Rattle.view_exports.specs.Viewed.{viewed_of}

pub record Theorems : Type 0 where
  -- "A view gives the caller a page as a part of the ROM or of the area": the part is the bytes that `snap_view` points at, on every input;
  -- "Refused, it gives an empty part"
  pub shown_bytes : (head rom area : List ℕ) (page : ℕ)
      → viewed_of head rom area page
      ≡ take (show_of head (length rom) (length area) page).size
      (drop (show_of head (length rom) (length area) page).start (choose (eqb (show_of head (length rom) (length area) page).rom 1) rom area))
