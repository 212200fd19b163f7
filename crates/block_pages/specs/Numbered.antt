-- The RAM page of a block number, whether all are there, and how many are due: by the one table of `pages`; how many were seen.
use Rattle.std.specs.Prelude.{ℕ, ◌+◌, Bool, true, false, List, [], ◌∷◌, length, get_or, eqb}
use Rattle.slices.specs.Choose.{choose, both}
use Rattle.pages.specs.declared.Model.{Model}
use Rattle.pages.specs.declared.Slot.{Slot}
use Rattle.pages.specs.Pages.{slots}
use Rattle.block_pages.specs.declared.Page.{Page}
use Rattle.block_pages.specs.declared.Page.TheVariants.{At, NoPage}

-- the page of a block number, by the table
abbrev pub page_numbered : List Slot → ℕ → Page
page_numbered [] n = NoPage
page_numbered (x ∷ more) n = choose (eqb x.number n) (At x.page) (page_numbered more n)

unfoldable pub page_of : Model → ℕ → Page
page_of model n = page_numbered (slots model) n

-- "All must be there": of eight flags, those of the pages in the table
abbrev pub all_seen : List Slot → List Bool → Bool
all_seen [] seen = true
all_seen (x ∷ more) seen = both (get_or seen x.page false) (all_seen more seen)

unfoldable pub all_there : Model → List Bool → Bool
all_there model seen = all_seen (slots model) seen

-- how many of the flags are set: no page comes twice, so as many blocks were good
abbrev pub pages_seen : List Bool → ℕ
pages_seen [] = 0
pages_seen (there ∷ more) = choose there 1 0 + pages_seen more

-- how many blocks are due
abbrev pub pages_due : Model → ℕ
pages_due model = length (slots model)
