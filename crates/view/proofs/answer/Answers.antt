use Rattle.view.proofs.ViewParts.{view_20, view_21, view_31, view_30, view_0}
use Rattle.view.proofs.answer.Goals as goal

pub returns-then-area-ne131072 : goal.returns-then-area-ne131072
returns-then-area-ne131072 c = search view_21

pub returns-then-rom-rom_length : goal.returns-then-rom-rom_length
returns-then-rom-rom_length c = search view_31

pub returns-then-has_page : goal.returns-then-has_page
returns-then-has_page c = search view_0

pub returns-then-valid : goal.returns-then-valid
returns-then-valid c = search view_30

pub returns : goal.returns
returns c = search view_20
