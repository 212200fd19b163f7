use Rattle.view.proofs.ViewParts.{page_ram, page_rom}
use Rattle.view.proofs.has_page.Goals as goal

pub returns-then-p-lt8 : goal.returns-then-p-lt8
returns-then-p-lt8 c = search page_ram

pub returns : goal.returns
returns c = search page_rom
