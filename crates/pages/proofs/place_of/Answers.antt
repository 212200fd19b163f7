use Rattle.pages.proofs.PageSteps.{place_rom, place_5, place_2, place_top}
use Rattle.pages.proofs.place_of.Goals as goal

pub returns-then-a-lt16384 : goal.returns-then-a-lt16384
returns-then-a-lt16384 c = search place_rom

pub returns-then-a-lt32768 : goal.returns-then-a-lt32768
returns-then-a-lt32768 c = search place_5

pub returns-then-a-lt49152 : goal.returns-then-a-lt49152
returns-then-a-lt49152 c = search place_2

pub returns : goal.returns
returns c = search place_top
