use Rattle.view_bytes.proofs.ViewSteps.{show_none, show_area, show_rom, show_refused}
use Rattle.view_bytes.proofs.view.Goals as goal

pub returns-in-Nowhere : goal.returns-in-Nowhere
returns-in-Nowhere c = search show_none

pub returns-in-InArea : goal.returns-in-InArea
returns-in-InArea c = search show_area

pub returns-in-InRom : goal.returns-in-InRom
returns-in-InRom c = search show_rom

pub returns : goal.returns
returns c = search show_refused
