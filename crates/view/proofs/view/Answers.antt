use native.Mathlib.Omega.{arith}
use Rattle.view.proofs.ViewParts.{view_none, view_area, view_rom, area_inside, rom_fits}
use Rattle.view.proofs.view.Goals as goal

pub returns-in-Nowhere : goal.returns-in-Nowhere
returns-in-Nowhere c = search view_none

pub overflow_add-end : goal.overflow_add-end
overflow_add-end c = omega (arith, area_inside _ _ _ _ _ c.locate-part.ensures _ c.in-InArea.is, c.well_formed)

pub slice_bounds-result-end-in-InArea : goal.slice_bounds-result-end-in-InArea
slice_bounds-result-end-in-InArea c = search area_inside

pub returns-in-InArea : goal.returns-in-InArea
returns-in-InArea c = search view_area

pub overflow_add-end-in-InRom : goal.overflow_add-end-in-InRom
overflow_add-end-in-InRom c = omega (arith, rom_fits _ _ _ _ _ c.locate-part.ensures _ c.in-InRom.is, c.well_formed)

pub slice_bounds-result-end-in-InRom : goal.slice_bounds-result-end-in-InRom
slice_bounds-result-end-in-InRom c = search rom_fits

pub returns-in-InRom : goal.returns-in-InRom
returns-in-InRom c = search view_rom
