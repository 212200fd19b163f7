use Rattle.machine_bytes.proofs.Told.{place_page_fits, place_offset_fits, told_rom, told_ram, place_refused}
use Rattle.machine_bytes.proofs.place.Goals as goal

pub returns-in-Rom : goal.returns-in-Rom
returns-in-Rom c = search told_rom

pub overflow_cast-page : goal.overflow_cast-page
overflow_cast-page c = search place_page_fits

pub overflow_cast-offset : goal.overflow_cast-offset
overflow_cast-offset c = search place_offset_fits

pub returns-in-Ram : goal.returns-in-Ram
returns-in-Ram c = search told_ram

pub returns : goal.returns
returns c = search place_refused
