-- Which 86 bytes are a header that the writer makes, and of which machine.
use Rattle.std.specs.Prelude.{ℕ, true, false, List, length, eqb}
use Rattle.slices.specs.Choose.{choose, both}
use Rattle.slices.specs.Same.{same}
use Rattle.slices.specs.Bytes.{at}
use Rattle.spectrum.specs.declared.Machine.{Machine}
use Rattle.numbers.specs.declared.Refusal.TheVariants.{InvalidMachine}
use Rattle.spectrum.specs.Machine.{blank_machine}
use Rattle.numbers.specs.Numbers.{refusal_number}
use Rattle.spectrum.specs.Valid.{valid_of}
use Rattle.header.specs.declared.Version.TheVariants.{V3}
use Rattle.header.specs.declared.Mode.{Mode}
use Rattle.header.specs.declared.Mode.TheVariants.{Carried, NotCarried}
use Rattle.header.specs.Heads.{mode3}
use Rattle.header_read.specs.Reading.{machine_of}
use Rattle.header_write.specs.Writing.{header_of}
use Rattle.header_canonical.specs.declared.DecodedHeader.{DecodedHeader}

abbrev pub not_canonical : DecodedHeader
not_canonical = record { canonical = false; machine = blank_machine }

-- a machine, where it is valid and these bytes are its header
abbrev pub decoded_as : Machine → List ℕ → DecodedHeader
decoded_as m s = choose (both (valid_of m) (same s (header_of m))) (record { canonical = true; machine = m }) not_canonical

abbrev pub decoded_mode : Mode → List ℕ → DecodedHeader
decoded_mode NotCarried s = not_canonical
decoded_mode (Carried model attachment) s = decoded_as (machine_of V3 model attachment s) s

-- the machine whose header the writer makes is these bytes, where there is one
unfoldable pub decoded_of : List ℕ → DecodedHeader
decoded_of s = choose (eqb (length s) 86) (decoded_mode (mode3 (at s 34)) s) not_canonical

-- "answers 20, before all else, if the header buffer is not 86 bytes"
abbrev pub bad_header : ℕ
bad_header = refusal_number InvalidMachine
