-- The numbers that the test exports answer: a reviewer may skip them.
use Rattle.std.specs.Prelude.{ℕ}
use Rattle.packed.specs.declared.Unpacked.{Unpacked}
use Rattle.packed.specs.declared.Unpacked.TheVariants.{Good, WrongLength, Malformed}
use Rattle.packed.specs.declared.Fit.{Fit}
use Rattle.packed.specs.declared.Fit.TheVariants.{Length, TooShort}

abbrev pub unpack_code : Unpacked → ℕ
unpack_code Good = 0
unpack_code (Malformed i) = 1
unpack_code (WrongLength n) = 2

abbrev pub bad_place : Unpacked → ℕ
bad_place Good = 0
bad_place (Malformed i) = i
bad_place (WrongLength n) = 0

abbrev pub found_length : Unpacked → ℕ
found_length Good = 0
found_length (Malformed i) = 0
found_length (WrongLength n) = n

abbrev pub pack_code : Fit → ℕ
pack_code (Length n) = 0
pack_code TooShort = 1

abbrev pub length_in : Fit → ℕ
length_in (Length n) = n
length_in TooShort = 0
