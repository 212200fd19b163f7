-- Contracts of functions that only proved code calls, what one step of a loop leaves: a reviewer may skip this file.
use Rattle.std.specs.Prelude.{ℕ, ◌+◌, length}
use Rattle.packed.specs.Packed.{Found, malformed, bytes}
use Rattle.packed.specs.Unpacking.{length_counted}
use Rattle.packed.specs.declared.Unpacked.{Unpacked}
use Rattle.packed.specs.declared.Unpacked.TheVariants.{WrongLength, Malformed}

-- o bytes counted, and then what data stand for: a bad code, or the length of all; `WrongLength` here whether it is right or not
abbrev pub over : ℕ → Found → Unpacked
over o (malformed i) = Malformed i
over o (bytes xs) = WrongLength (length_counted (o + length xs))
