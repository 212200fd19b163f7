-- What `snap_z80_explain` answers and tells, in numbers.
use Rattle.std.specs.Prelude.{ℕ, ◌≡◌}
use Rattle.numbers.specs.Numbers.{number_of}
use Rattle.z80explain.specs.declared.Explained.{Explained}

-- the number r, the offset p, the block b and the figures f and d are the explanation's
pub record ExplainsBytes (o : Explained) (r p b f d : ℕ) : Type 0 where
  pub answer : r ≡ number_of o.answer
  pub place : p ≡ o.place
  pub block : b ≡ o.block
  pub found : f ≡ o.found
  pub due : d ≡ o.due
