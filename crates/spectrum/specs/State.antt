-- A saved Spectrum: its machine and its memory.
use Rattle.std.specs.Prelude.{ℕ, List}
use Rattle.spectrum.specs.declared.Machine.{Machine}

pub record State : Type 0 where
  pub machine : Machine
  pub memory : List ℕ
