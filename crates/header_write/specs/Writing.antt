-- The 86 header bytes that the writer makes for a machine: the v3 header.
use Rattle.std.specs.Prelude.{ℕ, ◌≡◌, true, List, ◌++◌, get_or}
use Rattle.spectrum.specs.declared.Machine.{Machine}
use Rattle.spectrum.specs.Valid.{Typed, valid_of}
use Rattle.header_pieces.specs.Pieces.{register_bytes, switch_bytes, port_bytes, counter_bytes}

unfoldable pub header_of : Machine → List ℕ
header_of m =
    register_bytes m.pairs m.i m.r m.switches.border
    ++ (switch_bytes m.switches (get_or m.pairs 11 0)
    ++ (port_bytes m ++ (m.sound ++ (counter_bytes m.model m.position m.side59 ++ m.side))))

-- "the 86-byte v3 header that our writer makes for it": head is the header of m, which is valid and as the types of the code say
pub record HeaderFor (m : Machine) (head : List ℕ) : Type 0 where
  pub valid : valid_of m ≡ true
  pub typed : Typed m
  pub is : head ≡ header_of m
