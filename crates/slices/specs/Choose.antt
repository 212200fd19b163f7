-- A case chosen by a test, as every definition above writes it.
use Rattle.std.specs.Prelude.{Bool, true, false}

-- a where the test holds, and b where it does not
abbrev pub choose : {A : Type 0} → Bool → A → A → A
choose true a b = a
choose false a b = b

-- whether both hold
abbrev pub both : Bool → Bool → Bool
both true b = b
both false b = false
