-- What packing into a lent part of n bytes answers and leaves there: the promise of `pack`.
use Rattle.std.specs.Prelude.{ℕ, ◌-◌, ◌≡◌, List, ◌++◌, length, replicate, leb}
use Rattle.slices.specs.Choose.{choose}
use Rattle.packed.specs.declared.Fit.{Fit}
use Rattle.packed.specs.declared.Fit.TheVariants.{Length, TooShort}

-- the packed length, where it fits
abbrev pub fits : List ℕ → ℕ → Fit
fits ys n = choose (leb (length ys) n) (Length (length ys)) TooShort

-- the packed bytes and then zeros, where they fit, and zeros otherwise
abbrev pub fitted : List ℕ → ℕ → List ℕ
fitted ys n = choose (leb (length ys) n) (ys ++ replicate (n - length ys) 0) (replicate n 0)

-- the answer r and the part d of n bytes, where ys is the packed form
pub record Packs (ys : List ℕ) (n : ℕ) (r : Fit) (d : List ℕ) : Type 0 where
  pub answer : r ≡ fits ys n
  pub memory : d ≡ fitted ys n
