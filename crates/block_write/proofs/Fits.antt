-- What `Packs` says, by the cases of its answer.
use Prim.Native.Nat.{ℕ, ◌-◌, ◌≤◌, ◌<◌}
use native.Mathlib.Omega.{arith}
use mathlib.Core.Path.{◌≡◌, refl, ap, ◌∙◌}
use mathlib.Core.Bool.{Bool, true, false}
use mathlib.Core.List.{List, ◌++◌}
use lib.ListN.{length, replicate, length-append, length-replicate}
use lib.Dec.{leb}
use borrow.Author.Tests.{le-leb, lt-leb, leb-true, leb-false}
use Rattle.slices.specs.Choose.{choose}
use Rattle.packed.specs.Packing.{Packs}
use Rattle.packed.specs.declared.Fit.{Fit}
use Rattle.packed.specs.declared.Fit.TheVariants.{Length, TooShort}

-- ys has n bytes and stands in a part of m bytes, zeros after it
pub record InRoom (ys : List ℕ) (m n : ℕ) (l : List ℕ) : Type 0 where
  pub size : n ≡ length ys
  pub room : n ≤ m
  pub there : l ≡ ys ++ replicate (m - length ys) 0
  pub long : length l ≡ m

-- ys has more than m bytes
pub record OutOfRoom (ys : List ℕ) (m : ℕ) (l : List ℕ) : Type 0 where
  pub over : m < length ys
  pub long : length l ≡ m

abbrev pub FitSays : List ℕ → ℕ → Fit → List ℕ → Type 0
FitSays ys m (Length n) l = InRoom ys m n l
FitSays ys m TooShort l = OutOfRoom ys m l

pub says : (ys : List ℕ) (m : ℕ) (r : Fit) (l : List ℕ) → Packs ys m r l → FitSays ys m r l
says ys m r l p = go (leb (length ys) m) refl p.answer p.memory
  where
    go : (t : Bool) → leb (length ys) m ≡ t → r ≡ choose t (Length (length ys)) TooShort → l ≡ choose t (ys ++ replicate (m - length ys) 0) (replicate m 0) → FitSays ys m r l
    go true t q w =
        let k : length ys ≤ m = leb-true (length ys) m t in
        rw q (record { size = refl; room = k; there = w; long = ap length w ∙ simp (length-append, length-replicate) (omega arith) })
    go false t q w = rw q (record { over = leb-false (length ys) m t; long = ap length w ∙ length-replicate m 0 })

module _ (ys : List ℕ) (m : ℕ) (l : List ℕ) where
  pub packs_stands : (n : ℕ) → n ≡ length ys → length ys ≤ m → l ≡ ys ++ replicate (m - length ys) 0 → Packs ys m (Length n) l
  packs_stands n e h w = record { answer = rw (e, le-leb (length ys) m h); memory = rw (le-leb (length ys) m h) w }

  pub packs_over : m < length ys → l ≡ replicate m 0 → Packs ys m TooShort l
  packs_over h w = record { answer = rw (lt-leb (length ys) m h); memory = rw (lt-leb (length ys) m h) w }
