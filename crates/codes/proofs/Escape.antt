-- The test for ED ED at one place.
use Prim.Native.Nat.{ℕ, ◌+◌, ◌≤◌}
use native.Mathlib.Nat.{add-zero}
use mathlib.Core.Path.{◌≡◌, refl, sym}
use mathlib.Core.Bool.{Bool, true, false}
use mathlib.Core.List.{List}
use lib.ListN.{length, get_or, drop, get_or-eq_default}
use lib.Seq.{get_or-drop}
use lib.Dec.{eqb}
use borrow.Author.Tests.{ne_eqb, eq-eqb}
use Rattle.slices.specs.Choose.{both}
use Rattle.packed.specs.Packed.{escape}
use Rattle.codes.specs.Inner.{escape_at}

pub escape_first : (a b : ℕ) → a ≡ 237 → eqb b 237 ≡ escape a b
escape_first a b h = simp (eq-eqb a 237 h)

pub escape_none : (a b : ℕ) → (a ≡ 237 → ⊥) → false ≡ escape a b
escape_none a b h = simp (ne_eqb a 237 h)

pub escape_end : (s : List ℕ) (i : ℕ) → length s ≤ i + 1 → false ≡ escape_at s i
escape_end s i h = rw (get_or-eq_default s 0 {n = i + 1} h) (go (eqb (get_or s i 0) 237))
  where
    go : (t : Bool) → false ≡ both t false
    go true = refl
    go false = refl

pub escape_there : (s : List ℕ) (i : ℕ) (r : Bool) → r ≡ escape_at s i → escape (get_or (drop i s) 0 0) (get_or (drop i s) 1 0) ≡ r
escape_there s i r e = rw (get_or-drop i s 0 0, get_or-drop i s 1 0, add-zero i) (sym e)
