-- The first bytes of the file, at each return of the code.
use Prim.Native.Nat.{ℕ, ◌≤◌, ◌<◌}
use native.Mathlib.Omega.{arith}
use mathlib.Core.Path.{◌≡◌}
use mathlib.Core.Bool.{Bool, true, false}
use mathlib.Core.List.{List}
use lib.ListN.{length, take, get_or-eq_default}
use borrow.Author.Tests.{lt-ltb, le-ltb, eq-eqb, ne_eqb}
use Rattle.slices.specs.Same.{same}
use Rattle.slices.specs.Bytes.{at}
use Rattle.slices.proofs.Chosen.{same_is}
use Rattle.pages.specs.declared.Model.{Model}
use Rattle.pages.specs.declared.Model.TheVariants.{K48, K128}
use Rattle.numbers.specs.declared.Refusal.TheVariants.{FileShort, ScsHeader, ScsMemoryNotFirst}
use Rattle.scs_head.specs.declared.ScsHead.{ScsHead}
use Rattle.scs_head.specs.declared.ScsHead.TheVariants.{Bad, Spectrum}
use Rattle.scs_blocks.specs.ScsIdentity.{sam_snap}
use Rattle.scs_head.specs.ScsHeads.{memory_first, scs_head_of}

pub name_is : (s : List ℕ) (r : Bool) → (r ≡ true → take 8 s ≡ sam_snap) × (take 8 s ≡ sam_snap → r ≡ true) → r ≡ same (take 8 s) sam_snap
name_is s r p = same_is (take 8 s) sam_snap r p.0 p.1

module _ (s : List ℕ) (model : Model) where
  pub no_first : length s < 16 → Bad ScsMemoryNotFirst ≡ memory_first s model
  no_first h = rw (get_or-eq_default s 0 {n = 15} (omega arith))

  pub first_memory : at s 15 ≡ 3 → Spectrum model ≡ memory_first s model
  first_memory e = rw e

  pub first_other : (at s 15 ≡ 3 → ⊥) → Bad ScsMemoryNotFirst ≡ memory_first s model
  first_other n = rw (ne_eqb (at s 15) 3 n)

module _ (s : List ℕ) where
  pub scs_head_short : length s < 15 → Bad FileShort ≡ scs_head_of s
  unfolding scs_head_of
  scs_head_short h = rw (lt-ltb (length s) 15 h)

  module _ (l : 15 ≤ length s) (t : Bool) (e : t ≡ same (take 8 s) sam_snap) where
    pub head_unnamed : t ≡ false → Bad ScsHeader ≡ scs_head_of s
    unfolding scs_head_of
    head_unnamed q = rw (le-ltb (length s) 15 l, ← e, q)

    pub head_48 : (r : ScsHead) → t ≡ true → at s 14 ≡ 1 → r ≡ memory_first s K48 → r ≡ scs_head_of s
    unfolding scs_head_of
    head_48 r q h p = rw (le-ltb (length s) 15 l, ← e, q, eq-eqb (at s 14) 1 h) p

    module _ (n : at s 14 ≡ 1 → ⊥) where
      pub head_128 : (r : ScsHead) → t ≡ true → at s 14 ≡ 2 → r ≡ memory_first s K128 → r ≡ scs_head_of s
      unfolding scs_head_of
      head_128 r q h p = rw (le-ltb (length s) 15 l, ← e, q, ne_eqb (at s 14) 1 n, eq-eqb (at s 14) 2 h) p

      pub head_other : t ≡ true → (at s 14 ≡ 2 → ⊥) → Bad ScsHeader ≡ scs_head_of s
      unfolding scs_head_of
      head_other q h = rw (le-ltb (length s) 15 l, ← e, q, ne_eqb (at s 14) 1 n, ne_eqb (at s 14) 2 h)
