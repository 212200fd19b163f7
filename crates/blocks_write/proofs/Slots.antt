-- The slots of the two tables, one by one.
use Prim.Native.Nat.{ℕ, zero, suc, ◌+◌, ◌<◌}
use native.Mathlib.Omega.{arith}
use mathlib.Core.Path.{◌≡◌, refl}
use lib.ListN.{get_or}
use Rattle.pages.specs.declared.Model.TheVariants.{K48, K128}
use Rattle.pages.specs.Pages.{slot, slots}
use Rattle.blocks_write.specs.Inner.{SlotAt}

pub slot_0 : SlotAt K48 0 (slot 4 2)
slot_0 = record { which = refl; page_small = omega arith }

pub slot_1 : SlotAt K48 1 (slot 5 0)
slot_1 = record { which = refl; page_small = omega arith }

pub slot_2 : (i : ℕ) → i < 3 → (i ≡ 0 → ⊥) → (i ≡ 1 → ⊥) → SlotAt K48 i (slot 8 5)
slot_2 i h a b = let e : i ≡ 2 = omega arith in rw e (record { which = refl; page_small = omega arith })

pub slot_small : (i : ℕ) → i < 8 → SlotAt K128 i (slot (i + 3) i)
slot_small i h = record { which = go i h; page_small = h }
  where
    go : (i : ℕ) → i < 8 → slot (i + 3) i ≡ get_or (slots K128) i (slot 0 0)
    go zero h = refl
    go (suc zero) h = refl
    go (suc (suc zero)) h = refl
    go (suc (suc (suc zero))) h = refl
    go (suc (suc (suc (suc zero)))) h = refl
    go (suc (suc (suc (suc (suc zero))))) h = refl
    go (suc (suc (suc (suc (suc (suc zero)))))) h = refl
    go (suc (suc (suc (suc (suc (suc (suc zero))))))) h = refl
    go (suc (suc (suc (suc (suc (suc (suc (suc n)))))))) h = absurd (omega arith)
