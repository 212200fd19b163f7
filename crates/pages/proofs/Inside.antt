-- A place of the RAM is inside a page that the machine owns; a page is whole.
use Prim.Native.Nat.{ℕ, ◌-◌, ◌*◌, ◌%◌, ◌<◌}
use mathlib.Core.Path.{◌≡◌, refl, sym, subst}
use mathlib.Core.Bool.{Bool, true, false}
use mathlib.Core.List.{List}
use lib.ListN.{length, drop, length-drop}
use lib.Seq.{length-take-le}
use native.Mathlib.Omega.{arith}
use borrow.Author.Tests.{ltb-true}
use lib.Dec.{ltb}
use Rattle.slices.specs.Choose.{choose}
use Rattle.pages.specs.declared.Model.{Model}
use Rattle.pages.specs.declared.Model.TheVariants.{K48, K128}
use Rattle.pages.specs.declared.Place.TheVariants.{Rom, Ram}
use Rattle.pages.specs.Pages.{owned, top_page, place_of, page_in}
use Rattle.pages.proofs.PageSteps.{owned_all}

pub page_long : (area : List ℕ) (page : ℕ) → length area ≡ 131072 → page < 8 → length (page_in area page) ≡ 16384
page_long area page h k = length-take-le 16384 (drop (page * 16384) area) (simp length-drop (omega arith))

pub record Inside (model : Model) (page offset : ℕ) : Type 0 where
  pub mine : owned model page ≡ true
  pub small : page < 8
  pub low : offset < 16384

top_inside : (k : Model) (out o : ℕ) → o < 16384 → Inside k (top_page k out) o
top_inside K48 out o h = record { mine = refl; small = omega arith; low = h }
top_inside K128 out o h = record { mine = sym (owned_all K128 (out % 8) refl (omega arith)); small = omega arith; low = h }

five_two : (k : Model) (o : ℕ) → o < 16384 → (Inside k 5 o) × (Inside k 2 o)
five_two K48 o h = (record { mine = refl; small = omega arith; low = h }, record { mine = refl; small = omega arith; low = h })
five_two K128 o h = (record { mine = refl; small = omega arith; low = h }, record { mine = refl; small = omega arith; low = h })

pub place_inside : (k : Model) (out a page offset : ℕ) → a < 65536 → place_of k out a ≡ Ram page offset → Inside k page offset
place_inside k out a page offset h e = go (ltb a 0x4000) (ltb a 0x8000) (ltb a 0xC000) refl refl refl e
  where
    same : (p o : ℕ) → Inside k p o → Ram p o ≡ Ram page offset → Inside k page offset
    same p o i q =
        let ep : p ≡ page = cc in
        let eo : o ≡ offset = cc in
        subst (λ (x : ℕ). Inside k x offset) ep (subst (λ (x : ℕ). Inside k p x) eo i)

    go : (x y z : Bool) → ltb a 0x4000 ≡ x → ltb a 0x8000 ≡ y → ltb a 0xC000 ≡ z
        → choose x Rom (choose y (Ram 5 (a - 0x4000)) (choose z (Ram 2 (a - 0x8000)) (Ram (top_page k out) (a - 0xC000)))) ≡ Ram page offset → Inside k page offset
    go true y z ex ey ez q = let w : ◌≡◌ {A = ℕ} 0 1 = cc in absurd (omega arith)
    go false true z ex ey ez q = same 5 (a - 0x4000) (five_two k (a - 0x4000) (omega (arith, ltb-true a 0x8000 ey))).0 q
    go false false true ex ey ez q = same 2 (a - 0x8000) (five_two k (a - 0x8000) (omega (arith, ltb-true a 0xC000 ez))).1 q
    go false false false ex ey ez q = same (top_page k out) (a - 0xC000) (top_inside k out (a - 0xC000) (omega arith)) q
