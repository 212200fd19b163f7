-- The number and the part of a view, at each return of the code.
use Prim.Native.Nat.{ℕ, ◌+◌, ◌-◌, ◌*◌, ◌≤◌, ◌<◌}
use native.Mathlib.Omega.{arith}
use mathlib.Core.Path.{◌≡◌, refl, sym, ap, ◌∙◌}
use mathlib.Core.Bool.{Bool, true, false, not}
use mathlib.Core.List.{List}
use lib.ListN.{length, take, drop}
use lib.Dec.{ltb, eqb}
use borrow.Author.Tests.{lt-ltb, le-ltb, ltb-true, ltb-false, eq-eqb, ne_eqb, eqb-true}
use Rattle.std.specs.Prelude.{Ok, Err}
use Rattle.slices.specs.Choose.{choose}
use Rattle.spectrum.specs.declared.Machine.{Machine}
use Rattle.pages.specs.declared.Model.{Model}
use Rattle.pages.specs.declared.Model.TheVariants.{K48, K128}
use Rattle.numbers.specs.declared.Refusal.{Refusal}
use Rattle.numbers.specs.declared.Refusal.TheVariants.{InvalidMachine, MemoryLength, RomLength, PageNotOwned}
use Rattle.numbers.specs.Numbers.{Answer, accepted}
use Rattle.pages.specs.Pages.{owned}
use Rattle.spectrum.specs.Valid.{valid_of}
use Rattle.slices.proofs.Chosen.{not_flip}
use Rattle.numbers.proofs.Numbers.{refuse_not}
use Rattle.view.specs.declared.Part.{Part}
use Rattle.view.specs.declared.Part.TheVariants.{Nowhere, InArea, InRom}
use Rattle.view.specs.View.{rom_length, rom_pages, has_page, view_answer, part_for, part_bytes, view_of}

pub page_ram : (k : Model) (p : ℕ) (r : Bool) → p < 8 → r ≡ owned k p → r ≡ has_page k p
page_ram k p r h e = rw (lt-ltb p 8 h) e

pub page_rom : (k : Model) (p n : ℕ) → 8 ≤ p → n ≡ rom_pages k → ltb p n ≡ has_page k p
page_rom k p n h e = rw (le-ltb p 8 h, e)

module _ (m : Machine) (rom area page : ℕ) (t : Bool) (et : t ≡ valid_of m) where
  pub view_20 : t ≡ false → Err InvalidMachine ≡ view_answer m rom area page
  unfolding view_answer
  view_20 h = rw (← et, h)

  module _ (h : t ≡ true) where
    pub view_21 : (area ≡ 131072 → ⊥) → Err MemoryLength ≡ view_answer m rom area page
    unfolding view_answer
    view_21 a = rw (← et, h, ne_eqb area 131072 a)

    module _ (a : area ≡ 131072) (n : ℕ) (en : n ≡ rom_length m.model) where
      pub view_31 : (rom ≡ n → ⊥) → Err RomLength ≡ view_answer m rom area page
      unfolding view_answer
      view_31 r = rw (← et, h, eq-eqb area 131072 a, ← en, ne_eqb rom n r)

      pub view_30 : (u : Bool) → rom ≡ n → u ≡ has_page m.model page → u ≡ false → Err PageNotOwned ≡ view_answer m rom area page
      unfolding view_answer
      view_30 u r eu q = rw (← et, h, eq-eqb area 131072 a, ← en, eq-eqb rom n r, ← eu, q)

      pub view_0 : (u : Bool) → rom ≡ n → u ≡ has_page m.model page → u ≡ true → accepted ≡ view_answer m rom area page
      unfolding view_answer
      view_0 u r eu q = rw (← et, h, eq-eqb area 131072 a, ← en, eq-eqb rom n r, ← eu, q)

module _ (a x : Answer) (page : ℕ) (e : a ≡ x) where
  pub part_none : (why : Refusal) → a ≡ Err why → Nowhere ≡ part_for x page
  part_none why h = sym (ap (λ (z : Answer). part_for z page) (sym e ∙ h))

  pub part_area : a ≡ accepted → page < 8 → InArea (page * 16384) ≡ part_for x page
  part_area h l = rw (← e, h, lt-ltb page 8 l)

  pub part_rom : a ≡ accepted → 8 ≤ page → InRom ((page - 8) * 16384) ≡ part_for x page
  part_rom h l = rw (← e, h, le-ltb page 8 l)

-- a part lies inside
rom_inside : (k : Model) (page : ℕ) → 8 ≤ page → ltb page (rom_pages k) ≡ true → (page - 8) * 16384 + 16384 ≤ rom_length k
rom_inside K48 page h e = omega (arith, ltb-true page 9 e)
rom_inside K128 page h e = omega (arith, ltb-true page 10 e)

module _ (m : Machine) (rom area page : ℕ) (p : Part) (e : p ≡ part_for (view_answer m rom area page) page) where
  pub area_inside : (start : ℕ) → p ≡ InArea start → start + 16384 ≤ area
  unfolding view_answer
  area_inside start q = go (view_answer m rom area page) refl (sym q ∙ e)
    where
      go : (a : Answer) → view_answer m rom area page ≡ a → InArea start ≡ part_for a page → start + 16384 ≤ area
      go (Err why) h r = let z : ◌≡◌ {A = ℕ} 0 1 = cc in absurd (omega arith)
      go (Ok u) h r = pick (ltb page 8) refl r
        where
          pick : (t : Bool) → ltb page 8 ≡ t → InArea start ≡ choose t (InArea (page * 16384)) (InRom ((page - 8) * 16384)) → start + 16384 ≤ area
          pick true t k =
              let b = refuse_not (not (valid_of m)) InvalidMachine _ h in
              let c = refuse_not (not (eqb area 131072)) MemoryLength _ b.1 in
              let w : start ≡ page * 16384 = cc in
              omega (arith, eqb-true area 131072 (not_flip (eqb area 131072) c.0), ltb-true page 8 t)
          pick false t k = let z : ◌≡◌ {A = ℕ} 0 1 = cc in absurd (omega arith)

  pub rom_fits : (start : ℕ) → p ≡ InRom start → start + 16384 ≤ rom
  unfolding view_answer
  rom_fits start q = go (view_answer m rom area page) refl (sym q ∙ e)
    where
      go : (a : Answer) → view_answer m rom area page ≡ a → InRom start ≡ part_for a page → start + 16384 ≤ rom
      go (Err why) h r = let z : ◌≡◌ {A = ℕ} 0 1 = cc in absurd (omega arith)
      go (Ok u) h r = pick (ltb page 8) refl r
        where
          pick : (t : Bool) → ltb page 8 ≡ t → InRom start ≡ choose t (InArea (page * 16384)) (InRom ((page - 8) * 16384)) → start + 16384 ≤ rom
          pick true t k = let z : ◌≡◌ {A = ℕ} 0 1 = cc in absurd (omega arith)
          pick false t k =
              let b = refuse_not (not (valid_of m)) InvalidMachine _ h in
              let c = refuse_not (not (eqb area 131072)) MemoryLength _ b.1 in
              let d = refuse_not (not (eqb rom (rom_length m.model))) RomLength _ c.1 in
              let f = refuse_not (not (has_page m.model page)) PageNotOwned accepted d.1 in
              let g : ltb page (rom_pages m.model) ≡ true = rw t at (not_flip (has_page m.model page) f.0) in
              let w : start ≡ (page - 8) * 16384 = cc in
              let i = rom_inside m.model page (ltb-false page 8 t) g in
              omega (arith, eqb-true rom (rom_length m.model) (not_flip (eqb rom (rom_length m.model)) d.0))

module _ (m : Machine) (rom area : List ℕ) (page : ℕ) (p : Part) (e : p ≡ part_for (view_answer m (length rom) (length area) page) page) where
  view_part : part_bytes p rom area ≡ view_of m rom area page
  view_part = ap (λ (x : Part). part_bytes x rom area) e

  pub view_none : p ≡ Nowhere → take (0 - 0) (drop 0 area) ≡ view_of m rom area page
  view_none q = sym (ap (λ (x : Part). part_bytes x rom area) q) ∙ view_part

  pub view_area : (start : ℕ) → p ≡ InArea start → take (start + 16384 - start) (drop start area) ≡ view_of m rom area page
  view_area start q = let z : start + 16384 - start ≡ 16384 = omega arith in ap (λ (k : ℕ). take k (drop start area)) z ∙ sym (ap (λ (x : Part). part_bytes x rom area) q) ∙ view_part

  pub view_rom : (start : ℕ) → p ≡ InRom start → take (start + 16384 - start) (drop start rom) ≡ view_of m rom area page
  view_rom start q = let z : start + 16384 - start ≡ 16384 = omega arith in ap (λ (k : ℕ). take k (drop start rom)) z ∙ sym (ap (λ (x : Part). part_bytes x rom area) q) ∙ view_part
