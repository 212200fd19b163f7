-- The pages a machine owns, and the page at an address, at each return of the code.
use Prim.Native.Nat.{ℕ, zero, suc, ◌-◌, ◌≤◌, ◌<◌}
use native.Mathlib.Omega.{arith}
use mathlib.Core.Path.{◌≡◌, refl, ap, ◌∙◌}
use mathlib.Core.Bool.{Bool, true, false}
use lib.Dec.{ltb}
use borrow.Author.Tests.{lt-ltb, le-ltb, ltb-true, ltb-false, ne_eqb}
use Rattle.pages.specs.declared.Model.{Model}
use Rattle.pages.specs.declared.Model.TheVariants.{K48, K128}
use Rattle.pages.specs.declared.Place.TheVariants.{Rom, Ram}
use Rattle.pages.specs.Pages.{owned, top_page, place_of}

pub owned_none : (m : Model) (page : ℕ) → 8 ≤ page → false ≡ owned m page
owned_none K48 page h = simp (ne_eqb 2 page (λ e. omega arith), ne_eqb 0 page (λ e. omega arith), ne_eqb 5 page (λ e. omega arith))
owned_none K128 page h =
    simp
    (ne_eqb 0 page (λ e. omega arith), ne_eqb 1 page (λ e. omega arith), ne_eqb 2 page (λ e. omega arith), ne_eqb 3 page (λ e. omega arith), ne_eqb 4 page (λ e. omega arith), ne_eqb 5 page (λ e. omega arith), ne_eqb 6 page (λ e. omega arith), ne_eqb 7 page (λ e. omega arith))

pub owned_all : (m : Model) (page : ℕ) → m ≡ K128 → page < 8 → true ≡ owned m page
owned_all m page e h = rw e (go page h)
  where
    go : (page : ℕ) → page < 8 → true ≡ owned K128 page
    go zero h = refl
    go (suc zero) h = refl
    go (suc (suc zero)) h = refl
    go (suc (suc (suc zero))) h = refl
    go (suc (suc (suc (suc zero)))) h = refl
    go (suc (suc (suc (suc (suc zero))))) h = refl
    go (suc (suc (suc (suc (suc (suc zero)))))) h = refl
    go (suc (suc (suc (suc (suc (suc (suc zero))))))) h = refl
    go (suc (suc (suc (suc (suc (suc (suc (suc n)))))))) h = absurd (omega arith)

-- a page that is owned is one of the area's eight
pub owned_small : (m : Model) (page : ℕ) → owned m page ≡ true → page < 8
owned_small m page e = go (ltb page 8) refl
  where
    go : (b : Bool) → ltb page 8 ≡ b → page < 8
    go true q = ltb-true page 8 q
    go false q = let z : false ≡ true = owned_none m page (ltb-false page 8 q) ∙ e in (let w : ◌≡◌ {A = ℕ} 0 1 = cc in absurd (omega arith))

-- `owns`, at each arm
pub owned_one : (m : Model) (page p : ℕ) → m ≡ K48 → page ≡ p → true ≡ owned K48 p → true ≡ owned m page
owned_one m page p e h q = rw (e, h) q

pub owned_other : (m : Model) (page : ℕ) → m ≡ K48 → (page ≡ 0 → ⊥) → (page ≡ 2 → ⊥) → (page ≡ 5 → ⊥) → false ≡ owned m page
owned_other m page e a b d = rw e (simp (ne_eqb 2 page (λ q. omega arith), ne_eqb 0 page (λ q. omega arith), ne_eqb 5 page (λ q. omega arith)))

pub owned_below : (m : Model) (page : ℕ) → m ≡ K128 → ltb page 8 ≡ owned m page
owned_below m page e = go (ltb page 8) refl
  where
    go : (b : Bool) → ltb page 8 ≡ b → b ≡ owned m page
    go true q = owned_all m page e (ltb-true page 8 q)
    go false q = owned_none m page (ltb-false page 8 q)

module _ (m : Model) (out a : ℕ) where
  pub place_rom : a < 16384 → Rom ≡ place_of m out a
  place_rom h = simp (lt-ltb a 16384 h)

  pub place_5 : 16384 ≤ a → a < 32768 → Ram 5 (a - 16384) ≡ place_of m out a
  place_5 h k = simp (le-ltb a 16384 h, lt-ltb a 32768 k)

  pub place_2 : 32768 ≤ a → a < 49152 → Ram 2 (a - 32768) ≡ place_of m out a
  place_2 h k = simp (le-ltb a 16384 (omega arith), le-ltb a 32768 h, lt-ltb a 49152 k)

  pub place_top : (t : ℕ) → t ≡ top_page m out → 49152 ≤ a → Ram t (a - 49152) ≡ place_of m out a
  place_top t e h = simp (le-ltb a 16384 (omega arith), le-ltb a 32768 (omega arith), le-ltb a 49152 h) (ap (λ (p : ℕ). Ram p (a - 49152)) e)
