-- The place that is given with a number, where one is named, and where none is; the block and the figures.
use Prim.Native.Nat.{ℕ, ◌<◌, ◌≤◌}
use native.Mathlib.Omega.{arith}
use mathlib.Core.Path.{◌≡◌, refl, sym, ap, ◌∙◌}
use mathlib.Core.Bool.{true, false}
use Rattle.numbers.specs.declared.FileFault.{FileFault}
use Rattle.numbers.specs.Numbers.{refusal_number}
use Rattle.numbers.specs.Faults.{is_placed, NamedPlace, is_figured, NamedFigures}

not_both : true ≡ false → ⊥
not_both e = let z : ◌≡◌ {A = ℕ} 0 1 = cc in omega arith

-- of a fault of a file of so many bytes
abbrev pub FaultIn : FileFault → ℕ → Type 0
FaultIn fault size = NamedPlace (refusal_number fault.why) fault.place size

pub somewhere : (number place size : ℕ) → is_placed number ≡ true → (number ≡ 14 → ⊥) → 0 < place → place ≤ size → NamedPlace number place size
somewhere number place size t e h l = record { inside = l; none = λ f. absurd (not_both (sym t ∙ f)); some = λ q. h; at_end = λ q. absurd (e q) }

pub where_it_ends : (size : ℕ) → 0 < size → NamedPlace 14 size size
where_it_ends size h = record { inside = omega arith; none = λ f. absurd (not_both f); some = λ q. h; at_end = λ q. refl }

pub nowhere : (number size : ℕ) → is_placed number ≡ false → NamedPlace number 0 size
nowhere number size f =
    record {
      inside = omega arith;
      none = λ q. refl;
      some = λ t. absurd (not_both (sym t ∙ f));
      at_end = λ q. absurd (not_both (sym (ap is_placed q) ∙ f));
    }

abbrev pub FaultFigures : FileFault → Type 0
FaultFigures fault = NamedFigures (refusal_number fault.why) fault.block fault.found fault.due

pub in_a_block : (number block : ℕ) → is_placed number ≡ true → is_figured number ≡ false → 0 < block → NamedFigures number block 0 0
in_a_block number block p f h = record { no_block = λ q. absurd (not_both (sym p ∙ q)); some_block = λ _. h; no_figures = λ _. (refl, refl); few = λ _. omega arith }

pub of_a_length : (block found due : ℕ) → 0 < block → found ≤ 65536 → NamedFigures 12 block found due
of_a_length block found due h l = record { no_block = λ q. absurd (not_both q); some_block = λ _. h; no_figures = λ q. absurd (not_both q); few = λ _. l }

pub in_no_block : (number found due : ℕ) → is_placed number ≡ false → (is_figured number ≡ false → (found ≡ 0) × (due ≡ 0)) → NamedFigures number 0 found due
in_no_block number found due p f =
    record {
      no_block = λ _. refl;
      some_block = λ q. absurd (not_both (sym q ∙ p));
      no_figures = f;
      few = λ q. absurd (not_both (sym (ap is_placed q) ∙ p));
    }

-- with figures, and without
pub with_figures_lem : (number found due : ℕ) → is_placed number ≡ false → is_figured number ≡ true → NamedFigures number 0 found due
with_figures_lem number found due p t = in_no_block number found due p (λ q. absurd (not_both (sym t ∙ q)))

pub no_figures_at_all : (number : ℕ) → is_placed number ≡ false → NamedFigures number 0 0 0
no_figures_at_all number p = in_no_block number 0 0 p (λ _. (refl, refl))
