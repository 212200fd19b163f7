-- Validity: the code's test, and what it means.
use Prim.Native.Nat.{ℕ}
use native.Mathlib.Omega.{arith}
use mathlib.Core.Path.{◌≡◌, refl, sym, ap, ◌∙◌}
use mathlib.Core.Bool.{Bool, true, false}
use mathlib.Core.List.{List}
use lib.ListN.{length, replicate}
use lib.Dec.{eqb}
use borrow.Author.Tests.{ltb-true, lt-ltb, eqb-true, eq-eqb}
use Rattle.slices.specs.Choose.{both}
use Rattle.slices.proofs.Chosen.{both_true}
use Rattle.spectrum.specs.declared.Machine.{Machine}
use Rattle.pages.specs.declared.Model.{Model}
use Rattle.pages.specs.declared.Model.TheVariants.{K48, K128}
use Rattle.spectrum.specs.Valid.{zeros, sound_fits, ports_fit, valid_of, Valid}
use Rattle.spectrum.proofs.Zeros.{zeros_are, zeros_of}

pub fits_without : (chip : Bool) (fffd : ℕ) (sound : List ℕ) (z r : Bool) → chip ≡ false → z ≡ zeros sound → r ≡ both (eqb fffd 0) z → r ≡ sound_fits chip fffd sound
fits_without chip fffd sound z r e p q = rw e (q ∙ ap (both (eqb fffd 0)) p)

pub ports_48 : (m : Machine) (b r : Bool) → m.model ≡ K48 → b ≡ sound_fits m.chip m.outfffd m.sound → r ≡ both (eqb m.out7ffd 0) b
    → r ≡ ports_fit m.model m
ports_48 m b r e p q = rw e (q ∙ ap (both (eqb m.out7ffd 0)) p)

pub ports_128 : (m : Machine) → m.model ≡ K128 → m.chip ≡ ports_fit m.model m
ports_128 m e = rw e

-- the test says what `Valid` says
record PortsFit (model : Model) (m : Machine) : Type 0 where
  out7ffd : model ≡ K48 → m.out7ffd ≡ 0
  chip : model ≡ K128 → m.chip ≡ true
  sounds : sound_fits m.chip m.outfffd m.sound ≡ true

not_48 : K128 ≡ K48 → ⊥
not_48 e = let z : ◌≡◌ {A = ℕ} 0 1 = cc in omega arith

ports_say : (model : Model) (m : Machine) → ports_fit model m ≡ true → PortsFit model m
ports_say K48 m h =
    let p = both_true _ _ h in
    record { out7ffd = λ _. eqb-true m.out7ffd 0 p.0; chip = λ e. absurd (not_48 (sym e)); sounds = p.1 }
ports_say K128 m h = record { out7ffd = λ e. absurd (not_48 e); chip = λ _. h; sounds = rw h }

-- without the chip nothing of it is there
none_there : (chip : Bool) (fffd : ℕ) (sound : List ℕ) → length sound ≡ 16 → sound_fits chip fffd sound ≡ true → chip ≡ false
    → (fffd ≡ 0) × (sound ≡ replicate 16 0)
none_there chip fffd sound l h e =
    let q = both_true (eqb fffd 0) (zeros sound) (ap (λ (c : Bool). sound_fits c fffd sound) (sym e) ∙ h) in
    (eqb-true fffd 0 q.0, zeros_are sound q.1 ∙ ap (λ (n : ℕ). replicate n 0) l)

pub valid_says : (m : Machine) → length m.sound ≡ 16 → valid_of m ≡ true → Valid m
unfolding valid_of
valid_says m l h =
    let a = both_true _ _ h in
    let b = both_true _ _ a.1 in
    let c = both_true _ _ b.1 in
    let d = both_true _ _ c.1 in
    let q = ports_say m.model m d.1 in
    let z = none_there m.chip m.outfffd m.sound l q.sounds in
    record {
      im = ltb-true _ _ a.0;
      border = ltb-true _ _ b.0;
      joystick = ltb-true _ _ c.0;
      position = ltb-true _ _ d.0;
      out7ffd = q.out7ffd;
      chip = q.chip;
      outfffd = λ e. (z e).0;
      silent = λ e. (z e).1;
    }

fits_true : (chip : Bool) (fffd : ℕ) (sound : List ℕ) → (chip ≡ false → fffd ≡ 0) → (chip ≡ false → sound ≡ replicate 16 0) → sound_fits chip fffd sound ≡ true
fits_true true fffd sound g h = refl
fits_true false fffd sound g h = rw (eq-eqb _ _ (g refl)) (ap zeros (h refl) ∙ zeros_of 16)

ports_true : (model : Model) (m : Machine) → (model ≡ K48 → m.out7ffd ≡ 0) → (model ≡ K128 → m.chip ≡ true) → sound_fits m.chip m.outfffd m.sound ≡ true
    → ports_fit model m ≡ true
ports_true K48 m f g h = rw (eq-eqb _ _ (f refl)) h
ports_true K128 m f g h = g refl

pub valid_true : (m : Machine) → Valid m → valid_of m ≡ true
unfolding valid_of
valid_true m v =
    rw (lt-ltb _ _ v.im, lt-ltb _ _ v.border, lt-ltb _ _ v.joystick, lt-ltb _ _ v.position)
    (ports_true m.model m v.out7ffd v.chip (fits_true m.chip m.outfffd m.sound v.outfffd v.silent))
