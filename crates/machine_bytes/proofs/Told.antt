-- What is told of a machine, at each return of the code.
use Prim.Native.Nat.{ℕ, ◌≤◌, ◌<◌}
use mathlib.Core.Path.{◌≡◌, refl, sym, ◌∙◌}
use mathlib.Core.Bool.{true, false}
use mathlib.Core.List.{List}
use lib.ListN.{get_or}
use native.Mathlib.Omega.{arith}
use borrow.Author.Tests.{lt-ltb, le-ltb}
use Rattle.std.specs.Prelude.{Err}
use Rattle.numbers.specs.Numbers.{accepted, number_of}
use Rattle.numbers.specs.declared.Refusal.TheVariants.{InvalidMachine, PairNumber}
use Rattle.pages.specs.declared.Model.{Model}
use Rattle.pages.specs.declared.Place.{Place}
use Rattle.pages.specs.declared.Place.TheVariants.{Rom, Ram}
use Rattle.pages.specs.Pages.{place_of}
use Rattle.pages.proofs.Inside.{place_inside}
use Rattle.header_canonical.specs.declared.DecodedHeader.{DecodedHeader}
use Rattle.header_canonical.specs.Canonical.{decoded_of}
use Rattle.machine_bytes.specs.Looks.{model_number, attachment_number, model_of, TellsModel, pair_of, TellsPair, address_of, TellsPlace}

-- a page and an offset are no wider than the figures that tell them
module _ (k : Model) (out a : ℕ) (f : Place) (e : f ≡ place_of k out a) (h : a < 65536) (p o : ℕ) (q : f ≡ Ram p o) where
  pub place_page_fits : p < 256
  place_page_fits = let i = place_inside k out a p o h (sym e ∙ q) in omega (arith, i.small)

  pub place_offset_fits : o < 65536
  place_offset_fits = let i = place_inside k out a p o h (sym e ∙ q) in omega (arith, i.low)

module _ (head : List ℕ) (k : DecodedHeader) (e : k ≡ decoded_of head) (r : ℕ) where
  module _ (h : k.canonical ≡ false) (q : r ≡ number_of (Err InvalidMachine)) where
    pub model_refused : TellsModel (model_of head) r 0 0
    unfolding model_of
    model_refused = rw (← e, h) (record { answer = q; model = refl; attachment = refl })

    pub pair_refused : (p : ℕ) → TellsPair (pair_of head p) r 0
    unfolding pair_of
    pair_refused p = rw (← e, h) (record { answer = q; value = refl })

    pub place_refused : (a : ℕ) → TellsPlace (address_of head a) r 0 0 0
    unfolding address_of
    place_refused a = rw (← e, h) (record { answer = q; rom = refl; page = refl; offset = refl })

  module _ (h : k.canonical ≡ true) where
    pub no_pair : (p : ℕ) → 11 < p → r ≡ number_of (Err PairNumber) → TellsPair (pair_of head p) r 0
    unfolding pair_of
    no_pair p b q = rw (← e, h, lt-ltb 11 p b) (record { answer = q; value = refl })

    module _ (q : r ≡ number_of accepted) where
      pub model_told : (m a : ℕ) → m ≡ model_number k.machine.model → a ≡ attachment_number k.machine.attachment → TellsModel (model_of head) r m a
      unfolding model_of
      model_told m a em ea = rw (← e, h) (record { answer = q; model = em; attachment = ea })

      pub pair_told : (p v : ℕ) → p ≤ 11 → v ≡ get_or k.machine.pairs p 0 → TellsPair (pair_of head p) r v
      unfolding pair_of
      pair_told p v b ev = rw (← e, h, le-ltb 11 p b) (record { answer = q; value = ev })

      module _ (a : ℕ) (f : Place) (ef : f ≡ place_of k.machine.model k.machine.out7ffd a) where
        pub told_rom : f ≡ Rom → TellsPlace (address_of head a) r 1 0 0
        unfolding address_of
        told_rom g = rw (← e, h, ← ef, g) (record { answer = q; rom = refl; page = refl; offset = refl })

        pub told_ram : (p o p' o' : ℕ) → f ≡ Ram p o → p' ≡ p → o' ≡ o → TellsPlace (address_of head a) r 0 p' o'
        unfolding address_of
        told_ram p o p' o' g ep eo = rw (← e, h, ← ef, g) (record { answer = q; rom = refl; page = ep; offset = eo })
