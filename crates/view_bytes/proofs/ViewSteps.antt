-- Views over bytes, at each return of the code.
use Prim.Native.Nat.{ℕ}
use mathlib.Core.Path.{◌≡◌, refl, ap, ◌∙◌}
use mathlib.Core.Bool.{true, false}
use mathlib.Core.List.{List}
use Rattle.std.specs.Prelude.{Err}
use Rattle.numbers.specs.Numbers.{Answer, number_of}
use Rattle.numbers.specs.declared.Refusal.TheVariants.{InvalidMachine}
use Rattle.header_canonical.specs.declared.DecodedHeader.{DecodedHeader}
use Rattle.header_canonical.specs.Canonical.{decoded_of}
use Rattle.view.specs.declared.Part.{Part}
use Rattle.view.specs.declared.Part.TheVariants.{Nowhere, InArea, InRom}
use Rattle.view.specs.View.{view_answer, part_for}
use Rattle.view_bytes.specs.Views.{show_of, Shows}

module _ (head : List ℕ) (rom area page : ℕ) (k : DecodedHeader) (e : k ≡ decoded_of head) where
  pub show_refused : (r : ℕ) → k.canonical ≡ false → r ≡ number_of (Err InvalidMachine) → Shows (show_of head rom area page) r 0 0 0
  unfolding show_of
  show_refused r h q = rw (← e, h) (record { answer = q; rom = refl; start = refl; size = refl })

  module _ (h : k.canonical ≡ true) (p : Part) (ep : p ≡ part_for (view_answer k.machine rom area page) page) (a : Answer) (ea : a ≡ view_answer k.machine rom area page) (r : ℕ) (er : r ≡ number_of a) where
    number_is : r ≡ number_of (view_answer k.machine rom area page)
    number_is = er ∙ ap number_of ea

    pub show_none : p ≡ Nowhere → Shows (show_of head rom area page) r 0 0 0
    unfolding show_of
    show_none q = rw (← e, h, ← ep, q) (record { answer = number_is; rom = refl; start = refl; size = refl })

    pub show_area : (from start : ℕ) → p ≡ InArea from → start ≡ from → Shows (show_of head rom area page) r 0 start 16384
    unfolding show_of
    show_area from start q s = rw (← e, h, ← ep, q) (record { answer = number_is; rom = refl; start = s; size = refl })

    pub show_rom : (from start : ℕ) → p ≡ InRom from → start ≡ from → Shows (show_of head rom area page) r 1 start 16384
    unfolding show_of
    show_rom from start q s = rw (← e, h, ← ep, q) (record { answer = number_is; rom = refl; start = s; size = refl })
