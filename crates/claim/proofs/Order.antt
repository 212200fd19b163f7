-- The applied corrections have the last one at their head: made from them is the start with the corrections made afresh, first to last.
use mathlib.Core.Path.{◌≡◌, refl}
use mathlib.Core.List.{List, [], ◌∷◌, reverse, reverse_aux}
use Rattle.spectrum.specs.State.{State}
use Rattle.corrections.specs.Corrections.{Correction}
use Rattle.claim.specs.History.{made}
use Rattle.claim.specs.Theorems.{afresh}

afresh_aux : (w : State) (cs ds : List Correction) → afresh w (reverse_aux cs ds) ≡ afresh (made w cs) ds
afresh_aux w [] ds = refl
afresh_aux w (c ∷ cs) ds = afresh_aux w cs (c ∷ ds)

pub first_to_last : (w : State) (cs : List Correction) → afresh w (reverse cs) ≡ made w cs
first_to_last w cs = afresh_aux w cs []
