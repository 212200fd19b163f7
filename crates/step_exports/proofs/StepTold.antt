-- The step that is told, and none.
use Prim.Native.Nat.{ℕ, ◌≤◌}
use mathlib.Core.Path.{◌≡◌, refl, sym, ap, ◌∙◌}
use mathlib.Core.List.{List, []}
use lib.ListN.{length, replicate, length-replicate}
use borrow.Author.Tests.{eq-eqb, ne_eqb, le-ltb}
use Rattle.stores.proofs.StoredBytes.{put_none}
use Rattle.pack_step.specs.PackingSteps.{pack_step}
use Rattle.pack_step.specs.Stepping.{MakesStep}
use Rattle.step_exports.specs.ToldSteps.{told_step}

-- z is the part of n bytes, cleared
module _ (s : List ℕ) (at n : ℕ) (z : List ℕ) (ez : z ≡ replicate n 0) where
  z_long : length z ≡ n
  z_long = ap length ez ∙ length-replicate n 0

  none_told : told_step s at n ≡ pack_step 0 [] 0 → MakesStep (told_step s at n) (replicate n 0) 0 (record { case = 0; taken = 0; size = 0 }) z
  none_told e = rw e (record { answer = refl; memory = ez ∙ sym (put_none (replicate n 0) 0) })

  pub told_past : length z ≡ 4 → length s ≤ at → MakesStep (told_step s at n) (replicate n 0) 0 (record { case = 0; taken = 0; size = 0 }) z
  told_past e h = none_told (rw (eq-eqb n 4 (sym z_long ∙ e), le-ltb at (length s) h))

  pub told_no_room : (length z ≡ 4 → ⊥) → MakesStep (told_step s at n) (replicate n 0) 0 (record { case = 0; taken = 0; size = 0 }) z
  told_no_room e = none_told (rw (ne_eqb n 4 (λ q. e (z_long ∙ q))))
