-- The loop: up to where a code may begin.
use Prim.Native.Nat.{ℕ, ◌+◌, ◌≤◌}
use native.Mathlib.Omega.{arith}
use mathlib.Core.Path.{◌≡◌, sym, subst, ◌∙◌}
use mathlib.Core.List.{List, ◌++◌}
use lib.ListN.{length, take, drop}
use Rattle.packed.specs.Packed.{Found, bytes, packed}
use Rattle.packed.specs.Packing.{fits, fitted, Packs}
use Rattle.packed.specs.declared.Fit.{Fit}
use Rattle.stretches.specs.Inner.{Stopped}
use Rattle.stretches.proofs.Stretch.{stopped_part}
use Rattle.packed.proofs.Frame.{packed_as, Frame, copied}
use Rattle.pack_tail.proofs.PackSteps.{all_packed}

-- k bytes on
module _ (u : Found) (s d₀ d : List ℕ) (i o : ℕ) (g : Frame packed_as u s d₀ d i o) (d' : List ℕ) (k v : ℕ) (t : Stopped s i d o k v d') (hs : i + 20 ≤ length s) (hd : o + 20 ≤ length d) where
  pub frame_stopped : Frame packed_as u s d₀ d' (i + k) (o + k)
  frame_stopped = copied packed_as u s d₀ d i o g d' k 17 (stopped_part s i d o k v d' t hs) (omega (arith, t.few)) (omega arith) (omega arith) t.stored

  pub stopped_block : k ≡ 16 → Frame packed_as u s d₀ d' (i + 16) (o + 16)
  stopped_block e = subst (λ (n : ℕ). Frame packed_as u s d₀ d' (i + n) (o + n)) e frame_stopped

-- the rest is another's
pub rest_packed : (ps s d₀ d : List ℕ) (i o : ℕ) → Frame packed_as (bytes ps) s d₀ d i o → (a : Fit) (d' : List ℕ) → Packs (take o d ++ packed (drop i s)) (length d) a d' → Packs ps (length d₀) a d'
rest_packed ps s d₀ d i o g a d' h =
    let e = sym (all_packed ps s d₀ d i o g) in
    record { answer = h.answer ∙ (λ j. fits (e j) (g.long j)); memory = h.memory ∙ (λ j. fitted (e j) (g.long j)) }
