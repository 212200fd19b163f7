-- Reading a step of the log after a step was written: at the same number, and at a lower one.
use Prim.Native.Nat.{ℕ, ◌+◌, ◌*◌, ◌/◌, ◌%◌, ◌≤◌, ◌<◌}
use mathlib.Core.Path.{◌≡◌, refl, ap, ◌∙◌}
use mathlib.Core.List.{List}
use native.Mathlib.Omega.{arith}
use lib.ListN.{length, get_or}
use Rattle.slices.specs.Put.{put}
use Rattle.slices.proofs.Puts.{length-put, put_below, put_in}
use Rattle.log_steps.specs.declared.Step.{Step}
use Rattle.log_steps.specs.Steps.{capacity, step_bytes, put_step, step_at}

module _ (log : List ℕ) (k : ℕ) (s : Step) (h : k * 11 + 11 ≤ length log) where
  pub length-put_step : length (put_step log k s) ≡ length log
  unfolding put_step
  length-put_step = length-put log (step_bytes s) (k * 11) h

  pub step_at_same : step_at (put_step log k s) k ≡ s
  unfolding put_step step_at
  step_at_same =
      let at : (j n : ℕ) → n ≡ k * 11 + j → j < 11 → get_or (put log (k * 11) (step_bytes s)) n 0 ≡ get_or (step_bytes s) j 0 =
      λ j n e b. ap (λ (x : ℕ). get_or (put log (k * 11) (step_bytes s)) x 0) e ∙ put_in log (step_bytes s) (k * 11) h j b in
      let two : (lo hi x : ℕ) → lo ≡ x % 256 → hi ≡ x / 256 → lo + 256 * hi ≡ x = λ lo hi x p q. omega arith in
      let e0 = at 0 (k * 11) (omega arith) (omega arith) in
      let e1 = two _ _ s.size (at 1 (k * 11 + 1) refl (omega arith)) (at 2 (k * 11 + 2) refl (omega arith)) in
      let e3 = at 3 (k * 11 + 3) refl (omega arith) in
      let e4 = two _ _ s.offset (at 4 (k * 11 + 4) refl (omega arith)) (at 5 (k * 11 + 5) refl (omega arith)) in
      let e6 = two _ _ s.old (at 6 (k * 11 + 6) refl (omega arith)) (at 7 (k * 11 + 7) refl (omega arith)) in
      let e8 = two _ _ s.new (at 8 (k * 11 + 8) refl (omega arith)) (at 9 (k * 11 + 9) refl (omega arith)) in
      let e10 = at 10 (k * 11 + 10) refl (omega arith) in
      λ i. record { tag = e0 i; size = e1 i; index = e3 i; offset = e4 i; old = e6 i; new = e8 i; last = e10 i }

  pub step_at_below : (j : ℕ) → j < k → step_at (put_step log k s) j ≡ step_at log j
  unfolding put_step step_at
  step_at_below j b =
      let at : (n : ℕ) → n < k * 11 → get_or (put log (k * 11) (step_bytes s)) n 0 ≡ get_or log n 0 = λ n q. put_below log (step_bytes s) (k * 11) h n q in
      simp (
        at (j * 11) (omega arith),
        at (j * 11 + 1) (omega arith),
        at (j * 11 + 2) (omega arith),
        at (j * 11 + 3) (omega arith),
        at (j * 11 + 4) (omega arith),
        at (j * 11 + 5) (omega arith),
        at (j * 11 + 6) (omega arith),
        at (j * 11 + 7) (omega arith),
        at (j * 11 + 8) (omega arith),
        at (j * 11 + 9) (omega arith),
        at (j * 11 + 10) (omega arith),
      )

pub room_in_log : (log : List ℕ) (cap n : ℕ) → capacity (length log) ≡ cap → n < cap → n * 11 + 11 ≤ length log
unfolding capacity
room_in_log log cap n e h = omega arith
