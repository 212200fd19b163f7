-- How many steps a log holds, and steps that lie in it.
use Prim.Native.Nat.{ℕ, ◌+◌, ◌-◌, ◌*◌, ◌/◌, ◌≤◌, ◌<◌}
use native.Mathlib.Omega.{arith}
use mathlib.Core.Path.{◌≡◌}
use mathlib.Core.List.{List}
use lib.ListN.{length}
use Rattle.session.specs.declared.Counts.{Counts}
use Rattle.log_steps.specs.Steps.{capacity}
use Rattle.log_steps.specs.Inner.{Ready}

pub capacity_small : (log : List ℕ) → length log / 11 ≤ 4096 → length log / 11 ≡ capacity (length log)
unfolding capacity
capacity_small log h = omega arith

pub capacity_most : (log : List ℕ) → 4096 < length log / 11 → 4096 ≡ capacity (length log)
unfolding capacity
capacity_most log h = omega arith

pub log_room : (log : List ℕ) (cap k : ℕ) → cap ≡ capacity (length log) → k < cap → k * 11 + 11 ≤ length log
unfolding capacity
log_room log cap k e h = omega arith

pub few_steps : (log : List ℕ) (cap k : ℕ) → cap ≡ capacity (length log) → k < cap → k < 4096
unfolding capacity
few_steps log cap k e h = omega arith

module _ (mem log : List ℕ) (n : Counts) (cap : ℕ) (q : Ready mem log n cap) where
  pub undo_fits : (n.standing ≡ 0 → ⊥) → (n.standing - 1) * 11 + 11 ≤ length log
  undo_fits g = log_room log cap (n.standing - 1) q.capped (omega (arith, q.ordered, q.within))

  pub redo_fits : n.standing < n.total → n.standing * 11 + 11 ≤ length log
  redo_fits g = log_room log cap n.standing q.capped (omega (arith, q.within))
