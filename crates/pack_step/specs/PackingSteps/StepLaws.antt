-- Laws of the shut definitions, which serve proofs only: a reviewer may skip this file.
use Rattle.std.specs.Prelude.{ℕ, zero, suc, ◌-◌, ◌≤◌, ◌<◌, min, ◌≡◌, refl, List, [], ◌∷◌, ◌++◌, length, take}
use Rattle.std.proofs.Common.{arith, sym, ne_eqb, eq-eqb, le-leb}
use Rattle.std.proofs.lemmas.Bool.{lt-leb}
use Rattle.packed.specs.Packed.{front}
use Rattle.pack_step.specs.PackingSteps.{PackStep, pack_step, step_of, steps_from, steps_of, written_by}

-- the step in each case, n being what is left of the run
module _ (x : ℕ) (xs : List ℕ) (n : ℕ) (q : n ≡ suc (front x xs)) where
  pub step_many_ED : x ≡ 237 → 2 ≤ n → step_of x xs ≡ pack_step 1 (237 ∷ 237 ∷ min n 255 ∷ 237 ∷ []) (min n 255)
  unfolding step_of
  step_many_ED e h = rw (sym q, eq-eqb x 237 e, le-leb 2 n h)

  pub step_single_ED : x ≡ 237 → n ≡ 1 → step_of x xs ≡ pack_step 2 (237 ∷ take 1 xs) (length (237 ∷ take 1 xs))
  unfolding step_of
  step_single_ED e h = rw (sym q, eq-eqb x 237 e, lt-leb 2 n (omega arith), eq-eqb n 1 h)

  pub step_many : (x ≡ 237 → ⊥) → 5 ≤ n → step_of x xs ≡ pack_step 3 (237 ∷ 237 ∷ min n 255 ∷ x ∷ []) (min n 255)
  unfolding step_of
  step_many e h = rw (sym q, ne_eqb x 237 e, le-leb 5 n h)

  pub step_otherwise : (x ≡ 237 → ⊥) → n < 5 → step_of x xs ≡ pack_step 4 (x ∷ []) 1
  unfolding step_of
  step_otherwise e h = rw (sym q, ne_eqb x 237 e, lt-leb 5 n h)

pub steps_all : (xs : List ℕ) → steps_of xs ≡ steps_from 0 xs
unfolding steps_of
steps_all xs = refl

pub steps_nil : (k : ℕ) → steps_from k [] ≡ []
unfolding steps_from
steps_nil zero = refl
steps_nil (suc k) = refl

pub steps_past : (k x : ℕ) (xs : List ℕ) → steps_from (suc k) (x ∷ xs) ≡ steps_from k xs
unfolding steps_from
steps_past k x xs = refl

pub steps_next : (x : ℕ) (xs : List ℕ) → steps_from 0 (x ∷ xs) ≡ step_of x xs ∷ steps_from ((step_of x xs).taken - 1) xs
unfolding steps_from
steps_next x xs = refl

pub written_nil : written_by [] ≡ []
unfolding written_by
written_nil = refl

pub written_next : (s : PackStep) (ss : List PackStep) → written_by (s ∷ ss) ≡ s.written ++ written_by ss
unfolding written_by
written_next s ss = refl
