-- The step at a place, by how long the run there is; and packing after it.
use Prim.Native.Nat.{ℕ, ◌+◌, ◌≤◌, ◌<◌}
use native.Mathlib.Omega.{arith}
use mathlib.Core.Path.{◌≡◌, refl, sym, ap, ◌∙◌}
use mathlib.Core.Bool.{Bool, true, false}
use mathlib.Core.List.{List, [], ◌∷◌, ◌++◌}
use lib.ListN.{length, get_or, take, drop, length-drop}
use lib.Seq.{drop-drop}
use lib.Dec.{leb}
use borrow.Author.Tests.{leb-true, leb-false}
use Rattle.slices.specs.Put.{put}
use Rattle.slices.proofs.Chosen.{either}
use Rattle.slices.proofs.Drops.{drop_next}
use Rattle.packed.specs.Packed.{packed}
use Rattle.pack_step.specs.PackingSteps.{PackStep, pack_step}
use Rattle.pack_step.specs.PackingSteps.StepLaws.{step_many_ED, step_single_ED, step_many, step_otherwise}
use Rattle.pack_step.proofs.EachStep.{step_some, step_most, packed_step}
use Rattle.pack_step.specs.declared.MadeStep.{MadeStep}
use Rattle.runs.specs.Inner.{run_at, RunLeft}
use Rattle.pack_step.specs.Stepping.{pack_step_at, step_answer, MakesStep}

-- the bytes at i and after it, as they are: one where the data end, else two
module _ (s : List ℕ) (i k : ℕ) (h : i < length s) (d₀ : List ℕ) (o : ℕ) (d : List ℕ) where
  as_they_are : (ws : List ℕ) (r : MadeStep) → take 2 (drop i s) ≡ ws → MakesStep (pack_step k ws (length ws)) d₀ o r d → MakesStep (pack_step k (take 2 (drop i s)) (length (take 2 (drop i s)))) d₀ o r d
  as_they_are ws r e m = rw e m

  pub both_plain : (r : MadeStep) → r ≡ record { case = k; taken = 2; size = 2 } → d ≡ put d₀ o (get_or s i 0 ∷ get_or s (i + 1) 0 ∷ []) → i + 1 < length s
      → MakesStep (pack_step k (take 2 (drop i s)) (length (take 2 (drop i s)))) d₀ o r d
  both_plain r e m l =
      as_they_are (get_or s i 0 ∷ get_or s (i + 1) 0 ∷ []) r (ap (take 2) (drop_next s i h ∙ ap (λ (z : List ℕ). get_or s i 0 ∷ z) (drop_next s (i + 1) l))) (record { answer = e; memory = m })

-- a case holds, and its step is made
module _ (s : List ℕ) (i : ℕ) (h : i < length s) (n : ℕ) (l : RunLeft s i n) (d₀ : List ℕ) (o : ℕ) (r : MadeStep) (d : List ℕ) where
  is_step : (p : PackStep) → pack_step_at s i ≡ p → MakesStep p d₀ o r d → MakesStep (pack_step_at s i) d₀ o r d
  is_step p e m = rw e m

  pub made_many_ED : MakesStep (pack_step 1 (237 ∷ 237 ∷ n ∷ 237 ∷ []) n) d₀ o r d → get_or s i 0 ≡ 237 → 2 ≤ n → MakesStep (pack_step_at s i) d₀ o r d
  unfolding pack_step_at
  made_many_ED m e k =
      is_step _ (step_many_ED (get_or s i 0) (drop (i + 1) s) (run_at s i) refl e (omega (arith, l.counted)) ∙ ap (λ (m : ℕ). pack_step 1 (237 ∷ 237 ∷ m ∷ 237 ∷ []) m) (sym l.counted)) m

  pub made_single_ED : MakesStep (pack_step 2 (take 2 (drop i s)) (length (take 2 (drop i s)))) d₀ o r d → get_or s i 0 ≡ 237 → n ≡ 1 → MakesStep (pack_step_at s i) d₀ o r d
  unfolding pack_step_at
  made_single_ED m e k =
      let t : take 2 (drop i s) ≡ 237 ∷ take 1 (drop (i + 1) s) = ap (take 2) (drop_next s i h) ∙ ap (λ (x : ℕ). x ∷ take 1 (drop (i + 1) s)) e in
      is_step _ (step_single_ED (get_or s i 0) (drop (i + 1) s) (run_at s i) refl e (omega (arith, l.counted)) ∙ ap (λ (ws : List ℕ). pack_step 2 ws (length ws)) (sym t)) m

  pub made_many : MakesStep (pack_step 3 (237 ∷ 237 ∷ n ∷ get_or s i 0 ∷ []) n) d₀ o r d → (get_or s i 0 ≡ 237 → ⊥) → 5 ≤ n → MakesStep (pack_step_at s i) d₀ o r d
  unfolding pack_step_at
  made_many m e k =
      is_step _ (step_many (get_or s i 0) (drop (i + 1) s) (run_at s i) refl e (omega (arith, l.counted)) ∙ ap (λ (m : ℕ). pack_step 3 (237 ∷ 237 ∷ m ∷ get_or s i 0 ∷ []) m) (sym l.counted)) m

  pub made_plain : MakesStep (pack_step 4 (get_or s i 0 ∷ []) 1) d₀ o r d → (get_or s i 0 ≡ 237 → 2 ≤ n → ⊥) → (get_or s i 0 ≡ 237 → n ≡ 1 → ⊥) → ((get_or s i 0 ≡ 237 → ⊥) → 5 ≤ n → ⊥)
      → MakesStep (pack_step_at s i) d₀ o r d
  unfolding pack_step_at
  made_plain m a b c =
      let e : get_or s i 0 ≡ 237 → ⊥ = λ q. either (λ (_ : Bool). ⊥) (leb 2 n) true false (λ f. a q (leb-true 2 n f)) (λ f. b q (omega (arith, l.counted, leb-false 2 n f))) in
      let k : 5 ≤ n → ⊥ = c e in
      is_step _ (step_otherwise (get_or s i 0) (drop (i + 1) s) (run_at s i) refl e (omega (arith, l.counted))) m

-- the step at a place, and packing after it
module _ (s : List ℕ) (i : ℕ) (h : i < length s) where
  pub step_inside : (1 ≤ (pack_step_at s i).taken) × (i + (pack_step_at s i).taken ≤ length s)
  unfolding pack_step_at
  step_inside = let t = step_some (get_or s i 0) (drop (i + 1) s) in (t.0, omega (arith, t.1, length-drop (i + 1) s))

  pub packed_at : packed (drop i s) ≡ (pack_step_at s i).written ++ packed (drop (i + (pack_step_at s i).taken) s)
  unfolding pack_step_at
  packed_at =
      ap packed (drop_next s i h) ∙ packed_step (get_or s i 0) (drop (i + 1) s)
      ∙ ap (λ (l : List ℕ). (pack_step_at s i).written ++ packed l) (ap (drop (pack_step_at s i).taken) (sym (drop_next s i h)) ∙ drop-drop (pack_step_at s i).taken i s)

pub made_inside : (s : List ℕ) (i : ℕ) (r : MadeStep) → r ≡ step_answer (pack_step_at s i) → i < length s → (1 ≤ r.taken) × ((i + r.taken ≤ length s) × (r.size ≤ 4))
unfolding pack_step_at
made_inside s i r e h = rw e ((step_inside s i h).0, ((step_inside s i h).1, step_most (get_or s i 0) (drop (i + 1) s)))
