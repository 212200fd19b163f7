-- The code at a place, by how long the run there is.
use Prim.Native.Nat.{ℕ, ◌+◌, ◌-◌, ◌≤◌, ◌<◌, min}
use native.Mathlib.Omega.{arith}
use mathlib.Core.Path.{◌≡◌, refl, sym, ap, subst, ◌∙◌}
use mathlib.Core.List.{List, [], ◌∷◌, ◌++◌}
use lib.ListN.{length, get_or, take, drop, replicate, drop_of_length-le}
use lib.Seq.{drop-drop, drop-cons}
use Rattle.slices.proofs.Drops.{drop_next}
use Rattle.packed.specs.Packed.{front, packed}
use Rattle.packed.specs.Packed.CodeLaws.{run_code, single_code, short_code}
use Rattle.runs.specs.Inner.{run_at, RunLeft}

-- what is at i packs to ws, and packing goes on at j
pub record Coded (s : List ℕ) (i : ℕ) (ws : List ℕ) (j : ℕ) : Type 0 where
  pub step : packed (drop i s) ≡ ws ++ packed (drop j s)
  pub inside : j ≤ length s

module _ (s : List ℕ) (i : ℕ) (h : i < length s) where
  coded_next : (ws : List ℕ) (k j : ℕ) → packed (get_or s i 0 ∷ drop (i + 1) s) ≡ ws ++ packed (drop k (drop (i + 1) s)) → i + 1 + k ≡ j → j ≤ length s → Coded s i ws j
  coded_next ws k j e m l =
      record {
        step = ap packed (drop_next s i h) ∙ e ∙ ap (λ (z : List ℕ). ws ++ packed z) (drop-drop k (i + 1) s ∙ ap (λ (m : ℕ). drop m s) m);
        inside = l;
      }

  module _ (r : ℕ) (g : RunLeft s i r) where
    long_run : (get_or s i 0 ≡ 237 → 2 ≤ run_at s i) → ((get_or s i 0 ≡ 237 → ⊥) → 5 ≤ run_at s i) → Coded s i (237 ∷ 237 ∷ r ∷ get_or s i 0 ∷ []) (i + r)
    long_run h k =
        rw g.counted
        (coded_next _ (min (run_at s i) 255 - 1) (i + min (run_at s i) 255) (run_code (get_or s i 0) (drop (i + 1) s) (run_at s i) refl h k) (omega arith)
        (omega (arith, g.counted, g.inside)))

    pub next_run_ed : get_or s i 0 ≡ 237 → 2 ≤ r → Coded s i (237 ∷ 237 ∷ r ∷ get_or s i 0 ∷ []) (i + r)
    next_run_ed e k = long_run (λ _. omega (arith, g.counted)) (λ f. absurd (f e))

    pub next_run : (get_or s i 0 ≡ 237 → ⊥) → 5 ≤ r → Coded s i (237 ∷ 237 ∷ r ∷ get_or s i 0 ∷ []) (i + r)
    next_run e k = long_run (λ f. absurd (e f)) (λ _. omega (arith, g.counted))

    pub next_short : (get_or s i 0 ≡ 237 → ⊥) → r < 5 → Coded s i (replicate r (get_or s i 0)) (i + r)
    next_short e k =
        let q : r ≡ run_at s i = omega (arith, g.counted) in
        let m : i + 1 + front (get_or s i 0) (drop (i + 1) s) ≡ i + r = omega arith in
        record {
          step =
              ap packed (drop_next s i h) ∙ short_code (get_or s i 0) (drop (i + 1) s) e (omega arith)
              ∙ ap (λ (z : List ℕ). replicate (run_at s i) (get_or s i 0) ++ packed z)
              (drop-drop (front (get_or s i 0) (drop (i + 1) s)) (i + 1) s ∙ ap (λ (m : ℕ). drop m s) m)
              ∙ ap (λ (n : ℕ). replicate n (get_or s i 0) ++ packed (drop (i + r) s)) (sym q);
          inside = g.inside;
        }

    pub next_single : get_or s i 0 ≡ 237 → r < 2 → i + 1 < length s → Coded s i (get_or s i 0 ∷ get_or s (i + 1) 0 ∷ []) (i + 2)
    next_single e k l =
        subst (λ (ws : List ℕ). Coded s i ws (i + 2))
        (ap (λ (z : List ℕ). 237 ∷ take 1 z) (drop-cons s (i + 1) 0 l) ∙ ap (λ (x : ℕ). x ∷ get_or s (i + 1) 0 ∷ []) (sym e))
        (coded_next _ 1 (i + 2) (single_code (get_or s i 0) (drop (i + 1) s) e (omega (arith, g.counted))) (omega arith) (omega arith))

    pub next_last : get_or s i 0 ≡ 237 → r < 2 → length s ≤ i + 1 → Coded s i (get_or s i 0 ∷ []) (i + 1)
    next_last e k l =
        let z : drop (i + 1) s ≡ [] = drop_of_length-le s {i = i + 1} l in
        record {
          step =
              ap packed (drop_next s i h) ∙ single_code (get_or s i 0) (drop (i + 1) s) e (omega (arith, g.counted))
              ∙ ap (λ (xs : List ℕ). 237 ∷ (take 1 xs ++ packed (drop 1 xs))) z
              ∙ sym (ap (λ (xs : List ℕ). get_or s i 0 ∷ packed xs) z ∙ ap (λ (x : ℕ). x ∷ packed []) e);
          inside = omega arith;
        }
