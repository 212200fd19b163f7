-- A call from its bytes, the calls that are left from a number on, and their widths.
use Prim.Native.Nat.{ℕ, zero, suc, ◌+◌, ◌-◌, ◌*◌, ◌<◌}
use mathlib.Core.Path.{◌≡◌, sym, ap, ◌∙◌}
use mathlib.Core.Bool.{Bool, true, false}
use mathlib.Core.List.{List, ◌∷◌}
use native.Mathlib.Omega.{arith}
use native.Mathlib.Numerals.{add-one}
use lib.Dec.{eqb}
use lib.ListN.{get_or}
use borrow.Author.Tests.{eq-eqb, ne_eqb}
use Rattle.slices.specs.Choose.{choose}
use Rattle.five_calls.specs.declared.Call.TheVariants.{Byte, Pair, Out, Undo, Redo}
use Rattle.claim.specs.Claim.{TypedCall, TypedCalls}
use Rattle.call_list.specs.CallList.{call_at, calls_from}

-- a call from its bytes
module _ (b : List ℕ) (i w : ℕ) (ew : w ≡ get_or b (i * 4 + 1) 0 + 256 * get_or b (i * 4 + 2) 0) where
  pub at_byte : get_or b (i * 4) 0 ≡ 0 → Byte w (get_or b (i * 4 + 3) 0) ≡ call_at b i
  unfolding call_at
  at_byte h = rw ew (simp (eq-eqb (get_or b (i * 4) 0) 0 h))

  pub at_pair : (get_or b (i * 4) 0 ≡ 0 → ⊥) → get_or b (i * 4) 0 ≡ 1 → Pair (get_or b (i * 4 + 3) 0) w ≡ call_at b i
  unfolding call_at
  at_pair h g = rw ew (simp (ne_eqb (get_or b (i * 4) 0) 0 h, eq-eqb (get_or b (i * 4) 0) 1 g))

module _ (b : List ℕ) (i : ℕ) (h : get_or b (i * 4) 0 ≡ 0 → ⊥) (g : get_or b (i * 4) 0 ≡ 1 → ⊥) where
  pub at_out : get_or b (i * 4) 0 ≡ 2 → Out (get_or b (i * 4 + 1) 0) ≡ call_at b i
  unfolding call_at
  at_out k = simp (ne_eqb (get_or b (i * 4) 0) 0 h, ne_eqb (get_or b (i * 4) 0) 1 g, eq-eqb (get_or b (i * 4) 0) 2 k)

  pub at_undo : (get_or b (i * 4) 0 ≡ 2 → ⊥) → get_or b (i * 4) 0 ≡ 3 → Undo ≡ call_at b i
  unfolding call_at
  at_undo k l = simp (ne_eqb (get_or b (i * 4) 0) 0 h, ne_eqb (get_or b (i * 4) 0) 1 g, ne_eqb (get_or b (i * 4) 0) 2 k, eq-eqb (get_or b (i * 4) 0) 3 l)

  pub at_redo : (get_or b (i * 4) 0 ≡ 2 → ⊥) → (get_or b (i * 4) 0 ≡ 3 → ⊥) → Redo ≡ call_at b i
  unfolding call_at
  at_redo k l = simp (ne_eqb (get_or b (i * 4) 0) 0 h, ne_eqb (get_or b (i * 4) 0) 1 g, ne_eqb (get_or b (i * 4) 0) 2 k, ne_eqb (get_or b (i * 4) 0) 3 l)

pub calls_more : (b : List ℕ) (i n : ℕ) → i < n → calls_from b i (n - i) ≡ call_at b i ∷ calls_from b (i + 1) (n - (i + 1))
calls_more b i n h =
    let q : n - i ≡ suc (n - (i + 1)) = omega arith in
    ap (calls_from b i) q ∙ ap (λ (k : ℕ). call_at b i ∷ calls_from b k (n - (i + 1))) (sym (add-one i))

two_wide : (a b : ℕ) → a < 256 → b < 256 → a + 256 * b < 65536
two_wide a b h g = omega arith

typed_at : (b : List ℕ) → ((i : ℕ) → get_or b i 0 < 256) → (i : ℕ) → TypedCall (call_at b i)
unfolding call_at
typed_at b h i = go (eqb (get_or b (i * 4) 0) 0) (eqb (get_or b (i * 4) 0) 1) (eqb (get_or b (i * 4) 0) 2) (eqb (get_or b (i * 4) 0) 3)
  where
    w : ℕ
    w = get_or b (i * 4 + 1) 0 + 256 * get_or b (i * 4 + 2) 0

    ws : w < 65536
    ws = two_wide _ _ (h (i * 4 + 1)) (h (i * 4 + 2))

    go : (p q r s : Bool)
        → TypedCall (choose p (Byte w (get_or b (i * 4 + 3) 0)) (choose q (Pair (get_or b (i * 4 + 3) 0) w) (choose r (Out (get_or b (i * 4 + 1) 0)) (choose s Undo Redo))))
    go true q r s = (ws, h (i * 4 + 3))
    go false true r s = ws
    go false false true s = h (i * 4 + 1)
    go false false false true = tt
    go false false false false = tt

pub typed_all : (b : List ℕ) → ((i : ℕ) → get_or b i 0 < 256) → (i k : ℕ) → TypedCalls (calls_from b i k)
typed_all b h i zero = tt
typed_all b h i (suc k) = (typed_at b h i, typed_all b h (suc i) k)
