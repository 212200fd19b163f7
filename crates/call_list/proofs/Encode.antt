-- Every list of calls is what some bytes say, four to a call, so a contract over bytes speaks of every list.
use Prim.Native.Nat.{ℕ, zero, suc, ◌+◌, ◌*◌, ◌/◌, ◌%◌, ◌<◌}
use mathlib.Core.Path.{◌≡◌, refl, ap, ◌∙◌}
use mathlib.Core.List.{List, [], ◌∷◌}
use native.Mathlib.Omega.{arith}
use lib.ListN.{length, get_or}
use Rattle.five_calls.specs.declared.Call.{Call}
use Rattle.five_calls.specs.declared.Call.TheVariants.{Byte, Pair, Out, Undo, Redo}
use Rattle.claim.specs.Claim.{TypedCalls}
use Rattle.call_list.specs.Theorems.{pair_numbers}
use Rattle.call_list.specs.CallList.{call_at, encode, calls_from, call_count, calls_in}

get_d_four : (w x y z : ℕ) (b : List ℕ) (n k : ℕ) → n ≡ suc (suc (suc (suc k))) → get_or (w ∷ x ∷ y ∷ z ∷ b) n 0 ≡ get_or b k 0
get_d_four w x y z b n k e = rw e

call_at_next : (w x y z : ℕ) (b : List ℕ) (i : ℕ) → call_at (w ∷ x ∷ y ∷ z ∷ b) (suc i) ≡ call_at b i
unfolding call_at
call_at_next w x y z b i =
    simp (
      get_d_four w x y z b (suc i * 4) (i * 4) (omega arith),
      get_d_four w x y z b (suc i * 4 + 1) (i * 4 + 1) (omega arith),
      get_d_four w x y z b (suc i * 4 + 2) (i * 4 + 2) (omega arith),
      get_d_four w x y z b (suc i * 4 + 3) (i * 4 + 3) (omega arith),
    )

calls_next : (w x y z : ℕ) (b : List ℕ) (i k : ℕ) → calls_from (w ∷ x ∷ y ∷ z ∷ b) (suc i) k ≡ calls_from b i k
calls_next w x y z b i zero = refl
calls_next w x y z b i (suc k) = rw (call_at_next w x y z b i, calls_next w x y z b (suc i) k)

word_again : (v : ℕ) → v % 256 + 256 * (v / 256) ≡ v
word_again v = omega arith

every_list : (cs : List Call) → calls_from (encode cs) 0 (length cs) ≡ cs
unfolding call_at
every_list [] = refl
every_list (Byte a v ∷ cs) = simp word_again (ap (λ (l : List Call). Byte a v ∷ l) (calls_next _ _ _ _ (encode cs) 0 (length cs) ∙ every_list cs))
every_list (Pair i v ∷ cs) = simp word_again (ap (λ (l : List Call). Pair i v ∷ l) (calls_next _ _ _ _ (encode cs) 0 (length cs) ∙ every_list cs))
every_list (Out v ∷ cs) = ap (λ (l : List Call). Out v ∷ l) (calls_next _ _ _ _ (encode cs) 0 (length cs) ∙ every_list cs)
every_list (Undo ∷ cs) = ap (λ (l : List Call). Undo ∷ l) (calls_next _ _ _ _ (encode cs) 0 (length cs) ∙ every_list cs)
every_list (Redo ∷ cs) = ap (λ (l : List Call). Redo ∷ l) (calls_next _ _ _ _ (encode cs) 0 (length cs) ∙ every_list cs)

pub encode_length : (cs : List Call) → length (encode cs) ≡ length cs * 4
encode_length [] = refl
encode_length (Byte a v ∷ cs) = omega (arith, encode_length cs)
encode_length (Pair i v ∷ cs) = omega (arith, encode_length cs)
encode_length (Out v ∷ cs) = omega (arith, encode_length cs)
encode_length (Undo ∷ cs) = omega (arith, encode_length cs)
encode_length (Redo ∷ cs) = omega (arith, encode_length cs)

pub every_list_in : (cs : List Call) → calls_in (encode cs) (length cs) ≡ cs
every_list_in cs =
    let e : call_count (encode cs) (length cs) ≡ length cs = omega (arith, encode_length cs) in
    rw e (every_list cs)

four_bytes : (w x y z : ℕ) (b : List ℕ) → w < 256 → x < 256 → y < 256 → z < 256 → ((i : ℕ) → get_or b i 0 < 256) → (i : ℕ) → get_or (w ∷ x ∷ y ∷ z ∷ b) i 0 < 256
four_bytes w x y z b hw hx hy hz h zero = hw
four_bytes w x y z b hw hx hy hz h (suc zero) = hx
four_bytes w x y z b hw hx hy hz h (suc (suc zero)) = hy
four_bytes w x y z b hw hx hy hz h (suc (suc (suc zero))) = hz
four_bytes w x y z b hw hx hy hz h (suc (suc (suc (suc i)))) = h i

pub encode_bytes : (cs : List Call) → TypedCalls cs → ((k : ℕ) → get_or (pair_numbers cs) k 0 < 256) → (i : ℕ) → get_or (encode cs) i 0 < 256
encode_bytes [] t h = λ i. omega arith
encode_bytes (Byte a v ∷ cs) t h = let w = t.0.0 in four_bytes _ _ _ _ (encode cs) (omega arith) (omega arith) (omega arith) t.0.1 (encode_bytes cs t.1 h)
encode_bytes (Pair p v ∷ cs) t h = let w = t.0 in four_bytes _ _ _ _ (encode cs) (omega arith) (omega arith) (omega arith) (h zero) (encode_bytes cs t.1 (λ k. h (suc k)))
encode_bytes (Out v ∷ cs) t h = four_bytes _ _ _ _ (encode cs) (omega arith) t.0 (omega arith) (omega arith) (encode_bytes cs t.1 h)
encode_bytes (Undo ∷ cs) t h = four_bytes _ _ _ _ (encode cs) (omega arith) (omega arith) (omega arith) (omega arith) (encode_bytes cs t.1 h)
encode_bytes (Redo ∷ cs) t h = four_bytes _ _ _ _ (encode cs) (omega arith) (omega arith) (omega arith) (omega arith) (encode_bytes cs t.1 h)
