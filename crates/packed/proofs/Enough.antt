-- How many bytes packed data have for what they stand for, and where a bad code is: from the laws of one place.
use Rattle.std.specs.Prelude.{ℕ, zero, suc, ◌+◌, ◌*◌, ◌≤◌, ◌<◌, ◌≡◌, refl, Bool, true, false, List, [], ◌∷◌, length, get_or, drop, replicate, eqb, leb}
use Rattle.std.proofs.Common.{arith, sym, subst, length-append, length-drop, leb-true, leb-false}
use Rattle.std.proofs.lemmas.List.{length-replicate}
use Rattle.std.proofs.lemmas.Bool.{eqb-false}
use Rattle.slices.proofs.Chosen.{either}
use Rattle.packed.specs.Packed.{Found, malformed, bytes, before, escape, unpacked}
use Rattle.packed.specs.Packed.CodeLaws.{front_plain, front_cut, front_run, unpacked_nil}

-- n bytes of packed data are few enough for what they stand for, and a bad code is among them
abbrev Enough : ℕ → Found → Type 0
Enough n (malformed i) = i < n
Enough n (bytes xs) = n ≤ 4 * length xs

enough_before : (k : ℕ) (xs : List ℕ) (m n : ℕ) (u : Found) → m ≡ k + n → k ≤ 4 * length xs → Enough n u → Enough m (before k xs u)
enough_before k xs m n (malformed i) h l e = omega arith
enough_before k xs m n (bytes ys) h l e = omega (arith, length-append xs ys)

-- at the front of a list of which the rest is known
module _ (a : ℕ) (l : List ℕ) (rest : (k : ℕ) → Enough (length (drop k l)) (unpacked (drop k l))) where
  whole : List ℕ
  whole = a ∷ l

  enough_plain : escape (get_or whole 0 0) (get_or whole 1 0) ≡ false → Enough (suc (length l)) (unpacked whole)
  unfolding whole
  enough_plain e =
      subst (Enough (suc (length l))) (sym (front_plain (a ∷ l) (omega arith) e)) (enough_before 1 (a ∷ []) (suc (length l)) (length l) (unpacked l) (omega arith) (omega arith) (rest 0))

  enough_cut : escape (get_or whole 0 0) (get_or whole 1 0) ≡ true → suc (length l) < 4 → Enough (suc (length l)) (unpacked whole)
  unfolding whole
  enough_cut e h = subst (Enough (suc (length l))) (sym (front_cut (a ∷ l) h e)) (omega arith)

  enough_run : escape (get_or whole 0 0) (get_or whole 1 0) ≡ true → 4 ≤ suc (length l) → Enough (suc (length l)) (unpacked whole)
  unfolding whole
  enough_run e h =
      let c = get_or (a ∷ l) 2 0 in
      let y = get_or (a ∷ l) 3 0 in
      let k : suc (length l) ≡ 4 + length (drop 3 l) = omega (arith, length-drop 3 l) in
      subst (Enough (suc (length l))) (sym (front_run (a ∷ l) h e))
      (either (Enough (suc (length l))) (eqb c 0) _ _ (λ z. omega arith)
      (λ z. enough_before 4 (replicate c y) (suc (length l)) (length (drop 3 l)) (unpacked (drop 3 l)) k (omega (arith, length-replicate c y, eqb-false c 0 z)) (rest 3)))

  enough_whole : Enough (suc (length l)) (unpacked whole)
  enough_whole = go (escape (get_or whole 0 0) (get_or whole 1 0)) (leb 4 (suc (length l))) refl refl
    where
      go : (t b : Bool) → escape (get_or whole 0 0) (get_or whole 1 0) ≡ t → leb 4 (suc (length l)) ≡ b → Enough (suc (length l)) (unpacked whole)
      go false b e f = enough_plain e
      go true true e f = enough_run e (leb-true 4 (suc (length l)) f)
      go true false e f = enough_cut e (omega (arith, leb-false 4 (suc (length l)) f))

all_enough : (s : List ℕ) (k : ℕ) → Enough (length (drop k s)) (unpacked (drop k s))
unfolding whole
all_enough [] zero = subst (Enough 0) (sym unpacked_nil) (omega arith)
all_enough [] (suc k) = subst (Enough 0) (sym unpacked_nil) (omega arith)
all_enough (a ∷ l) zero = enough_whole a l (all_enough l)
all_enough (a ∷ l) (suc k) = all_enough l k

-- a code of four bytes stands for one byte or more
pub unpacked_long : (s xs : List ℕ) → unpacked s ≡ bytes xs → length s ≤ 4 * length xs
unpacked_long s xs e = subst (Enough (length s)) e (all_enough s 0)

pub bad_inside : (s : List ℕ) (i : ℕ) → unpacked s ≡ malformed i → i < length s
bad_inside s i e = subst (Enough (length s)) e (all_enough s 0)
