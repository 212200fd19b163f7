-- Flags as a number: four of them, more of them, its trailing zeros.
use Prim.Native.Nat.{ℕ, zero, suc, ◌+◌, ◌-◌, ◌*◌, ◌/◌, ◌%◌, ◌^◌, ◌≤◌, ◌<◌, suc-le-suc}
use native.Mathlib.Nat.{not-suc-le-zero, le_of_suc-le-suc, pow-suc, mul_assoc, zero-div}
use native.Mathlib.Numerals.{towards_suc}
use native.Mathlib.Omega.{arith}
use mathlib.Core.Path.{◌≡◌, refl, sym, ap, ap₂, subst, ◌∙◌}
use mathlib.Core.Bool.{Bool, true, false, ◌||◌}
use mathlib.Core.List.{List, [], ◌∷◌, ◌++◌}
use lib.ListN.{length, get_or, drop, length-drop}
use lib.Seq.{drop-cons, drop-length}
use lib.Bits.{bit_or, or_shifted}
use lib.Pow.{shl_exact, shr-shr}
use lib.Count.{count_trailing_zeros, under}
use mir.Val.{bool_byte}
use borrow.Author.Count.{below_more}
use Rattle.flags.specs.Weight.{digit, weight}

pub true_not_false : true ≡ false → ⊥
true_not_false e = let z : ◌≡◌ {A = ℕ} 1 0 = ap digit e in omega arith

digit_le : (b : Bool) → digit b ≤ 1
digit_le true = omega arith
digit_le false = omega arith

-- a number of so many digits
weight_lt : (bs : List Bool) → weight bs < 2 ^ length bs
unfolding weight
weight_lt [] = omega arith
weight_lt (b ∷ bs) = omega (arith, digit_le b, weight_lt bs, pow-suc 2 (length bs))

weight_append : (xs ys : List Bool) → weight (xs ++ ys) ≡ weight ys * 2 ^ length xs + weight xs
unfolding weight
weight_append [] ys = omega arith
weight_append (x ∷ xs) ys =
    let e : weight ys * 2 ^ suc (length xs) ≡ weight ys * 2 ^ length xs * 2 = ap (λ (p : ℕ). weight ys * p) (pow-suc 2 (length xs)) ∙ sym (mul_assoc (weight ys) (2 ^ length xs) 2) in
    omega (arith, weight_append xs ys)

-- flags shifted, and others joined before them
pub weight_join : (xs ys : List Bool) (g w : ℕ) → length xs ≡ g → length ys + g ≤ w → bit_or ((weight ys * 2 ^ g) % 2 ^ w) (weight xs) ≡ weight (xs ++ ys)
weight_join xs ys g w e h =
    let low : weight xs < 2 ^ g = rw e at (weight_lt xs) in
    ap (λ (x : ℕ). bit_or x (weight xs)) (shl_exact {a = weight ys} (length ys) g w (weight_lt ys) h)
    ∙ or_shifted (weight ys) g (weight xs) low
    ∙ ap (λ (n : ℕ). weight ys * 2 ^ n + weight xs) (sym e)
    ∙ sym (weight_append xs ys)

-- the flags from number k on
pub weight_drop : (k : ℕ) (bs : List Bool) → weight (drop k bs) ≡ weight bs / 2 ^ k
unfolding weight
weight_drop zero bs = omega arith
weight_drop (suc k) [] = sym (zero-div (2 ^ suc k))
weight_drop (suc k) (b ∷ bs) =
    let half : (digit b + 2 * weight bs) / 2 ^ 1 ≡ weight bs = omega (arith, digit_le b) in
    weight_drop k bs ∙ ap (λ (w : ℕ). w / 2 ^ k) (sym half) ∙ shr-shr (digit b + 2 * weight bs) 1 k
    ∙ ap (λ (n : ℕ). (digit b + 2 * weight bs) / 2 ^ n) (omega arith)

-- four digits, shifted and joined
pub four_law : (a b c d : Bool)
    → bit_or (bit_or (bit_or (bool_byte a) ((bool_byte b * 2) % 4294967296)) ((bool_byte c * 4) % 4294967296)) ((bool_byte d * 8) % 4294967296)
    ≡ weight (a ∷ b ∷ c ∷ d ∷ [])
unfolding weight
four_law false false false false = refl
four_law false false false true = refl
four_law false false true false = refl
four_law false false true true = refl
four_law false true false false = refl
four_law false true false true = refl
four_law false true true false = refl
four_law false true true true = refl
four_law true false false false = refl
four_law true false false true = refl
four_law true false true false = refl
four_law true false true true = refl
four_law true true false false = refl
four_law true true false true = refl
four_law true true true false = refl
four_law true true true true = refl

-- the number of the flags from 4 q on
pub record Masked (c : List Bool) (m q : ℕ) : Type 0 where
  pub reach : q ≤ 4
  pub part : m ≡ weight (drop (4 * q) c)

pub masked_none : (c : List Bool) → length c ≡ 16 → Masked c 0 4
unfolding weight
masked_none c l = record { reach = omega arith; part = sym (ap weight (ap (λ (n : ℕ). drop n c) (sym l) ∙ drop-length c)) }

-- the four flags from k on, and those after them
abbrev four_from : List Bool → ℕ → List Bool
four_from c k = get_or c k false ∷ get_or c (k + 1) false ∷ get_or c (k + 2) false ∷ get_or c (k + 3) false ∷ []

four_then : (c : List Bool) (k : ℕ) → k + 4 ≤ length c → drop k c ≡ four_from c k ++ drop (k + 4) c
four_then c k h =
    let h₀ : k < length c = omega arith in
    let h₁ : suc k < length c = omega arith in
    let h₂ : suc (suc k) < length c = omega arith in
    let h₃ : suc (suc (suc k)) < length c = omega arith in
    simp towards_suc (rw (drop-cons c k false, drop-cons c (suc k) false, drop-cons c (suc (suc k)) false, drop-cons c (suc (suc (suc k))) false))

-- four more flags
pub masked_more : (c : List Bool) (m q r : ℕ) → length c ≡ 16 → Masked c m q → 0 < q
    → r ≡ weight (four_from c (4 * (q - 1))) → Masked c (bit_or ((m * 16) % 4294967296) r) (q - 1)
masked_more c m q r l g h e =
    let k : 4 * (q - 1) + 4 ≡ 4 * q = omega arith in
    let few : length (drop (4 * q) c) + 4 ≤ 32 = simp length-drop (omega arith) in
    record {
      reach = omega (arith, g.reach);
      part =
          (λ z. bit_or ((g.part z * 16) % 4294967296) (e z))
          ∙ weight_join (four_from c (4 * (q - 1))) (drop (4 * q) c) 4 32 refl few
          ∙ ap (λ (n : ℕ). weight (four_from c (4 * (q - 1)) ++ drop n c)) (sym k)
          ∙ ap weight (sym (four_then c (4 * (q - 1)) (omega (arith, g.reach))));
    }

pub masked_all : (c : List Bool) (m q : ℕ) → Masked c m q → q ≤ 0 → m ≡ weight c
masked_all c m q g h =
    let z : 4 * q ≡ 0 = omega arith in
    g.part ∙ ap (λ (n : ℕ). weight (drop n c)) z

-- no flag set
pub none_set : (bs : List Bool) → weight bs ≡ 0 → (j : ℕ) → get_or bs j false ≡ false
unfolding weight
none_set [] e j = refl
none_set (true ∷ bs) e j = let z : ⊥ = omega arith in absurd z
none_set (false ∷ bs) e zero = refl
none_set (false ∷ bs) e (suc j) = none_set bs (omega arith) j

all_clear : (bs : List Bool) → ((j : ℕ) → j < length bs → get_or bs j false ≡ false) → weight bs ≡ 0
unfolding weight
all_clear [] n = refl
all_clear (true ∷ bs) n = absurd (true_not_false (n 0 (omega arith)))
all_clear (false ∷ bs) n = omega (arith, all_clear bs (λ j h. n (suc j) (suc-le-suc h)))

-- where t is false, none of the first k flags is set
pub record NoneUpTo (c : List Bool) (t : Bool) (k : ℕ) : Type 0 where
  pub reach : k ≤ 16
  pub none : t ≡ false → (j : ℕ) → j < k → get_or c j false ≡ false

pub none_start : (c : List Bool) → NoneUpTo c false 0
none_start c = record { reach = omega arith; none = λ e j h. absurd (not-suc-le-zero h) }

pub neither : (t u : Bool) → t || u ≡ false → (t ≡ false) × (u ≡ false)
neither false u e = (refl, e)
neither true u e = absurd (true_not_false e)

pub none_more : (c : List Bool) (t : Bool) (k : ℕ) → NoneUpTo c t k → k < 16 → NoneUpTo c (t || get_or c k false) (k + 1)
none_more c t k g h =
    record { reach = omega arith; none = λ e. (let p = neither t (get_or c k false) e in below_more _ _ (g.none p.0) p.1) }

pub none_all : (c : List Bool) (t : Bool) (k : ℕ) → length c ≡ 16 → NoneUpTo c t k → 16 ≤ k → t ≡ false → weight c ≡ 0
none_all c t k l g h e = all_clear c (λ j i. g.none e j (omega arith))

-- the trailing zeros of the number are the flags before the first that is set
pub record Lowest (bs : List Bool) (k : ℕ) : Type 0 where
  pub inside : k < length bs
  pub before : (j : ℕ) → j < k → get_or bs j false ≡ false
  pub here : get_or bs k false ≡ true

lower : (b : Bool) (bs : List Bool) (k : ℕ) → b ≡ false → Lowest bs k → Lowest (b ∷ bs) (suc k)
lower b bs k e g = record { inside = suc-le-suc g.inside; before = below; here = g.here }
  where
    below : (j : ℕ) → j < suc k → get_or (b ∷ bs) j false ≡ false
    below zero h = e
    below (suc j) h = g.before j (le_of_suc-le-suc h)

pub lowest : (n : ℕ) (bs : List Bool) → length bs ≤ n → (weight bs ≡ 0 → ⊥) → Lowest bs (count_trailing_zeros n (weight bs))
unfolding count_trailing_zeros weight
lowest n [] h z = absurd (z refl)
lowest zero (b ∷ bs) h z = absurd (not-suc-le-zero h)
lowest (suc n) (true ∷ bs) h z =
    let odd : (1 + 2 * weight bs) % 2 ≡ 1 = omega arith in
    subst (Lowest (true ∷ bs)) (sym (ap (λ (d : ℕ). under d (count_trailing_zeros n ((1 + 2 * weight bs) / 2))) odd))
    (record { inside = omega arith; before = λ j i. absurd (not-suc-le-zero i); here = refl })
lowest (suc n) (false ∷ bs) h z =
    let even : (0 + 2 * weight bs) % 2 ≡ 0 = omega arith in
    let half : (0 + 2 * weight bs) / 2 ≡ weight bs = omega arith in
    subst (Lowest (false ∷ bs)) (sym (ap₂ (λ (d w : ℕ). under d (count_trailing_zeros n w)) even half))
    (lower false bs _ refl (lowest n bs (le_of_suc-le-suc h) (λ e. z (omega arith))))
