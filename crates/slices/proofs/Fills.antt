-- A slice filled from the left, and the part of a slice that was filled.
use Prim.Native.Nat.{ℕ, ◌+◌, ◌-◌, ◌≤◌, ◌<◌}
use native.Mathlib.Numerals.{add-one}
use native.Mathlib.Omega.{arith}
use mathlib.Core.Path.{◌≡◌, refl, sym, ap, ◌∙◌}
use mathlib.Core.List.{List, [], ◌∷◌, ◌++◌, append-nil}
use lib.ListN.{length, take, set, replicate, length-set, replicate-append-replicate}
use lib.Seq.{take-suc-set, take_all, drop-length}
use borrow.Rule.Slice.PartMut.{put_mid, mid_of, mid_len, Post-is}

-- the first i bytes of d, which was d₀, are v
pub record Filled (d₀ : List ℕ) (v : ℕ) (d : List ℕ) (i : ℕ) : Type 0 where
  pub reach : i ≤ length d
  pub long : length d ≡ length d₀
  pub done : take i d ≡ replicate i v

pub filled_none : (d : List ℕ) (v : ℕ) → Filled d v d 0
filled_none d v = record { reach = omega arith; long = refl; done = refl }

pub filled_more : (d₀ : List ℕ) (v : ℕ) (d : List ℕ) (i : ℕ) → Filled d₀ v d i → i < length d → Filled d₀ v (set d i v) (i + 1)
filled_more d₀ v d i g h =
    record {
      reach = simp length-set (omega arith);
      long = length-set d i v ∙ g.long;
      done = ap (λ (n : ℕ). take n (set d i v)) (add-one i) ∙ take-suc-set d i v h ∙ ap (λ (l : List ℕ). l ++ (v ∷ [])) g.done ∙ replicate-append-replicate i 1 v;
    }

pub filled_all : (d₀ : List ℕ) (v : ℕ) (d : List ℕ) (i : ℕ) → Filled d₀ v d i → length d ≤ i → d ≡ replicate (length d₀) v
filled_all d₀ v d i g h =
    let q : i ≡ length d₀ = omega (arith, g.reach, g.long) in
    sym (take_all i d h) ∙ g.done ∙ ap (λ (n : ℕ). replicate n v) q

-- the part from n to the end, filled with zeros
pub cleared : (d l : List ℕ) (n : ℕ) → n < length d → l ≡ replicate (length (mid_of n (length d - n) d)) 0 → put_mid n (length d - n) d l ≡ take n d ++ replicate (length d - n) 0
cleared d l n h e =
    ap (λ (z : List ℕ). take n d ++ z)
    (ap (λ (z : List ℕ). l ++ z) (Post-is n (length d) d (omega arith) ∙ drop-length d) ∙ append-nil l ∙ e ∙ ap (λ (k : ℕ). replicate k 0) (mid_len n (length d) d (omega arith)))

pub cleared_none : (d : List ℕ) (n : ℕ) → length d ≤ n → d ≡ take n d ++ replicate (length d - n) 0
cleared_none d n h =
    let z : length d - n ≡ 0 = omega arith in
    sym (ap (λ (k : ℕ). take n d ++ replicate k 0) z ∙ append-nil (take n d) ∙ take_all n d h)

pub cleared_whole : (d l : List ℕ) → l ≡ take 0 d ++ replicate (length d - 0) 0 → l ≡ replicate (length d) 0
cleared_whole d l e = let z : length d - 0 ≡ length d = omega arith in e ∙ ap (λ (k : ℕ). replicate k 0) z
