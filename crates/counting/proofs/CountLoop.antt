-- The loop: what was counted, and what is left of the data.
use Prim.Native.Nat.{ℕ, ◌+◌, ◌≤◌, ◌<◌}
use native.Mathlib.Omega.{arith}
use mathlib.Core.Path.{◌≡◌, refl, sym, ap, subst, ◌∙◌}
use mathlib.Core.Bool.{true}
use mathlib.Core.List.{List, []}
use lib.Count.{count_trailing_zeros}
use lib.ListN.{length, get_or, take, drop, length-drop}
use lib.Seq.{length-take-le}
use Rattle.flags.specs.Places.{Seen}
use Rattle.packed.specs.Packed.{before, unpacked}
use Rattle.packed.specs.Unpacking.{length_counted}
use Rattle.packed.specs.Inner.{over}
use Rattle.packed.specs.declared.Unpacked.{Unpacked}
use Rattle.packed.specs.declared.Unpacked.TheVariants.{Malformed}
use Rattle.packed.proofs.Frame.{Verbatim, before_nil}
use Rattle.codes.specs.Inner.{escape_at}
use Rattle.codes.proofs.CodesAhead.{none_of_16, first_of_16}
use Rattle.unpack_tail.proofs.UnpackSteps.{Resting, resting_none, resting_on, resting_run, resting_zero}

-- what all of s comes to
abbrev all_over : List ℕ → Unpacked
all_over s = over 0 (unpacked s)

whole : (s : List ℕ) → over 0 (before 0 [] (unpacked s)) ≡ all_over s
whole s = ap (over 0) (before_nil (unpacked s))

pub counting_none : (s : List ℕ) → Resting s 0 0 0 0
counting_none s = resting_none s 0 0 0 (omega arith) refl

-- k bytes that stand for themselves
stretch_counted : (s : List ℕ) (i n k m : ℕ) → Resting s 0 0 i n → Verbatim unpacked s i k → m ≡ length_counted (n + k) → Resting s 0 0 (i + k) m
stretch_counted s i n k m g v e =
    let l : length (take k (drop i s)) ≡ k = length-take-le k (drop i s) (omega (arith, v.inside, length-drop i s)) in
    resting_on s 0 0 i n g k m (take k (drop i s)) v.step v.inside (e ∙ ap (λ (x : ℕ). length_counted (n + x)) (sym l))

module _ (s : List ℕ) (i n m k : ℕ) (g : Resting s 0 0 i n) (hs : i + 20 ≤ length s) (f : Seen (escape_at s) i 16 m) (e : k ≡ count_trailing_zeros 64 m) where
  pub counting_16 : (n' : ℕ) → k ≡ 64 → n' ≡ length_counted (n + 16) → Resting s 0 0 (i + 16) n'
  counting_16 n' h c = stretch_counted s i n 16 n' g (none_of_16 s i m (omega arith) f (sym e ∙ h)) c

  module _ (h : k ≡ 64 → ⊥) where
    at_code : (k < 16) × (Verbatim unpacked s i k × (true ≡ escape_at s (i + k)))
    at_code = rw e (first_of_16 s i m (omega arith) f (λ q. h (e ∙ q)))

    pub code_inside : k < 16
    code_inside = at_code.0

    to_code : Resting s 0 0 (i + k) (length_counted (n + k))
    to_code = stretch_counted s i n k (length_counted (n + k)) g at_code.1.0 refl

    module _ (run : ℕ) (q : run ≡ get_or s (i + k + 2) 0) where
      pub counting_zero : run ≡ 0 → Malformed (i + k) ≡ all_over s
      counting_zero z = resting_zero s 0 0 (i + k) (length_counted (n + k)) true to_code at_code.1.1 run (omega (arith, code_inside)) refl q z ∙ whole s

      pub counting_run : (n' : ℕ) → (run ≡ 0 → ⊥) → n' ≡ length_counted (n + (k + run)) → Resting s 0 0 (i + k + 4) n'
      counting_run n' z c =
          resting_run s 0 0 (i + k) (length_counted (n + k)) true to_code at_code.1.1 run n' (omega (arith, code_inside)) refl q z (c ∙ omega arith)

pub counting_rest : (s : List ℕ) (i n : ℕ) (r : Unpacked) → Resting s 0 0 i n → r ≡ over n (before i [] (unpacked (drop i s))) → r ≡ all_over s
counting_rest s i n r g e = e ∙ sym g.same ∙ whole s
