-- One frame for both loops: what was read stands for what is written, and the rest for the rest.
use Prim.Native.Nat.{ℕ, zero, suc, ◌+◌, ◌≤◌, ◌<◌}
use native.Mathlib.Nat.{not-suc-le-zero, le_of_suc-le-suc, suc-le-suc_iff}
use native.Mathlib.Omega.{arith}
use mathlib.Core.Path.{◌≡◌, refl, sym, ap, ◌∙◌}
use mathlib.Core.List.{List, [], ◌∷◌, ◌++◌, append_assoc}
use lib.ListN.{length, take, drop, length-drop}
use lib.Seq.{drop-drop, length-take-le}
use Rattle.packed.specs.Packed.{Found, malformed, bytes, before, packed}
use Rattle.slices.specs.Put.{put}
use Rattle.stores.proofs.StoredBytes.{Stored, put_front}

pub before_nil : (u : Found) → before 0 [] u ≡ u
before_nil (malformed i) = ap malformed (omega arith)
before_nil (bytes ys) = refl

pub before_before : (j k m : ℕ) → j + k ≡ m → (xs ys : List ℕ) (u : Found) → before j xs (before k ys u) ≡ before m (xs ++ ys) u
before_before j k m e xs ys (malformed i) = ap malformed (omega arith)
before_before j k m e xs ys (bytes zs) = ap bytes (sym (append_assoc xs ys zs))

-- what was read further on, with i bytes before it that stand for xs
before_placed : (i : ℕ) (xs : List ℕ) (u : Found) → before i xs u ≡ before 0 xs (before i [] u)
before_placed i xs (malformed j) = ap malformed (omega arith)
before_placed i xs (bytes ys) = refl

-- what is at i stands for ws under f, and reading goes on at j
pub record StandsFor (f : List ℕ → Found) (s : List ℕ) (i : ℕ) (ws : List ℕ) (j : ℕ) : Type 0 where
  pub step : before i [] (f (drop i s)) ≡ before j ws (f (drop j s))
  pub inside : j ≤ length s

-- the k bytes at i stand for ws
pub stands : (f : List ℕ → Found) (s : List ℕ) (i k : ℕ) (ws : List ℕ) → f (drop i s) ≡ before k ws (f (drop (i + k) s)) → i + k ≤ length s → StandsFor f s i ws (i + k)
stands f s i k ws e h = record { step = ap (before i []) e ∙ before_before i k (i + k) refl [] ws (f (drop (i + k) s)); inside = h }

-- under f the first k bytes of s from i on stand for themselves
pub record Verbatim (f : List ℕ → Found) (s : List ℕ) (i k : ℕ) : Type 0 where
  pub inside : i + k ≤ length s
  pub step : f (drop i s) ≡ before k (take k (drop i s)) (f (drop (i + k) s))

-- the packed form, as something found
abbrev pub packed_as : List ℕ → Found
packed_as xs = bytes (packed xs)

-- under f all stands for u: i bytes of s are read, and what they stand for is in d, which was d₀, up to o
pub record Frame (f : List ℕ → Found) (u : Found) (s d₀ d : List ℕ) (i o : ℕ) : Type 0 where
  pub reach : i ≤ length s
  pub room : o ≤ length d
  pub long : length d ≡ length d₀
  pub same : u ≡ before i (take o d) (f (drop i s))

pub frame_from : (f : List ℕ → Found) (s d : List ℕ) (i o : ℕ) → i ≤ length s → o ≤ length d → Frame f (before i (take o d) (f (drop i s))) s d d i o
frame_from f s d i o h k = record { reach = h; room = k; long = refl; same = refl }

pub frame_none : (f : List ℕ → Found) (s d : List ℕ) → Frame f (f s) s d d 0 0
frame_none f s d = record { reach = omega arith; room = omega arith; long = refl; same = sym (before_nil (f s)) }

module _ (f : List ℕ → Found) (u : Found) (s d₀ d : List ℕ) (i o : ℕ) (g : Frame f u s d₀ d i o) (d' : List ℕ) where
  pub onward : (ws : List ℕ) (j o' : ℕ) → StandsFor f s i ws j → Stored d o ws d' → o + length ws ≡ o' → o' ≤ length d → Frame f u s d₀ d' j o'
  onward ws j o' n p e h =
      record {
        reach = n.inside;
        room = omega (arith, p.long);
        long = p.long ∙ g.long;
        same =
            g.same ∙ before_placed i (take o d) (f (drop i s)) ∙ ap (before 0 (take o d)) n.step ∙ before_before 0 j j (omega arith) (take o d) ws (f (drop j s))
            ∙ ap (λ (z : List ℕ). before j z (f (drop j s))) (sym p.wrote ∙ ap (λ (m : ℕ). take m d') e);
      }

  -- bytes that stand for themselves, and more that were stored after them
  pub copied : (k n : ℕ) → Verbatim f s i k → k ≤ n → i + n ≤ length s → o + n ≤ length d → d' ≡ put d o (take n (drop i s)) → Frame f u s d₀ d' (i + k) (o + k)
  copied k n p few hs hd e =
      onward (take k (drop i s)) (i + k) (o + k) (stands f s i k (take k (drop i s)) p.step p.inside) (put_front s i d o n k d' e few hs hd)
      (ap (λ (n : ℕ). o + n) (length-take-le k (drop i s) (simp length-drop (omega (arith, p.inside)))))
      (omega arith)

-- bytes that stand for themselves one by one do together
stretch : (f : List ℕ → Found) (plain : List ℕ → Type 0) → ((x : ℕ) (xs : List ℕ) → plain (x ∷ xs) → f (x ∷ xs) ≡ before 1 (x ∷ []) (f xs))
    → (l : List ℕ) (k : ℕ) → k ≤ length l → ((j : ℕ) → j < k → plain (drop j l)) → f l ≡ before k (take k l) (f (drop k l))
stretch f plain one l zero h n = sym (before_nil (f l))
stretch f plain one [] (suc k) h n = absurd (not-suc-le-zero h)
stretch f plain one (x ∷ xs) (suc k) h n =
    one x xs (n 0 (omega arith))
    ∙ ap (before 1 (x ∷ [])) (stretch f plain one xs k (le_of_suc-le-suc h) (λ j g. n (suc j) (suc-le-suc_iff.1 g)))
    ∙ before_before 1 k (suc k) (omega arith) (x ∷ []) (take k xs) (f (drop k xs))

pub verbatim : (f : List ℕ → Found) (plain : List ℕ → Type 0) → ((x : ℕ) (xs : List ℕ) → plain (x ∷ xs) → f (x ∷ xs) ≡ before 1 (x ∷ []) (f xs))
    → (s : List ℕ) (i k : ℕ) → i + k ≤ length s → ((j : ℕ) → j < k → plain (drop (i + j) s)) → Verbatim f s i k
verbatim f plain one s i k h c =
    record {
      inside = h;
      step = rw drop-drop at (stretch f plain one (drop i s) k (simp length-drop (omega arith)) (λ j h. rw drop-drop (c j h)));
    }
