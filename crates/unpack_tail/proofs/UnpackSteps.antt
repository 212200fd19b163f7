-- What stands at a place of packed data, the search for a bad code, and the loop.
use Prim.Native.Nat.{ℕ, ◌+◌, ◌≤◌, ◌<◌}
use native.Mathlib.Nat.{add-zero}
use native.Mathlib.Omega.{arith}
use mathlib.Core.Path.{◌≡◌, refl, sym, ap, ◌∙◌}
use mathlib.Core.Bool.{Bool, true, false}
use mathlib.Core.List.{List, [], ◌∷◌, ◌++◌, append-nil}
use lib.ListN.{length, get_or, take, drop, replicate, length-append, length-drop, length-replicate, drop_of_length-le}
use lib.Seq.{get_or-drop, drop-drop, take_all, length-take-le}
use lib.Dec.{eqb}
use borrow.Author.Tests.{ne_eqb, eq-eqb}
use Rattle.packed.specs.Packed.{Found, malformed, bytes, before, run, unpacked}
use Rattle.packed.specs.Packed.CodeLaws.{front_plain, front_cut, front_run, unpacked_nil}
use Rattle.packed.specs.Unpacking.{length_counted, answer_of, left_by, Unpacks}
use Rattle.packed.specs.Inner.{over}
use Rattle.codes.specs.Inner.{escape_at}
use Rattle.codes.proofs.Escape.{escape_there}
use Rattle.slices.specs.Choose.{choose}
use Rattle.slices.specs.Put.{put}
use Rattle.stores.proofs.StoredBytes.{stored_put, put_fewer}
use Rattle.packed.proofs.Frame.{Frame, stands, onward}
use Rattle.packed.specs.declared.Unpacked.{Unpacked}
use Rattle.packed.specs.declared.Unpacked.TheVariants.{Good, WrongLength, Malformed}

module _ (s : List ℕ) (i : ℕ) (r : Bool) (e : r ≡ escape_at s i) where
  pub step_plain : i < length s → r ≡ false → unpacked (drop i s) ≡ before 1 (get_or s i 0 ∷ []) (unpacked (drop (i + 1) s))
  step_plain h f =
      let l : 0 < length (drop i s) = simp length-drop (omega arith) in
      rw (get_or-drop i s 0 0, drop-drop 1 i s, add-zero i) at (front_plain (drop i s) l (escape_there s i r e ∙ f))

  pub step_cut : length s < i + 4 → r ≡ true → unpacked (drop i s) ≡ malformed 0
  step_cut h t =
      let l : length (drop i s) < 4 = simp length-drop (omega arith) in
      front_cut (drop i s) l (escape_there s i r e ∙ t)

  pub step_run : i + 4 ≤ length s → r ≡ true → unpacked (drop i s) ≡ run (get_or s (i + 2) 0) (get_or s (i + 3) 0) (unpacked (drop (i + 4) s))
  step_run h t =
      let l : 4 ≤ length (drop i s) = simp length-drop (omega arith) in
      rw (get_or-drop i s 2 0, get_or-drop i s 3 0, drop-drop 4 i s) at (front_run (drop i s) l (escape_there s i r e ∙ t))

pub step_end : (s : List ℕ) (i : ℕ) → length s ≤ i → unpacked (drop i s) ≡ bytes []
step_end s i h = ap unpacked (drop_of_length-le s {i = i} h) ∙ unpacked_nil

-- the answer where o bytes are counted and what is at i is left
abbrev pub over_at : List ℕ → ℕ → ℕ → Unpacked
over_at s i o = over o (before i [] (unpacked (drop i s)))

-- k bytes on, which stand for xs, and counted no further than 65,536
over_before : (i k o : ℕ) (xs : List ℕ) (u : Found) → over o (before i [] (before k xs u)) ≡ over (length_counted (o + length xs)) (before (i + k) [] u)
over_before i k o xs (malformed j) = ap Malformed (omega arith)
over_before i k o xs (bytes ys) = ap WrongLength (omega (arith, length-append xs ys))

over_counted : (o : ℕ) (u : Found) → over o u ≡ over (length_counted o) u
over_counted o (malformed j) = refl
over_counted o (bytes ys) = ap WrongLength (omega arith)

-- the search for a malformed code has come from `from`, with o bytes counted, to i, with n
pub record Resting (s : List ℕ) (from o i n : ℕ) : Type 0 where
  pub reach : i ≤ length s
  pub few : n ≤ 65536
  pub same : over_at s from o ≡ over_at s i n

pub resting_none : (s : List ℕ) (from o n : ℕ) → from ≤ length s → n ≡ length_counted o → Resting s from o from n
resting_none s from o n h e = record { reach = h; few = omega arith; same = over_counted o (before from [] (unpacked (drop from s))) ∙ ap (over_at s from) (sym e) }

module _ (s : List ℕ) (from o i n : ℕ) (g : Resting s from o i n) where
  -- k bytes on, which stand for xs
  pub resting_on : (k m : ℕ) (xs : List ℕ) → unpacked (drop i s) ≡ before k xs (unpacked (drop (i + k) s)) → i + k ≤ length s → m ≡ length_counted (n + length xs) → Resting s from o (i + k) m
  resting_on k m xs q h c =
      record {
        reach = h;
        few = omega arith;
        same = g.same ∙ ap (λ (u : Found). over n (before i [] u)) q ∙ over_before i k n xs (unpacked (drop (i + k) s)) ∙ ap (over_at s (i + k)) (sym c);
      }

module _ (s : List ℕ) (from o i n : ℕ) (r : Bool) (g : Resting s from o i n) (e : r ≡ escape_at s i) where
  pub resting_plain : (m : ℕ) → i < length s → r ≡ false → m ≡ length_counted (n + 1) → Resting s from o (i + 1) m
  resting_plain m h f c = resting_on s from o i n g 1 m (get_or s i 0 ∷ []) (step_plain s i r e h f) (omega arith) c

  pub resting_run : (k m : ℕ) → i + 4 ≤ length s → r ≡ true → k ≡ get_or s (i + 2) 0 → (k ≡ 0 → ⊥) → m ≡ length_counted (n + k) → Resting s from o (i + 4) m
  resting_run k m h t q z c =
      resting_on s from o i n g 4 m (replicate k (get_or s (i + 3) 0))
      (step_run s i r e h t ∙ ap (λ (x : ℕ). run x (get_or s (i + 3) 0) (unpacked (drop (i + 4) s))) (sym q) ∙ rw (ne_eqb k 0 z)) h
      (c ∙ ap (λ (x : ℕ). length_counted (n + x)) (sym (length-replicate k (get_or s (i + 3) 0))))

  resting_bad : unpacked (drop i s) ≡ malformed 0 → Malformed i ≡ over_at s from o
  resting_bad q = sym (g.same ∙ ap (λ (u : Found). over n (before i [] u)) q ∙ ap Malformed (add-zero i))

  pub resting_cut : length s < i + 4 → r ≡ true → Malformed i ≡ over_at s from o
  resting_cut h t = resting_bad (step_cut s i r e h t)

  pub resting_zero : (k : ℕ) → i + 4 ≤ length s → r ≡ true → k ≡ get_or s (i + 2) 0 → k ≡ 0 → Malformed i ≡ over_at s from o
  resting_zero k h t q z = resting_bad (step_run s i r e h t ∙ rw (eq-eqb (get_or s (i + 2) 0) 0 (sym q ∙ z)))

pub resting_end : (s : List ℕ) (from o i n : ℕ) → Resting s from o i n → length s ≤ i → WrongLength n ≡ over_at s from o
resting_end s from o i n g h = sym (g.same ∙ ap (λ (u : Found). over n (before i [] u)) (step_end s i h) ∙ ap WrongLength (omega (arith, g.few)))

over_not_good : (o : ℕ) (u : Found) → over o u ≡ Good → ⊥
over_not_good o (malformed i) q = let z : ◌≡◌ {A = ℕ} 0 1 = cc in omega arith
over_not_good o (bytes xs) q = let z : ◌≡◌ {A = ℕ} 0 1 = cc in omega arith

left_refused : (u : Found) (n : ℕ) → (answer_of u n ≡ Good → ⊥) → replicate n 0 ≡ left_by u n
left_refused (malformed i) n h = refl
left_refused (bytes xs) n h = go (eqb (length xs) n) h
  where
    go : (t : Bool) → (choose t Good (WrongLength (length_counted (length xs))) ≡ Good → ⊥) → replicate n 0 ≡ choose t xs (replicate n 0)
    go true h = absurd (h refl)
    go false h = refl

over_full : (i k : ℕ) (xs ys : List ℕ) (w : Found) (n : ℕ) → n < length xs + length ys
    → over (length xs) (before i [] (before k ys w)) ≡ answer_of (before i xs (before k ys w)) n
over_full i k xs ys (malformed j) n h = refl
over_full i k xs ys (bytes zs) n h =
    let l : length (xs ++ (ys ++ zs)) ≡ length xs + (length ys + length zs) = length-append xs (ys ++ zs) ∙ ap (λ (m : ℕ). length xs + m) (length-append ys zs) in
    rw (ne_eqb (length (xs ++ (ys ++ zs))) n (λ e. omega arith)) (ap (λ (m : ℕ). WrongLength (length_counted m)) (sym (length-append xs (ys ++ zs))))

module _ (u : Found) (s d₀ d : List ℕ) (i o : ℕ) (g : Frame unpacked u s d₀ d i o) where
  module _ (why r : Unpacked) (d' : List ℕ) (c : (r ≡ why) × (d' ≡ replicate (length d) 0)) where
    -- the answer is a refusal
    refused_into : why ≡ answer_of u (length d₀) → (v : Found) → why ≡ over o v → Unpacks u (length d₀) r d'
    refused_into e v w =
        record {
          answer = c.0 ∙ e;
          memory = c.1 ∙ ap (λ (n : ℕ). replicate n 0) g.long ∙ left_refused u (length d₀) (λ q. over_not_good o v (sym w ∙ e ∙ q));
        }

    -- the output is full, and what is at i stands for ys and more
    over_into : (k : ℕ) (ys : List ℕ) (w : Found) → why ≡ over_at s i o → unpacked (drop i s) ≡ before k ys w → length d < o + length ys → Unpacks u (length d₀) r d'
    over_into k ys w er eu h =
        let l : length (take o d) ≡ o = length-take-le o d g.room in
        refused_into
        (er ∙ ap (λ (u : Found). over o (before i [] u)) eu ∙ ap (λ (m : ℕ). over m (before i [] (before k ys w))) (sym l) ∙ over_full i k (take o d) ys w (length d₀) (omega (arith, g.long))
        ∙ ap (λ (u : Found). answer_of u (length d₀)) (sym (g.same ∙ ap (before i (take o d)) eu)))
        (before i [] (unpacked (drop i s))) er

    bad_into : why ≡ Malformed i → unpacked (drop i s) ≡ malformed 0 → Unpacks u (length d₀) r d'
    bad_into m e =
        refused_into (m ∙ ap (λ (u : Found). answer_of u (length d₀)) (sym (g.same ∙ ap (before i (take o d)) e ∙ ap malformed (add-zero i)))) (malformed i) m

  module _ (r : Bool) (e : r ≡ escape_at s i) where
    pub going_plain : (d' : List ℕ) → d' ≡ put d o (get_or s i 0 ∷ []) → i < length s → r ≡ false → o < length d → Frame unpacked u s d₀ d' (i + 1) (o + 1)
    going_plain d' p h f k =
        onward unpacked u s d₀ d i o g d' (get_or s i 0 ∷ []) (i + 1) (o + 1) (stands unpacked s i 1 (get_or s i 0 ∷ []) (step_plain s i r e h f) (omega arith))
        (stored_put d d' (get_or s i 0 ∷ []) o (omega arith) p) refl (omega arith)

    pub full_plain : (why a : Unpacked) (d' : List ℕ) → i < length s → r ≡ false → length d ≤ o → why ≡ over_at s i o → (a ≡ why) × (d' ≡ replicate (length d) 0)
        → Unpacks u (length d₀) a d'
    full_plain why a d' h f k p c = over_into why a d' c 1 (get_or s i 0 ∷ []) (unpacked (drop (i + 1) s)) p (step_plain s i r e h f) (omega arith)

    pub cut_into : (a : Unpacked) (d' : List ℕ) → length s < i + 4 → r ≡ true → (a ≡ Malformed i) × (d' ≡ replicate (length d) 0) → Unpacks u (length d₀) a d'
    cut_into a d' h t c = bad_into (Malformed i) a d' c refl (step_cut s i r e h t)

    module _ (n : ℕ) (h : i + 4 ≤ length s) (t : r ≡ true) (en : n ≡ get_or s (i + 2) 0) where
      run_stands : (n ≡ 0 → ⊥) → unpacked (drop i s) ≡ before 4 (replicate n (get_or s (i + 3) 0)) (unpacked (drop (i + 4) s))
      run_stands z =
          step_run s i r e h t ∙ ap (λ (m : ℕ). run m (get_or s (i + 3) 0) (unpacked (drop (i + 4) s))) (sym en) ∙ rw (ne_eqb n 0 z)

      pub zero_into : (a : Unpacked) (d' : List ℕ) → n ≡ 0 → (a ≡ Malformed i) × (d' ≡ replicate (length d) 0) → Unpacks u (length d₀) a d'
      zero_into a d' z c = bad_into (Malformed i) a d' c refl (step_run s i r e h t ∙ rw (eq-eqb (get_or s (i + 2) 0) 0 (sym en ∙ z)))

      pub full_run : (why a : Unpacked) (d' : List ℕ) → (n ≡ 0 → ⊥) → length d < o + n → why ≡ over_at s i o → (a ≡ why) × (d' ≡ replicate (length d) 0)
          → Unpacks u (length d₀) a d'
      full_run why a d' z k p c =
          over_into why a d' c 4 (replicate n (get_or s (i + 3) 0)) (unpacked (drop (i + 4) s)) p (run_stands z) (omega (arith, length-replicate n (get_or s (i + 3) 0)))

      -- m of the byte were stored, of which n count
      pub going_stored : (d' : List ℕ) (m : ℕ) → d' ≡ put d o (replicate m (get_or s (i + 3) 0)) → (n ≡ 0 → ⊥) → n ≤ m → o + m ≤ length d
          → Frame unpacked u s d₀ d' (i + 4) (o + n)
      going_stored d' m p z few k =
          let v = get_or s (i + 3) 0 in
          onward unpacked u s d₀ d i o g d' (replicate n v) (i + 4) (o + n) (stands unpacked s i 4 (replicate n v) (run_stands z) h)
          (put_fewer d d' o n m v few k (stored_put d d' (replicate m v) o (omega (arith, length-replicate m v)) p)) (ap (λ (m : ℕ). o + m) (length-replicate n v))
          (omega arith)

      pub going_run : (d' : List ℕ) → d' ≡ put d o (replicate n (get_or s (i + 3) 0)) → (n ≡ 0 → ⊥) → o + n ≤ length d → Frame unpacked u s d₀ d' (i + 4) (o + n)
      going_run d' p z k = going_stored d' n p z (omega arith) k

  -- all is read
  all_read : length s ≤ i → u ≡ bytes (take o d)
  all_read h = g.same ∙ ap (before i (take o d)) (step_end s i h) ∙ ap bytes (append-nil (take o d))

  pub good_into : length s ≤ i → o ≡ length d → Unpacks u (length d₀) Good d
  good_into h e =
      let l : length (take o d) ≡ o = length-take-le o d g.room in
      let q : eqb (length (take o d)) (length d₀) ≡ true = eq-eqb (length (take o d)) (length d₀) (omega (arith, g.long)) in
      record { answer = rw (all_read h, q); memory = rw (all_read h, q) (sym (take_all o d (omega arith))) }

  pub wrong_into : (m : ℕ) (a : Unpacked) (d' : List ℕ) → length s ≤ i → (o ≡ length d → ⊥) → m ≡ length_counted o → (a ≡ WrongLength m) × (d' ≡ replicate (length d) 0)
      → Unpacks u (length d₀) a d'
  wrong_into m a d' h e q' c =
      let l : length (take o d) ≡ o = length-take-le o d g.room in
      let q : eqb (length (take o d)) (length d₀) ≡ false = ne_eqb (length (take o d)) (length d₀) (λ z. e (omega (arith, g.long))) in
      refused_into (WrongLength m) a d' c (rw (all_read h, q) (ap WrongLength (q' ∙ ap length_counted (sym l)))) (bytes []) (ap WrongLength (q' ∙ ap length_counted (sym (add-zero o))))
