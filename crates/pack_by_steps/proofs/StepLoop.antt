-- The loop: steps, and stretches of steps of case 4, to the end.
use Prim.Native.Nat.{ℕ, suc, ◌+◌, ◌-◌, ◌≤◌, ◌<◌}
use native.Mathlib.Nat.{add-zero}
use native.Mathlib.Omega.{arith}
use mathlib.Core.Path.{◌≡◌, refl, sym, ap, ◌∙◌}
use mathlib.Core.Bool.{Bool, true, false, ◌&&◌}
use mathlib.Core.List.{List, ◌∷◌, ◌++◌}
use lib.ListN.{length, get_or, take, drop, replicate, length-append}
use lib.Seq.{get_or-drop, drop-drop, length-take-le, take_at}
use lib.Dec.{eqb, leb}
use borrow.Author.Tests.{eqb-false, eq-eqb, le-leb, lt-leb, leb-true, leb-false}
use Rattle.slices.proofs.Chosen.{either}
use Rattle.slices.specs.Put.{put}
use Rattle.slices.proofs.Puts.{length-put}
use Rattle.flags.specs.Places.{Ahead}
use Rattle.flags.proofs.Places.{ahead_none}
use Rattle.packed.specs.Packed.{front, bytes, packed}
use Rattle.pack_step.specs.PackingSteps.{PackStep, step_of}
use Rattle.pack_step.specs.PackingSteps.StepLaws.{step_otherwise}
use Rattle.pack_step.proofs.EachStep.{packed_step, case_plain, step_most}
use Rattle.packed.specs.Packing.{Packs}
use Rattle.packed.specs.declared.Fit.{Fit}
use Rattle.packed.specs.declared.Fit.TheVariants.{TooShort}
use Rattle.pack_step.specs.declared.MadeStep.{MadeStep}
use Rattle.packed.proofs.Frame.{packed_as, Frame, onward, copied, Verbatim, verbatim}
use Rattle.stores.proofs.StoredBytes.{stored_put, put_none}
use Rattle.runs.specs.Inner.{unlike_at}
use Rattle.stretches.specs.Inner.{may_code, Stopped}
use Rattle.stretches.specs.declared.Stop.{Stop}
use Rattle.stretches.proofs.Stretch.{stopped_ahead}
use Rattle.flags.proofs.Weights.{true_not_false, neither}
use Rattle.runs.proofs.RunLength.{front_at}
use Rattle.pack_tail.proofs.PackSteps.{all_packed}
use Rattle.pack_step.specs.Stepping.{pack_step_at, step_answer, MakesStep}
use Rattle.pack_step.proofs.StepPlaces.{step_inside, packed_at}
use Rattle.pack_by_steps.specs.Inner.{PlainSteps, StepWithin}

-- where no code may begin, the step is of case 4
front_under_four : (x : ℕ) (xs : List ℕ) → (eqb x (get_or xs 0 0) && eqb (get_or xs 3 0) (get_or xs 0 0)) ≡ false → front x xs < 4
front_under_four x xs c =
    let q : 3 < front x xs → ⊥ = λ h.
    (let a = front_at x xs 0 (omega arith) in
    true_not_false (sym (rw (eq-eqb x (get_or xs 0 0) (sym a), eq-eqb (get_or xs 3 0) (get_or xs 0 0) (front_at x xs 3 h ∙ sym a)) refl) ∙ c)) in
    omega arith

plain_step : (x : ℕ) (xs : List ℕ) → may_code x (get_or xs 0 0) (get_or xs 3 0) ≡ false → (step_of x xs).case ≡ 4
plain_step x xs c =
    let p = neither (eqb x 237) (eqb x (get_or xs 0 0) && eqb (get_or xs 3 0) (get_or xs 0 0)) c in
    ap (λ (s : PackStep). s.case) (step_otherwise x xs (suc (front x xs)) refl (eqb-false x 237 p.0) (omega (arith, front_under_four x xs p.1)))

seen_plain : (s : List ℕ) (i : ℕ) (d₀ : List ℕ) (o k u : ℕ) (d : List ℕ) → Stopped s i d₀ o k u d → (j : ℕ) → j < k → (pack_step_at s (i + j)).case ≡ 4
unfolding pack_step_at
seen_plain s i d₀ o k u d t j h =
    let f : i + j + 1 + 3 ≡ i + j + 4 = omega arith in
    plain_step (get_or s (i + j) 0) (drop (i + j + 1) s) (rw (get_or-drop (i + j + 1) s 0 0, get_or-drop (i + j + 1) s 3 0, add-zero (i + j + 1), f) (t.before j h))

module _ (s : List ℕ) (i : ℕ) (d₀ : List ℕ) (o : ℕ) (r : Stop) where
  pub stretch_made : (d : List ℕ) → Stopped s i d₀ o r.at r.unlike d → i + 20 ≤ length s → o + 20 ≤ length d₀ → PlainSteps s i d₀ o r d
  stretch_made d t hs hd = record { each = seen_plain s i d₀ o r.at r.unlike d t; looked = λ _ _. t; near_end = λ n. absurd (n hs hd) }

-- what the loops use of a stretch: `reach` bytes are stored, of which r.at count
pub record Stretched (s : List ℕ) (i : ℕ) (d₀ : List ℕ) (o : ℕ) (r : Stop) (d : List ℕ) : Type 0 where
  pub few : r.at ≤ 16
  pub each : (j : ℕ) → j < r.at → (pack_step_at s (i + j)).case ≡ 4
  pub reach : ℕ
  pub all : r.at ≤ reach
  pub inside : i + reach ≤ length s
  pub room : o + reach ≤ length d₀
  pub stored : d ≡ put d₀ o (take reach (drop i s))
  pub next : r.at < 16 → i + r.at < length s
  pub unlike : Ahead (unlike_at s) (i + r.at) r.unlike

module _ (s : List ℕ) (i : ℕ) (d₀ : List ℕ) (o : ℕ) (r : Stop) (d : List ℕ) (p : PlainSteps s i d₀ o r d) (hs : i < length s) (hd : o ≤ length d₀) where
  of_look : i + 20 ≤ length s → o + 20 ≤ length d₀ → Stretched s i d₀ o r d
  of_look a b =
      let t = p.looked a b in
      record {
        few = t.few;
        each = p.each;
        reach = 17;
        all = omega (arith, t.few);
        inside = omega arith;
        room = omega arith;
        stored = t.stored;
        next = λ h. omega arith;
        unlike = stopped_ahead s i d₀ o r.at r.unlike d t;
      }

  of_none : (i + 20 ≤ length s → o + 20 ≤ length d₀ → ⊥) → Stretched s i d₀ o r d
  of_none n =
      let q = p.near_end n in
      let z : r.at ≡ 0 = ap (λ (x : Stop). x.at) q.0 in
      record {
        few = omega arith;
        each = p.each;
        reach = 0;
        all = omega arith;
        inside = omega arith;
        room = omega arith;
        stored = q.1 ∙ sym (put_none d₀ o);
        next = λ _. omega arith;
        unlike = rw q.0 (ahead_none (unlike_at s) (i + 0));
      }

  pub stretched : Stretched s i d₀ o r d
  stretched =
      either (λ (_ : Bool). Stretched s i d₀ o r d) (leb (i + 20) (length s)) true false
      (λ e. either (λ (_ : Bool). Stretched s i d₀ o r d) (leb (o + 20) (length d₀)) true false (λ f. of_look (leb-true (i + 20) (length s) e) (leb-true (o + 20) (length d₀) f)) (λ f. of_none (λ a b. omega (arith, leb-false (o + 20) (length d₀) f))))
      (λ e. of_none (λ a b. omega (arith, leb-false (i + 20) (length s) e)))

-- the size that is told is that of what is written
size_told : (p : PackStep) (r : MadeStep) → r ≡ step_answer p → r.size ≡ length p.written
size_told p r e = ap (λ (x : MadeStep). x.size) e

-- the step, made where there is room
module _ (s : List ℕ) (i : ℕ) (d₀ : List ℕ) (o : ℕ) (r : MadeStep) where
  pub within_four : (d : List ℕ) → MakesStep (pack_step_at s i) d₀ o r d → o + 4 ≤ length d₀ → StepWithin (pack_step_at s i) d₀ o r d
  unfolding pack_step_at
  within_four d m h =
      let t = le-leb (o + length (pack_step_at s i).written) (length d₀) (omega (arith, step_most (get_or s i 0) (drop (i + 1) s))) in
      record { answer = m.answer; memory = rw t m.memory }

-- the step, made into four bytes f of its own first
module _ (s : List ℕ) (i : ℕ) (d₀ : List ℕ) (o : ℕ) (r : MadeStep) (f f' : List ℕ) (m : MakesStep (pack_step_at s i) f 0 r f') where
  own_size : r.size ≡ length (pack_step_at s i).written
  own_size = size_told (pack_step_at s i) r m.answer

  pub within_few : (d : List ℕ) → d ≡ put d₀ o (take (r.size - 0) f') → o + r.size ≤ length d₀ → StepWithin (pack_step_at s i) d₀ o r d
  unfolding put
  within_few d e h =
      let t = le-leb (o + length (pack_step_at s i).written) (length d₀) (omega (arith, own_size)) in
      let z : length (pack_step_at s i).written ≡ r.size - 0 = omega (arith, own_size) in
      let w : take (r.size - 0) f' ≡ (pack_step_at s i).written = ap (take (r.size - 0)) m.memory ∙ take_at (pack_step_at s i).written (drop (0 + length (pack_step_at s i).written) f) (r.size - 0) z in
      record { answer = m.answer; memory = rw t (e ∙ ap (put d₀ o) w) }

-- a byte of case 4 packs to itself
plain_byte : (x : ℕ) (xs : List ℕ) → (step_of x xs).case ≡ 4 → packed_as (x ∷ xs) ≡ bytes (x ∷ packed xs)
plain_byte x xs c = ap bytes (packed_step x xs ∙ ap (λ (p : PackStep). p.written ++ packed (drop p.taken (x ∷ xs))) (case_plain x xs c))

-- a stretch packs to itself
pub stretch_plain : (s : List ℕ) (i : ℕ) (d₀ : List ℕ) (o : ℕ) (r : Stop) (d : List ℕ) → Stretched s i d₀ o r d → Verbatim packed_as s i r.at
unfolding pack_step_at
stretch_plain s i d₀ o r d t =
    verbatim packed_as (λ (l : List ℕ). (step_of (get_or l 0 0) (drop 1 l)).case ≡ 4) plain_byte s i r.at (omega (arith, t.all, t.inside))
    (λ j h. rw (get_or-drop (i + j) s 0 0, drop-drop 1 (i + j) s, add-zero (i + j)) (t.each j h))

module _ (ps s d₀ d : List ℕ) (i o : ℕ) (g : Frame packed_as (bytes ps) s d₀ d i o) where
  -- a stretch on
  pub frame_stretch : (r : Stop) (d' : List ℕ) → Stretched s i d o r d' → Frame packed_as (bytes ps) s d₀ d' (i + r.at) (o + r.at)
  frame_stretch r d' t = copied packed_as (bytes ps) s d₀ d i o g d' r.at t.reach (stretch_plain s i d o r d' t) t.all t.inside t.room t.stored

  module _ (r : MadeStep) (d' : List ℕ) (m : StepWithin (pack_step_at s i) d o r d') (h : i < length s) where
    made_size : r.size ≡ length (pack_step_at s i).written
    made_size = size_told (pack_step_at s i) r m.answer

    within_long : length d' ≡ length d
    within_long = either (λ (l : List ℕ). d' ≡ l → length d' ≡ length d) (leb (o + length (pack_step_at s i).written) (length d)) (put d o (pack_step_at s i).written) d
        (λ e q. ap length q ∙ length-put d (pack_step_at s i).written o (leb-true _ _ e)) (λ e q. ap length q) m.memory

    -- a step on
    pub frame_step : o + r.size ≤ length d' → Frame packed_as (bytes ps) s d₀ d' (i + r.taken) (o + r.size)
    frame_step k =
        let w = (pack_step_at s i).written in
        let l : o + length w ≤ length d = omega (arith, made_size, within_long) in
        let p : d' ≡ put d o w = m.memory ∙ rw (le-leb (o + length w) (length d) l) refl in
        rw m.answer
        (onward packed_as (bytes ps) s d₀ d i o g d' w (i + (pack_step_at s i).taken) (o + length w)
        (record { step = ap bytes (packed_at s i h); inside = (step_inside s i h).1 }) (stored_put d d' w o l p) refl l)

    pub step_without_room : length d' < o + r.size → (a : Fit) (e : List ℕ) → (a ≡ TooShort) × (e ≡ replicate (length d') 0) → Packs ps (length d₀) a e
    step_without_room k a e c =
        let w = (pack_step_at s i).written in
        let l : length (take o d) ≡ o = length-take-le o d g.room in
        let n : length ps ≡ length (take o d) + (length w + length (packed (drop (i + (pack_step_at s i).taken) s))) =
        ap length (all_packed ps s d₀ d i o g ∙ ap (λ (l : List ℕ). take o d ++ l) (packed_at s i h))
        ∙ length-append (take o d) (w ++ packed (drop (i + (pack_step_at s i).taken) s))
        ∙ ap (λ (m : ℕ). length (take o d) + m) (length-append w (packed (drop (i + (pack_step_at s i).taken) s))) in
        let t = lt-leb (length ps) (length d₀) (omega (arith, g.long, made_size, within_long)) in
        record { answer = c.0 ∙ simp t; memory = c.1 ∙ ap (λ (m : ℕ). replicate m 0) (within_long ∙ g.long) ∙ simp t }
