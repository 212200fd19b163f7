-- The v1 body: what stands from a place of the file on is its own part, and the three pages of it are put one by one.
use Prim.Native.Nat.{ℕ, ◌+◌, ◌-◌, ◌<◌, ◌≤◌}
use mathlib.Core.Path.{◌≡◌, refl, sym, ap, subst, ◌∙◌}
use mathlib.Core.Bool.{Bool, true, false}
use mathlib.Core.List.{List, [], ◌∷◌}
use native.Mathlib.Omega.{arith}
use lib.Dec.{eqb}
use lib.ListN.{length, take, drop, length-drop}
use lib.Seq.{take_all}
use borrow.Author.Tests.{eq-eqb, ne_eqb}
use Rattle.slices.specs.Choose.{choose}
use Rattle.slices.specs.Put.{put}
use Rattle.slices.specs.Blank.{blank}
use Rattle.slices.proofs.Chosen.{same_is, same_true}
use Rattle.packed.specs.Packed.{Found, malformed, bytes, unpacked}
use Rattle.packed.proofs.Enough.{bad_inside}
use Rattle.packed.specs.Unpacking.{length_counted, answer_of}
use Rattle.packed.specs.declared.Unpacked.{Unpacked}
use Rattle.packed.specs.declared.Unpacked.TheVariants.{Good, WrongLength, Malformed}
use Rattle.numbers.specs.declared.Refusal.{Refusal}
use Rattle.numbers.specs.declared.FileFault.{FileFault}
use Rattle.numbers.specs.declared.Refusal.TheVariants.{MalformedData, EndMarker}
use Rattle.numbers.specs.Faults.{fault_in, length_fault}
use Rattle.body_v1.specs.Body.{marked, spread, spread_from, body_into}
use Rattle.blocks.specs.Blocks.{body_refused, body_read, ZerosLent, ReadsBody}
use Rattle.body_v1.specs.Inner.{pages_from, FillsPages}
use Rattle.blocks.specs.declared.BodyAnswer.{BodyAnswer}
use Rattle.blocks.specs.declared.BodyAnswer.TheVariants.{Whole, Faulty}
use Rattle.block_read.proofs.Answers.{malformed_is}

-- what stands from n on, as a part
abbrev body_from : List ℕ → ℕ → List ℕ
body_from s n = take (length s - n) (drop n s)

to_end : (s : List ℕ) (n : ℕ) → body_from s n ≡ drop n s
to_end s n = take_all (length s - n) (drop n s) (omega (arith, length-drop n s))

abbrev marker : List ℕ
marker = 0 ∷ 237 ∷ 237 ∷ 0 ∷ []

pub marked_long : (s : List ℕ) (m : Bool) → m ≡ marked s → m ≡ true → 4 ≤ length s
marked_long s m a t = let e = ap length (same_true (drop (length s - 4) s) marker (sym a ∙ t)) in omega (arith, length-drop (length s - 4) s)

pub marked_short : (s : List ℕ) → length s < 4 → false ≡ marked s
marked_short s l =
    same_is (drop (length s - 4) s) marker false
    (λ h. let z : ◌≡◌ {A = ℕ} 0 1 = cc in absurd (omega arith))
    (λ h. let e = ap length h in absurd (omega (arith, length-drop (length s - 4) s)))

pub marked_is : (s : List ℕ) (r : Bool)
    → (r ≡ true → body_from s (length s - 4) ≡ marker) × (body_from s (length s - 4) ≡ marker → r ≡ true)
    → r ≡ marked s
marked_is s r p =
    let e = to_end s (length s - 4) in
    same_is (drop (length s - 4) s) marker r (λ h. sym e ∙ p.0 h) (λ h. p.1 (e ∙ h))

pub moved_page : (area body after : List ℕ) (base k : ℕ) → after ≡ put area base (take (k + 16384 - k) (drop k body)) → after ≡ put area base (take 16384 (drop k body))
moved_page area body after base k e =
    let d : k + 16384 - k ≡ 16384 = omega arith in
    e ∙ rw d

pub spreads : (area body a b c : List ℕ) → a ≡ put area 81920 (take 16384 (drop 0 body)) → b ≡ put a 32768 (take 16384 (drop 16384 body))
    → c ≡ put b 0 (take 16384 (drop 32768 body)) → length area ≡ 131072 → c ≡ spread area body
unfolding spread
spreads area body a b c p q r l = rw (r, q, p)

pub spreads_none : (area body : List ℕ) → (length area ≡ 131072 → ⊥) → length area ≡ 131072 → area ≡ spread area body
spreads_none area body h l = absurd (h l)

-- what each answer of unpacking says of the body
abbrev answer_from : ℕ → Unpacked → BodyAnswer
answer_from place Good = Whole
answer_from place (Malformed i) = Faulty (fault_in 1 (place + i) MalformedData)
answer_from place (WrongLength n) = Faulty (length_fault 1 place n 49152)

module _ (place : ℕ) (u : Found) (n : ℕ) (r : Unpacked) (after : List ℕ) (f : FillsPages u n r after) where
  body_answered : ReadsBody (spread_from place u (blank 131072)) n (answer_from place r) after
  body_answered = subst (λ (x : Unpacked). ReadsBody (spread_from place u (blank 131072)) n (answer_from place x) after) (sym f.answer) (go u f.memory)
    where
      go : (u : Found) → (n ≡ 131072 → after ≡ pages_from u) → ReadsBody (spread_from place u (blank 131072)) n (answer_from place (answer_of u 49152)) after
      go (malformed i) m = (refl, m)
      go (bytes xs) m = two (eqb (length xs) 49152) m
        where
          two : (t : Bool) → (n ≡ 131072 → after ≡ choose t (spread (blank 131072) xs) (blank 131072))
              → ReadsBody (choose t (body_read (spread (blank 131072) xs)) (body_refused (length_fault 1 place (length_counted (length xs)) 49152))) n (answer_from place (choose t Good (WrongLength (length_counted (length xs))))) after
          two true m = (refl, m)
          two false m = (refl, m)

  pub body_whole : r ≡ Good → ReadsBody (spread_from place u (blank 131072)) n Whole after
  body_whole e = rw e at body_answered

  pub body_malformed : (i : ℕ) (a : BodyAnswer) → r ≡ Malformed i → a ≡ Faulty (fault_in 1 (place + i) MalformedData) → ReadsBody (spread_from place u (blank 131072)) n a after
  body_malformed i a e q = rw q (rw e at body_answered)

  pub body_wrong : (m : ℕ) (a : BodyAnswer) → r ≡ WrongLength m → a ≡ Faulty (length_fault 1 place m 49152) → ReadsBody (spread_from place u (blank 131072)) n a after
  body_wrong m a e q = rw q (rw e at body_answered)

-- a bad code is among the data
pub bad_code_before : (src : List ℕ) (n : ℕ) (r : Unpacked) (after : List ℕ) → FillsPages (unpacked src) n r after → (i : ℕ) → r ≡ Malformed i → i < length src
bad_code_before src n r after f i e = bad_inside src i (malformed_is (unpacked src) 49152 49152 r _ (record { answer = f.answer; memory = refl }) refl i e)

module _ (packed : Bool) (file : List ℕ) (from : ℕ) (area after : List ℕ) (lent : ZerosLent area) where
  pub read_marked : (m : Bool) (r : BodyAnswer) → packed ≡ true → m ≡ marked (body_from file from) → m ≡ true
      → ReadsBody (spread_from from (unpacked (take (length (body_from file from) - 4 - 0) (drop 0 (body_from file from)))) (blank 131072)) (length area) r after
      → ReadsBody (body_into packed (blank 131072) from (drop from file)) (length area) r after
  unfolding body_into
  read_marked m r e a t h =
      let z : length (body_from file from) - 4 - 0 ≡ length (body_from file from) - 4 = omega arith in
      rw (e, ← to_end file from, ← a, t) (rw z at h)

  pub read_unmarked : (m : Bool) (r : BodyAnswer) → packed ≡ true → m ≡ marked (body_from file from) → m ≡ false → from ≤ length file → r ≡ Faulty (fault_in 1 (length file) EndMarker)
      → ReadsBody (body_into packed (blank 131072) from (drop from file)) (length area) r area
  unfolding body_into
  read_unmarked m r e a t l f =
      let z : length file ≡ from + length (body_from file from) = omega (arith, ap length (to_end file from), length-drop from file) in
      rw (e, ← to_end file from, ← a, t) (f ∙ ap (λ (n : ℕ). Faulty (fault_in 1 n EndMarker)) z, lent.zeros)

  pub read_plain : packed ≡ false → length (body_from file from) ≡ 49152 → (length area ≡ 131072 → after ≡ spread area (body_from file from))
      → ReadsBody (body_into packed (blank 131072) from (drop from file)) (length area) Whole after
  unfolding body_into
  read_plain e l q = rw (e, ← to_end file from, eq-eqb _ _ l) (refl, λ n. q n ∙ ap (λ (a : List ℕ). spread a (body_from file from)) (lent.zeros n))

  pub read_wrong : (m : ℕ) (r : BodyAnswer) → packed ≡ false → (length (body_from file from) ≡ 49152 → ⊥) → m ≡ length_counted (length (body_from file from)) → r ≡ Faulty (length_fault 1 from m 49152)
      → ReadsBody (body_into packed (blank 131072) from (drop from file)) (length area) r area
  unfolding body_into
  read_wrong m r e l c f =
      rw (e, ← to_end file from, ne_eqb _ _ l) (f ∙ ap (λ (n : ℕ). Faulty (length_fault 1 from n 49152)) c, lent.zeros)

-- the faults of a body
pub fault_of_body : (why : Refusal) (place : ℕ) (fault : FileFault) → fault ≡ fault_in 1 place why → Faulty fault ≡ Faulty (fault_in 1 place why)
fault_of_body why place fault e = ap Faulty e

pub length_of_body : (place found : ℕ) (fault : FileFault) → fault ≡ length_fault 1 place found 49152 → Faulty fault ≡ Faulty (length_fault 1 place found 49152)
length_of_body place found fault e = ap Faulty e
