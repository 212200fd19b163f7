-- The header's refusals, at each return of the code.
use Prim.Native.Nat.{ℕ, ◌-◌, ◌/◌, ◌%◌, ◌<◌, ◌≤◌}
use native.Mathlib.Omega.{arith}
use mathlib.Core.Path.{◌≡◌, sym, ap, ◌∙◌}
use mathlib.Core.Bool.{Bool, true, false}
use mathlib.Core.List.{List}
use lib.ListN.{length}
use lib.Dec.{eqb}
use borrow.Author.Tests.{lt-ltb, le-ltb, le-leb, lt-leb, eq-eqb, ne_eqb}
use Rattle.slices.specs.Choose.{choose}
use Rattle.slices.specs.Bytes.{at, word_at}
use Rattle.pages.specs.declared.Model.{Model}
use Rattle.pages.specs.declared.Model.TheVariants.{K48, K128}
use Rattle.spectrum.specs.declared.Attachment.{Attachment}
use Rattle.spectrum.specs.declared.Attachment.TheVariants.{Nothing}
use Rattle.numbers.specs.declared.Refusal.TheVariants.{UnknownVersion, ModeNotCarried, InterruptMode, Byte60}
use Rattle.numbers.specs.Faults.{unplaced, file_short, counter_beyond}
use Rattle.clock.specs.Clock.{quarter}
use Rattle.header.specs.declared.Version.{Version}
use Rattle.header.specs.declared.Version.TheVariants.{V1, V2, V3}
use Rattle.header.specs.declared.Known.{Known}
use Rattle.header.specs.declared.Known.TheVariants.{Is, Unknown}
use Rattle.header.specs.declared.Mode.{Mode}
use Rattle.header.specs.declared.Mode.TheVariants.{Carried, NotCarried}
use Rattle.header.specs.declared.Head.{Head}
use Rattle.header.specs.declared.Head.TheVariants.{Refused, Header}
use Rattle.header.specs.Heads.{byte12_of, header_length, version_of, mode2, mode3, mode_of, clock_head, mode_head, later_head, first_head, head_of}

-- how long a header is
pub long_30 : (v : Version) (n : ℕ) → header_length v ≤ n → 30 ≤ n
long_30 V1 n h = h
long_30 V2 n h = omega arith
long_30 V3 n h = omega arith

pub long_v2 : (v : Version) (n : ℕ) → v ≡ V2 → header_length v ≤ n → 55 ≤ n
long_v2 v n e h = rw e at h

pub long_v3 : (v : Version) (n : ℕ) → v ≡ V3 → header_length v ≤ n → 86 ≤ n
long_v3 v n e h = rw e at h

pub inside_29 : (v : Version) (n : ℕ) → header_length v ≤ n → 29 < n
inside_29 v n h = let k = long_30 v n h in omega arith

-- byte 12
pub byte12_255 : (s : List ℕ) → at s 12 ≡ 255 → 1 ≡ byte12_of s
byte12_255 s e = rw (eq-eqb _ _ e)

pub byte12_other : (s : List ℕ) → (at s 12 ≡ 255 → ⊥) → at s 12 ≡ byte12_of s
byte12_other s h = rw (ne_eqb _ _ h)

-- the default arms
pub version_other : (n : ℕ) → (n ≡ 23 → ⊥) → (n ≡ 54 → ⊥) → Unknown ≡ version_of n
version_other n a b = simp (ne_eqb n 23 a, ne_eqb n 54 b)

pub mode2_other : (n : ℕ) → (n ≡ 0 → ⊥) → (n ≡ 1 → ⊥) → (n ≡ 3 → ⊥) → (n ≡ 4 → ⊥) → NotCarried ≡ mode2 n
mode2_other n a b c d = simp (ne_eqb n 0 a, ne_eqb n 1 b, ne_eqb n 3 c, ne_eqb n 4 d)

pub mode3_other : (n : ℕ) → (n ≡ 0 → ⊥) → (n ≡ 1 → ⊥) → (n ≡ 3 → ⊥) → (n ≡ 4 → ⊥) → (n ≡ 5 → ⊥) → (n ≡ 6 → ⊥) → NotCarried ≡ mode3 n
mode3_other n a b c d e f = simp (ne_eqb n 0 a, ne_eqb n 1 b, ne_eqb n 3 c, ne_eqb n 4 d, ne_eqb n 5 e, ne_eqb n 6 f)

pub mode_v1 : (v : Version) (n : ℕ) → v ≡ V1 → Carried K48 Nothing ≡ mode_of v n
mode_v1 v n e = rw e

pub mode_v2 : (v : Version) (n : ℕ) (r : Mode) → v ≡ V2 → r ≡ mode2 n → r ≡ mode_of v n
mode_v2 v n r e q = rw e q

pub mode_v3 : (v : Version) (n : ℕ) (r : Mode) → v ≡ V3 → r ≡ mode3 n → r ≡ mode_of v n
mode_v3 v n r e q = rw e q

-- v1
module _ (s : List ℕ) (b : ℕ) (eb : b ≡ byte12_of s) where
  pub first_samrom : (r : Head) → b / 16 % 2 ≡ 1 → r ≡ Refused (unplaced ModeNotCarried) → r ≡ first_head s
  first_samrom r h q = rw (← eb, eq-eqb (b / 16 % 2) 1 h) q

  pub first_im : (r : Head) → (b / 16 % 2 ≡ 1 → ⊥) → at s 29 % 4 ≡ 3 → r ≡ Refused (unplaced InterruptMode) → r ≡ first_head s
  first_im r h k q = rw (← eb, ne_eqb (b / 16 % 2) 1 h, eq-eqb (at s 29 % 4) 3 k) q

  pub first_good : (b / 16 % 2 ≡ 1 → ⊥) → (at s 29 % 4 ≡ 3 → ⊥) → Header V1 K48 Nothing ≡ first_head s
  first_good h k = rw (← eb, ne_eqb (b / 16 % 2) 1 h, ne_eqb (at s 29 % 4) 3 k)

-- the clock
module _ (model : Model) (a : Attachment) (s : List ℕ) (q w : ℕ) (eq : q ≡ quarter model) (ew : w ≡ word_at s 55) where
  pub clock_low : (r : Head) → q ≤ w → r ≡ Refused (counter_beyond w (q - 1)) → r ≡ clock_head V3 model a s
  clock_low r h p = rw (← eq, ← ew, le-leb q w h) p

  pub clock_high : (n : ℕ) (r : Head) → w < q → 3 < at s 57 → n ≡ at s 57 → r ≡ Refused (counter_beyond n 3) → r ≡ clock_head V3 model a s
  clock_high n r h k z p = rw (← eq, ← ew, lt-leb q w h, lt-ltb 3 (at s 57) k, ← z) p

  pub clock_60 : (r : Head) → w < q → at s 57 ≤ 3 → (at s 60 ≡ 0 → ⊥) → r ≡ Refused (unplaced Byte60) → r ≡ clock_head V3 model a s
  clock_60 r h k z p = rw (← eq, ← ew, lt-leb q w h, le-ltb 3 (at s 57) k, ne_eqb (at s 60) 0 z) p

  pub clock_good : w < q → at s 57 ≤ 3 → at s 60 ≡ 0 → Header V3 model a ≡ clock_head V3 model a s
  clock_good h k z = rw (← eq, ← ew, lt-leb q w h, le-ltb 3 (at s 57) k, eq-eqb (at s 60) 0 z)

-- a mode that is carried
module _ (v : Version) (model : Model) (a : Attachment) (s : List ℕ) where
  pub mode_im : (r : Head) → at s 29 % 4 ≡ 3 → r ≡ Refused (unplaced InterruptMode) → r ≡ mode_head v (Carried model a) s
  mode_im r h q = rw (eq-eqb (at s 29 % 4) 3 h) q

  module _ (h : at s 29 % 4 ≡ 3 → ⊥) where
    pub mode_1 : v ≡ V1 → Header V1 model a ≡ mode_head v (Carried model a) s
    mode_1 e = rw (e, ne_eqb (at s 29 % 4) 3 h)

    pub mode_2 : v ≡ V2 → Header V2 model a ≡ mode_head v (Carried model a) s
    mode_2 e = rw (e, ne_eqb (at s 29 % 4) 3 h)

    pub mode_3 : (r : Head) → v ≡ V3 → r ≡ clock_head V3 model a s → r ≡ mode_head v (Carried model a) s
    mode_3 r e q = rw (e, ne_eqb (at s 29 % 4) 3 h) q

-- the later versions
module _ (v : Version) (s : List ℕ) (l : ℕ) (el : l ≡ header_length v) where
  pub later_short : (r : Head) → length s < l → r ≡ Refused (file_short (length s) l) → r ≡ later_head (Is v) s
  later_short r h q = rw (← el, lt-ltb (length s) l h) q

  module _ (f : Mode) (h : l ≤ length s) (ef : f ≡ mode_of v (at s 34)) where
    pub later_mode : (r : Head) → f ≡ NotCarried → r ≡ Refused (unplaced ModeNotCarried) → r ≡ later_head (Is v) s
    later_mode r e q = rw (← el, le-ltb (length s) l h, ← ef, e) q

    pub later_good : (model : Model) (a : Attachment) (r : Head) → f ≡ Carried model a → r ≡ mode_head v (Carried model a) s → r ≡ later_head (Is v) s
    later_good model a r e q = rw (← el, le-ltb (length s) l h, ← ef, e) q

-- the whole
module _ (s : List ℕ) where
  pub head_30 : (r : Head) → length s < 30 → r ≡ Refused (file_short (length s) 30) → r ≡ head_of s
  unfolding head_of
  head_30 r h q = rw (lt-ltb (length s) 30 h) q

  module _ (h : 30 ≤ length s) (w : ℕ) (ew : w ≡ word_at s 6) where
    pub head_v1 : (r : Head) → (w ≡ 0 → ⊥) → r ≡ first_head s → r ≡ head_of s
    unfolding head_of
    head_v1 r z q = rw (le-ltb (length s) 30 h, ← ew, ne_eqb w 0 z) q

    pub head_32 : (r : Head) → w ≡ 0 → length s < 32 → r ≡ Refused (file_short (length s) 32) → r ≡ head_of s
    unfolding head_of
    head_32 r z k q = rw (le-ltb (length s) 30 h, ← ew, eq-eqb w 0 z, lt-ltb (length s) 32 k) q

    module _ (z : w ≡ 0) (k : 32 ≤ length s) (n : ℕ) (f : Known) (en : n ≡ word_at s 30) (ef : f ≡ version_of n) where
      head_is_later : later_head f s ≡ head_of s
      unfolding head_of
      head_is_later = rw (le-ltb (length s) 30 h, ← ew, eq-eqb w 0 z, le-ltb (length s) 32 k, ← en, ← ef)

      pub head_3 : (r : Head) → f ≡ Unknown → r ≡ Refused (unplaced UnknownVersion) → r ≡ head_of s
      head_3 r e q = q ∙ ap (λ (x : Known). later_head x s) (sym e) ∙ head_is_later

      pub head_later : (v : Version) (r : Head) → f ≡ Is v → r ≡ later_head (Is v) s → r ≡ head_of s
      head_later v r e q = q ∙ ap (λ (x : Known). later_head x s) (sym e) ∙ head_is_later

-- a version that the word names has 55 bytes or more
pub later_long : (n : ℕ) (f : Known) (v : Version) → f ≡ version_of n → f ≡ Is v → 55 ≤ header_length v
later_long n f v e q = go (eqb n 23) (eqb n 54) (sym q ∙ e)
  where
    go : (x y : Bool) → Is v ≡ choose x (Is V2) (choose y (Is V3) Unknown) → 55 ≤ header_length v
    go true y p = let w : v ≡ V2 = cc in rw w (omega arith)
    go false true p = let w : v ≡ V3 = cc in rw w (omega arith)
    go false false p = let w : ◌≡◌ {A = ℕ} 0 1 = cc in absurd (omega arith)

-- a quarter of a frame is not empty
pub quarter_some : (model : Model) (q : ℕ) → q ≡ quarter model → 1 ≤ q
quarter_some K48 q e = omega arith
quarter_some K128 q e = omega arith
