-- What a header that is accepted tells; the fault of one that is refused names no place.
use Prim.Native.Nat.{ℕ, ◌%◌, ◌≤◌}
use native.Mathlib.Omega.{arith}
use mathlib.Core.Path.{◌≡◌, refl, sym, subst, ◌∙◌}
use mathlib.Core.Bool.{Bool, true, false, not}
use mathlib.Core.List.{List}
use lib.ListN.{length}
use lib.Dec.{eqb, ltb, leb}
use borrow.Author.Tests.{eqb-false, ltb-false}
use Rattle.slices.specs.Choose.{choose}
use Rattle.slices.specs.Bytes.{at, word_at, bit_at}
use Rattle.pages.specs.declared.Model.{Model}
use Rattle.pages.specs.declared.Model.TheVariants.{K48, K128}
use Rattle.spectrum.specs.declared.Attachment.{Attachment}
use Rattle.spectrum.specs.declared.Attachment.TheVariants.{Nothing}
use Rattle.numbers.specs.declared.FileFault.{FileFault}
use Rattle.numbers.specs.Numbers.{refusal_number}
use Rattle.numbers.specs.Faults.{file_short, is_placed, is_figured, NamedFigures}
use Rattle.numbers.proofs.FaultPlaces.{FaultIn, nowhere, FaultFigures, with_figures_lem, no_figures_at_all}
use Rattle.clock.specs.Clock.{quarter}
use Rattle.header.specs.declared.Version.{Version}
use Rattle.header.specs.declared.Version.TheVariants.{V1, V2, V3}
use Rattle.header.specs.declared.Known.{Known}
use Rattle.header.specs.declared.Known.TheVariants.{Is, Unknown}
use Rattle.header.specs.declared.Mode.{Mode}
use Rattle.header.specs.declared.Mode.TheVariants.{Carried, NotCarried}
use Rattle.header.specs.declared.Head.{Head}
use Rattle.header.specs.declared.Head.TheVariants.{Refused, Header}
use Rattle.header.specs.Heads.{byte12_of, header_length, version_of, mode_of, clock_head, mode_head, later_head, first_head, head_of}
use Rattle.header.specs.Inner.{Readable}

-- what an accepted header tells
pub record Opens (s : List ℕ) (v : Version) (model : Model) : Type 0 where
  pub im : at s 29 % 4 ≡ 3 → ⊥
  pub readable : Readable v model s
  pub first : v ≡ V1 → model ≡ K48

-- a fault that names no place and no block
abbrev Placeless : FileFault → Type 0
Placeless fault = (is_placed (refusal_number fault.why) ≡ false) × ((fault.place ≡ 0) × FaultFigures fault)

abbrev Tells : List ℕ → Head → Type 0
Tells s (Refused fault) = Placeless fault
Tells s (Header v model a) = Opens s v model

keeps : (s : List ℕ) (t : Bool) (fault : FileFault) (h : Head) → Placeless fault → (t ≡ false → Tells s h) → Tells s (choose t (Refused fault) h)
keeps s true fault h p f = p
keeps s false fault h p f = f refl

-- without a place or a block: with figures, and without
head_figured : (number found due : ℕ) → is_placed number ≡ false → is_figured number ≡ true → (is_placed number ≡ false) × ((◌≡◌ {A = ℕ} 0 0) × NamedFigures number 0 found due)
head_figured number found due p f = (p, (refl, with_figures_lem number found due p f))

head_bare : (number : ℕ) → is_placed number ≡ false → (is_placed number ≡ false) × ((◌≡◌ {A = ℕ} 0 0) × NamedFigures number 0 0 0)
head_bare number p = (p, (refl, no_figures_at_all number p))

not_128 : K48 ≡ K128 → ⊥
not_128 e = let z : ◌≡◌ {A = ℕ} 0 1 = cc in omega arith

not_v1 : (v : Version) → 55 ≤ header_length v → v ≡ V1 → ⊥
not_v1 v h e = let k : 55 ≤ header_length V1 = rw e at h in omega arith

first_tells : (s : List ℕ) → 30 ≤ length s → Tells s (first_head s)
first_tells s h =
    keeps s (bit_at (byte12_of s) 16) _ _ (head_bare 4 refl) (λ _. keeps s (eqb (at s 29 % 4) 3) _ _ (head_bare 5 refl) (λ e.
    record { im = eqb-false _ _ e; readable = record { long = h; later = λ q. absurd (not_128 q) }; first = λ _. refl }))

clock_tells : (v : Version) (model : Model) (a : Attachment) (s : List ℕ) → (at s 29 % 4 ≡ 3 → ⊥) → Readable v model s → (v ≡ V1 → model ≡ K48)
    → Tells s (clock_head v model a s)
clock_tells V1 model a s i r f = record { im = i; readable = r; first = f }
clock_tells V2 model a s i r f = record { im = i; readable = r; first = f }
clock_tells V3 model a s i r f =
    keeps s (leb (quarter model) (word_at s 55)) _ _ (head_figured 6 _ _ refl refl) (λ _. keeps s (ltb 3 (at s 57)) _ _ (head_figured 6 _ _ refl refl) (λ _. keeps s (not (eqb (at s 60) 0)) _ _ (head_bare 7 refl) (λ _.
    record { im = i; readable = r; first = f })))

mode_tells : (v : Version) (f : Mode) (s : List ℕ) → ((model : Model) (a : Attachment) → f ≡ Carried model a → (Readable v model s) × (v ≡ V1 → model ≡ K48)) → Tells s (mode_head v f s)
mode_tells v NotCarried s r = head_bare 4 refl
mode_tells v (Carried model a) s r = keeps s (eqb (at s 29 % 4) 3) _ _ (head_bare 5 refl) (λ e. clock_tells v model a s (eqb-false _ _ e) (r model a refl).0 (r model a refl).1)

later_tells : (f : Known) (s : List ℕ) → Tells s (later_head f s)
later_tells Unknown s = head_bare 3 refl
later_tells (Is V1) s =
    keeps s (ltb (length s) 30) _ _ (head_figured 2 (length s) 30 refl refl) (λ e. mode_tells V1 (Carried K48 Nothing) s (λ model a q.
    (let z : K48 ≡ model = cc in (record { long = ltb-false _ _ e; later = λ k. absurd (not_128 (z ∙ k)) }, λ _. sym z))))
later_tells (Is V2) s =
    keeps s (ltb (length s) 55) _ _ (head_figured 2 (length s) 55 refl refl) (λ e. mode_tells V2 (mode_of V2 (at s 34)) s (λ model a q.
    (record { long = ltb-false _ _ e; later = λ _. ltb-false _ _ e }, λ k. absurd (not_v1 V2 (omega arith) k))))
later_tells (Is V3) s =
    keeps s (ltb (length s) 86) _ _ (head_figured 2 (length s) 86 refl refl) (λ e. mode_tells V3 (mode_of V3 (at s 34)) s (λ model a q.
    (let l : 86 ≤ length s = ltb-false _ _ e in (record { long = l; later = λ _. omega arith }, λ k. absurd (not_v1 V3 (omega arith) k)))))

head_tells : (s : List ℕ) → Tells s (head_of s)
unfolding head_of
head_tells s = keeps s (ltb (length s) 30) _ _ (head_figured 2 (length s) 30 refl refl) (λ e. go (ltb-false _ _ e) (eqb (word_at s 6) 0))
  where
    go : 30 ≤ length s → (t : Bool) → Tells s (choose t (choose (ltb (length s) 32) (Refused (file_short (length s) 32)) (later_head (version_of (word_at s 30)) s)) (first_head s))
    go h true = keeps s (ltb (length s) 32) _ _ (head_figured 2 (length s) 32 refl refl) (λ _. later_tells (version_of (word_at s 30)) s)
    go h false = first_tells s h

pub opens : (s : List ℕ) (h : Head) (v : Version) (model : Model) (a : Attachment) → h ≡ head_of s → h ≡ Header v model a → Opens s v model
opens s h v model a e q = subst (Tells s) (sym e ∙ q) (head_tells s)

pub head_unplaced : (s : List ℕ) (fault : FileFault) → head_of s ≡ Refused fault → FaultIn fault (length s) × FaultFigures fault
head_unplaced s fault q =
    let t : Placeless fault = subst (Tells s) q (head_tells s) in
    (rw t.1.0 (nowhere (refusal_number fault.why) (length s) t.0), t.1.1)
