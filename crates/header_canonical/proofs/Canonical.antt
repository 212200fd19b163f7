-- The test for header bytes: at each return of the code, and what it means.
use Prim.Native.Nat.{ℕ, ◌<◌}
use native.Mathlib.Omega.{arith}
use mathlib.Core.Path.{◌≡◌, refl, sym, ap, subst, ◌∙◌}
use mathlib.Core.Bool.{Bool, true, false}
use mathlib.Core.List.{List, [], ◌++◌, append-nil}
use lib.ListN.{length, get_or, drop, drop_of_length-le}
use lib.Dec.{eqb}
use borrow.Author.Tests.{eqb-true, eq-eqb, ne_eqb}
use Rattle.slices.specs.Choose.{choose, both}
use Rattle.slices.specs.Same.{same}
use Rattle.slices.specs.Bytes.{at}
use Rattle.slices.proofs.Chosen.{both_true, same_refl, same_true}
use Rattle.spectrum.specs.declared.Machine.{Machine}
use Rattle.pages.specs.declared.Model.{Model}
use Rattle.spectrum.specs.declared.Attachment.{Attachment}
use Rattle.spectrum.specs.Valid.{Typed, Valid, valid_of}
use Rattle.spectrum.proofs.Validity.{valid_says, valid_true}
use Rattle.header.specs.declared.Version.TheVariants.{V3}
use Rattle.header.specs.declared.Mode.{Mode}
use Rattle.header.specs.declared.Mode.TheVariants.{Carried, NotCarried}
use Rattle.header.specs.Heads.{mode3}
use Rattle.header.specs.Inner.{Readable}
use Rattle.header_read.specs.Reading.{machine_of}
use Rattle.header_read.proofs.MachineTyped.{machine_typed}
use Rattle.header_write.specs.Writing.{header_of, HeaderFor}
use Rattle.header_write.proofs.WriteSteps.{header_86}
use Rattle.header_canonical.specs.declared.DecodedHeader.{DecodedHeader}
use Rattle.header_canonical.specs.Canonical.{not_canonical, decoded_as, decoded_mode, decoded_of}
use Rattle.header_canonical.proofs.MachineBack.{machine_back}
use Rattle.header_canonical.proofs.HeadBack.{mode_back}

pub decoded_length : (s : List ℕ) (r : DecodedHeader) → (length s ≡ 86 → ⊥) → r ≡ not_canonical → r ≡ decoded_of s
unfolding decoded_of
decoded_length s r h q = rw (ne_eqb (length s) 86 h) q

module _ (s : List ℕ) (f : Mode) (h : length s ≡ 86) (e : f ≡ mode3 (at s 34)) where
  decoded_by_mode : decoded_mode f s ≡ decoded_of s
  unfolding decoded_of
  decoded_by_mode = rw (eq-eqb (length s) 86 h, ← e)

  pub taken_none : (r : DecodedHeader) → f ≡ NotCarried → r ≡ not_canonical → r ≡ decoded_of s
  taken_none r q p = p ∙ ap (λ (x : Mode). decoded_mode x s) (sym q) ∙ decoded_by_mode

  pub decoded_mode_lem : (model : Model) (a : Attachment) (r : DecodedHeader) → f ≡ Carried model a → r ≡ decoded_as (machine_of V3 model a s) s → r ≡ decoded_of s
  decoded_mode_lem model a r q p = p ∙ ap (λ (x : Mode). decoded_mode x s) (sym q) ∙ decoded_by_mode

pub readable_86 : (model : Model) (s : List ℕ) → length s ≡ 86 → Readable V3 model s
readable_86 model s h = record { long = omega arith; later = λ _. omega arith }

module _ (x : Machine) (m : Machine) (s : List ℕ) (t : Bool) (em : m ≡ x) (et : t ≡ valid_of m) where
  pub taken_good : (u : Bool) → u ≡ same s (header_of m) → t ≡ true → u ≡ true → record { canonical = true; machine = m } ≡ decoded_as x s
  taken_good u eu p q = rw (← em, ← et, ← eu, p, q)

  pub taken_other : (u : Bool) (r : DecodedHeader) → u ≡ same s (header_of m) → t ≡ true → u ≡ false → r ≡ not_canonical → r ≡ decoded_as x s
  taken_other u r eu p q k = rw (← em, ← et, ← eu, p, q) k

  pub taken_invalid : (r : DecodedHeader) → t ≡ false → r ≡ not_canonical → r ≡ decoded_as x s
  taken_invalid r p k = rw (← em, ← et, p) k

pub header_made : (m : Machine) (s h z : List ℕ) (r : Bool) → h ≡ header_of m ++ drop 86 z → length z ≡ 86 → r ≡ same s h → r ≡ same s (header_of m)
header_made m s h z r e l q =
    q ∙ ap (same s) (e ∙ ap (λ (x : List ℕ). header_of m ++ x) (drop_of_length-le z {i = 86} (omega arith)) ∙ append-nil (header_of m))

mode_is : (m : Machine) → Carried m.model m.attachment ≡ mode3 (at (header_of m) 34)
unfolding header_of
mode_is m = sym (mode_back m.model m.attachment)

taken_made : (m : Machine) → Typed m → Valid m → decoded_of (header_of m) ≡ record { canonical = true; machine = m }
taken_made m t v =
    let nil : header_of m ++ [] ≡ header_of m = append-nil (header_of m) in
    let b : machine_of V3 m.model m.attachment (header_of m) ≡ m = ap (machine_of V3 m.model m.attachment) (sym nil) ∙ machine_back m [] t v in
    sym (decoded_mode_lem (header_of m) (Carried m.model m.attachment) (header_86 m t) (mode_is m) m.model m.attachment _ refl
    (taken_good _ m (header_of m) true (sym b) (sym (valid_true m v)) true (sym (same_refl (header_of m))) refl refl))

-- what bytes are taken as, where they are taken
record Took (s : List ℕ) (t : DecodedHeader) : Type 0 where
  model : Model
  attachment : Attachment
  long : length s ≡ 86
  is : t.machine ≡ machine_of V3 model attachment s
  good : both (valid_of t.machine) (same s (header_of t.machine)) ≡ true

false_not_true : false ≡ true → ⊥
false_not_true e = let z : ◌≡◌ {A = ℕ} 0 1 = cc in omega arith

took : (s : List ℕ) → (decoded_of s).canonical ≡ true → Took s (decoded_of s)
unfolding decoded_of
took s h = go (eqb (length s) 86) refl (mode3 (at s 34)) h
  where
    valid : length s ≡ 86 → (k : Model) (a : Attachment) (m : Machine) (t : Bool) → both (valid_of m) (same s (header_of m)) ≡ t → m ≡ machine_of V3 k a s
        → (choose t (record { canonical = true; machine = m }) not_canonical).canonical ≡ true → Took s (choose t (record { canonical = true; machine = m }) not_canonical)
    valid l k a m true e q c = record { model = k; attachment = a; long = l; is = q; good = e }
    valid l k a m false e q c = absurd (false_not_true c)

    mode : length s ≡ 86 → (f : Mode) → (decoded_mode f s).canonical ≡ true → Took s (decoded_mode f s)
    mode l NotCarried c = absurd (false_not_true c)
    mode l (Carried k a) c = valid l k a (machine_of V3 k a s) _ refl refl c

    go : (t : Bool) → eqb (length s) 86 ≡ t → (f : Mode) → (choose t (decoded_mode f s) not_canonical).canonical ≡ true → Took s (choose t (decoded_mode f s) not_canonical)
    go true e f c = mode (eqb-true (length s) 86 e) f c
    go false e f c = absurd (false_not_true c)

-- bytes that are taken are the header of the machine that they are taken as
pub decoded_same : (s : List ℕ) → (decoded_of s).canonical ≡ true → s ≡ header_of (decoded_of s).machine
decoded_same s c =
    let m = (decoded_of s).machine in
    same_true s (header_of m) (both_true (valid_of m) (same s (header_of m)) (took s c).good).1

-- .. which is valid, and typed where they are bytes
pub decoded_is : (s : List ℕ) → ((i : ℕ) → get_or s i 0 < 256) → (decoded_of s).canonical ≡ true → HeaderFor (decoded_of s).machine s
decoded_is s h c =
    let t = took s c in
    record {
      valid = (both_true (valid_of (decoded_of s).machine) _ t.good).0;
      typed = subst Typed (sym t.is) (machine_typed s h V3 t.model t.attachment (readable_86 t.model s t.long));
      is = decoded_same s c;
    }

-- a valid machine's header is taken as that machine
pub decoded_back : (m : Machine) (s : List ℕ) → HeaderFor m s → decoded_of s ≡ record { canonical = true; machine = m }
decoded_back m s f = ap decoded_of f.is ∙ taken_made m f.typed (valid_says m f.typed.sound f.valid)

-- two machines do not share a header
pub one_machine : (m n : Machine) (s : List ℕ) → HeaderFor m s → HeaderFor n s → m ≡ n
one_machine m n s f g = ap (λ (t : DecodedHeader). t.machine) (sym (decoded_back m s f) ∙ decoded_back n s g)

-- bytes that are a header of ours are 86
pub decoded_86 : (head : List ℕ) (t : DecodedHeader) → t ≡ decoded_of head → t.canonical ≡ true → length head ≡ 86
unfolding decoded_of
decoded_86 head t e h = go (eqb (length head) 86) refl (ap (λ (x : DecodedHeader). x.canonical) (sym e) ∙ h)
  where
    go : (b : Bool) → eqb (length head) 86 ≡ b → (choose b (decoded_mode (mode3 (at head 34)) head) not_canonical).canonical ≡ true → length head ≡ 86
    go true q k = eqb-true (length head) 86 q
    go false q k = let z : ◌≡◌ {A = ℕ} 0 1 = cc in absurd (omega arith)
