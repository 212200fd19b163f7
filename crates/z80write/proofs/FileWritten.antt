-- The definition of `written_of` case by case, and each way out of `write`.
use Prim.Native.Nat.{ℕ, ◌+◌, ◌-◌, ◌≤◌, ◌<◌}
use native.Mathlib.Omega.{arith}
use mathlib.Core.Path.{◌≡◌, refl, sym, ap, subst, ◌∙◌}
use mathlib.Core.Bool.{Bool, true, false}
use mathlib.Core.List.{List, ◌++◌, append_assoc, append-nil}
use lib.ListN.{length, take, drop, replicate, length-append}
use lib.Seq.{drop_at, drop-length, length-take-le}
use borrow.Author.Tests.{eq-eqb, ne_eqb, le-leb, lt-leb}
use borrow.Rule.Slice.PartMut.{put_mid, mid_of, post_of, mid_len, same_len_mid, Post-is}
use Rattle.packed.specs.Packing.{Packs}
use Rattle.packed.specs.declared.Fit.{Fit}
use Rattle.packed.specs.declared.Fit.TheVariants.{Length, TooShort}
use Rattle.spectrum.specs.declared.Machine.{Machine}
use Rattle.numbers.specs.declared.Refusal.TheVariants.{InvalidMachine, MemoryLength, OutputShort}
use Rattle.numbers.specs.Numbers.{accepted}
use Rattle.pages.specs.Pages.{slots}
use Rattle.spectrum.specs.Valid.{valid_of, Typed}
use Rattle.header_write.specs.Writing.{header_of}
use Rattle.header_write.proofs.WriteSteps.{header_86}
use Rattle.z80write.specs.declared.Written.{Written}
use Rattle.blocks_write.specs.Laid.{laid}
use Rattle.z80write.specs.Written.{file_of, WriteResult, refused_write, accepted_write, written_of, Writes}
use Rattle.block_write.proofs.Fits.{InRoom, OutOfRoom, FitSays, says}

abbrev pub blocks_of : Machine → List ℕ → List ℕ
blocks_of m area = laid (slots m.model) area

pub file_long : (m : Machine) (area : List ℕ) → Typed m → length (file_of m area) ≡ 86 + length (blocks_of m area)
file_long m area t = length-append (header_of m) (blocks_of m area) ∙ ap (λ (n : ℕ). n + length (blocks_of m area)) (header_86 m t)

-- the definition, case by case
not_valid : (m : Machine) (area : List ℕ) (n : ℕ) → valid_of m ≡ false → written_of m area n ≡ refused_write InvalidMachine n
unfolding written_of
not_valid m area n v = rw v

wrong_area : (m : Machine) (area : List ℕ) (n : ℕ) → valid_of m ≡ true → (length area ≡ 131072 → ⊥) → written_of m area n ≡ refused_write MemoryLength n
unfolding written_of
wrong_area m area n v h = rw (v, ne_eqb (length area) 131072 h)

module _ (m : Machine) (area : List ℕ) (n : ℕ) (v : valid_of m ≡ true) (h : length area ≡ 131072) where
  no_room : n < length (file_of m area) → written_of m area n ≡ refused_write OutputShort n
  unfolding written_of
  no_room k = rw (v, eq-eqb (length area) 131072 h, lt-leb (length (file_of m area)) n k)

  pub written_fits : length (file_of m area) ≤ n → written_of m area n ≡ accepted_write (file_of m area) n
  unfolding written_of
  written_fits k = rw (v, eq-eqb (length area) 131072 h, le-leb (length (file_of m area)) n k)

-- what is shown of one result holds of an equal one
equally : {o p : WriteResult} {r : Written} {d : List ℕ} → p ≡ o → Writes o r d → Writes p r d
equally {o} {p} {r} {d} e w = subst (λ (x : WriteResult). Writes x r d) (sym e) w

module _ (m : Machine) (area d₀ : List ℕ) (v : Bool) (u : v ≡ valid_of m) where
  pub writes_invalid : (r : Written) (d : List ℕ) → Writes (refused_write InvalidMachine (length d₀)) r d → v ≡ false → Writes (written_of m area (length d₀)) r d
  writes_invalid r d w k = equally (not_valid m area (length d₀) (sym u ∙ k)) w

  pub writes_area : (r : Written) (d : List ℕ) → Writes (refused_write MemoryLength (length d₀)) r d → v ≡ true → (length area ≡ 131072 → ⊥) → Writes (written_of m area (length d₀)) r d
  writes_area r d w k h = equally (wrong_area m area (length d₀) (sym u ∙ k) h) w

  module _ (k : v ≡ true) (h : length area ≡ 131072) (t : Typed m) where
    pub writes_front : (r : Written) (d : List ℕ) → Writes (refused_write OutputShort (length d₀)) r d → length d₀ < 86 → Writes (written_of m area (length d₀)) r d
    writes_front r d w s = equally (no_room m area (length d₀) (sym u ∙ k) h (omega (arith, file_long m area t))) w

    module _ (f : Fit) (l : List ℕ) (j : 86 ≤ length d₀) (g : Packs (blocks_of m area) (length (mid_of 86 (length d₀ - 86) d₀)) f l) where
      blocks_say : FitSays (blocks_of m area) (length d₀ - 86) f l
      blocks_say = says (blocks_of m area) (length d₀ - 86) f l (subst (λ (n : ℕ). Packs (blocks_of m area) n f l) (mid_len 86 (length d₀) d₀ (omega arith)) g)

      pub blocks_room : (n : ℕ) → f ≡ Length n → 86 + n ≤ length d₀
      blocks_room n q =
          let w : InRoom (blocks_of m area) (length d₀ - 86) n l = subst (λ (z : Fit). FitSays (blocks_of m area) (length d₀ - 86) z l) q blocks_say in
          omega (arith, w.room)

      pub writes_short : (r : Written) (d : List ℕ) → Writes (refused_write OutputShort (length (put_mid 86 (length d₀ - 86) d₀ l))) r d → f ≡ TooShort
          → Writes (written_of m area (length d₀)) r d
      writes_short r d w q =
          let o : OutOfRoom (blocks_of m area) (length d₀ - 86) l = subst (λ (y : Fit). FitSays (blocks_of m area) (length d₀ - 86) y l) q blocks_say in
          let same : length (put_mid 86 (length d₀ - 86) d₀ l) ≡ length d₀ = same_len_mid 86 (length d₀ - 86) d₀ l (o.long ∙ sym (mid_len 86 (length d₀) d₀ (omega arith))) in
          equally (no_room m area (length d₀) (sym u ∙ k) h (omega (arith, o.over, file_long m area t))) (subst (λ (n : ℕ). Writes (refused_write OutputShort n) r d) same w)

      pub writes_file : (n : ℕ) (d : List ℕ) → f ≡ Length n → d ≡ header_of m ++ drop 86 (put_mid 86 (length d₀ - 86) d₀ l)
          → Writes (written_of m area (length d₀)) (record { answer = accepted; length = 86 + n }) d
      writes_file n d q x =
          let w : InRoom (blocks_of m area) (length d₀ - 86) n l = subst (λ (z : Fit). FitSays (blocks_of m area) (length d₀ - 86) z l) q blocks_say in
          let fl = file_long m area t in
          let left : length d₀ - 86 - length (blocks_of m area) ≡ length d₀ - length (file_of m area) = omega arith in
          let blocks : drop 86 (put_mid 86 (length d₀ - 86) d₀ l) ≡ blocks_of m area ++ replicate (length d₀ - 86 - length (blocks_of m area)) 0 =
          drop_at (take 86 d₀) (l ++ post_of 86 (length d₀ - 86) d₀) 86 (length-take-le 86 d₀ j)
          ∙ ap (λ (z : List ℕ). l ++ z) (Post-is 86 (length d₀) d₀ j ∙ drop-length d₀)
          ∙ append-nil l
          ∙ w.there in
          equally (written_fits m area (length d₀) (sym u ∙ k) h (omega (arith, w.size, w.room)))
          (record {
            answer = refl;
            size = omega (arith, w.size);
            memory =
                x
                ∙ ap (λ (z : List ℕ). header_of m ++ z) blocks
                ∙ sym (append_assoc (header_of m) (blocks_of m area) (replicate (length d₀ - 86 - length (blocks_of m area)) 0))
                ∙ ap (λ (i : ℕ). file_of m area ++ replicate i 0) left;
          })
