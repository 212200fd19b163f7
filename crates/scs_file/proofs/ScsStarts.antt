-- What an accepted SCS file gives: a start, and all that SCS keeps.
use Prim.Native.Nat.{ℕ, ◌<◌}
use native.Mathlib.Omega.{arith}
use mathlib.Core.Path.{◌≡◌, refl, sym, ap, subst, ◌∙◌}
use mathlib.Core.Bool.{Bool, true, false}
use mathlib.Core.List.{List}
use lib.ListN.{get_or, take, drop, length-take, get_or-eq_default}
use lib.Seq.{get_or-take, get_or-drop}
use lib.Dec.{eqb, ltb}
use borrow.Author.Tests.{eqb-true, eqb-false, ltb-true, ltb-false}
use Rattle.slices.proofs.Chosen.{either}
use Rattle.pages.specs.declared.Model.{Model}
use Rattle.numbers.specs.Numbers.{accepted}
use Rattle.numbers.proofs.Numbers.{refused_not}
use Rattle.spectrum.specs.Valid.{Typed}
use Rattle.z80read.specs.Read.{ReadResult, accepted_read}
use Rattle.z80file.specs.Clean.{Clean, ReadGives}
use Rattle.scs_blocks.specs.declared.ScsPart.{ScsPart}
use Rattle.scs_blocks.specs.declared.ScsPart.TheVariants.{Absent, Stands}
use Rattle.scs_blocks.specs.declared.ScsFound.{ScsFound}
use Rattle.scs_blocks.specs.declared.ScsFound.TheVariants.{Bad, Blocks}
use Rattle.scs_blocks.specs.ScsBlocks.{three_seen, scs_blocks, data_of, zero_filled}
use Rattle.scs_blocks.proofs.ScsFilled.{filled_long, filled_at}
use Rattle.scs_machine.specs.ScsMachine.{scs_mode, scs_machine}
use Rattle.scs_file.specs.ScsKeeps.{scs_keeps}
use Rattle.scs_file.proofs.ScsKept.{keeps_read}
use Rattle.scs_machine.proofs.ScsValid.{scs_valid, scs_typed}
use Rattle.scs_memory.specs.ScsMemory.{scs_memory}
use Rattle.scs_head.specs.declared.ScsHead.{ScsHead}
use Rattle.scs_head.specs.declared.ScsHead.TheVariants.{Spectrum}
use Rattle.scs_head.specs.ScsHeads.{scs_head_of}
use Rattle.scs_read.specs.ScsReads.{after_found, after_scs_head, scs_read_of}
use Rattle.scs_write.specs.ScsWritten.{scs_file_of}
use Rattle.scs_file.proofs.ScsAreas.{clean_scs_memory}
use Rattle.scs_file.proofs.ScsFileBack.{scs_file_back}

-- an accepted result: its three blocks, and what they give
record ScsTaken (s : List ℕ) (n : ℕ) (o : ReadResult) : Type 0 where
  model : Model
  cpu : ScsPart
  ports : ScsPart
  memory : ScsPart
  whole : n ≡ 131072
  mode : scs_mode (zero_filled 34 (data_of s cpu)) ≡ 3 → ⊥
  is : o ≡ accepted_read (scs_machine model (zero_filled 34 (data_of s cpu)) (zero_filled 19 (data_of s ports))) (scs_memory model (data_of s memory))

module _ (s : List ℕ) (n : ℕ) where
  abbrev IfTaken : ReadResult → Type 0
  IfTaken o = o.answer ≡ accepted → ScsTaken s n o

  found_taken : (model : Model) (f : ScsFound) → n ≡ 131072 → IfTaken (after_found f model s n)
  found_taken model (Bad fault) w a = absurd (refused_not fault.why a)
  found_taken model (Blocks seen) w a =
      either IfTaken (three_seen seen) _ _
      (λ e. either IfTaken (eqb (scs_mode (zero_filled 34 (data_of s seen.cpu))) 3) _ _ (λ q a. absurd (refused_not _ a))
      (λ q a. record { model = model; cpu = seen.cpu; ports = seen.ports; memory = seen.memory; whole = w; mode = eqb-false _ _ q; is = refl }))
      (λ e a. absurd (refused_not _ a)) a

  head_taken : (h : ScsHead) → n ≡ 131072 → IfTaken (after_scs_head h s n)
  head_taken (ScsHead.Bad why) w a = absurd (refused_not why a)
  head_taken (Spectrum model) w a = found_taken model (scs_blocks s 15) w a

  scs_taken : IfTaken (scs_read_of s n)
  unfolding scs_read_of
  scs_taken = either IfTaken (eqb n 131072) _ _ (λ e. head_taken (scs_head_of s) (eqb-true _ _ e)) (λ e a. absurd (refused_not _ a))

clean_is : (model : Model) (cpu ports xs : List ℕ) → Clean (scs_machine model cpu ports).model (scs_memory model xs)
unfolding scs_machine
clean_is model cpu ports xs = clean_scs_memory model xs

pub scs_start : (s : List ℕ) (n : ℕ) → (scs_read_of s n).answer ≡ accepted → ReadGives (scs_read_of s n).machine (scs_read_of s n).memory n
scs_start s n a =
    let t = scs_taken s n a in
    subst (λ (o : ReadResult). ReadGives o.machine o.memory n) (sym t.is)
    (record {
      whole_area = t.whole;
      valid = scs_valid t.model (zero_filled 34 (data_of s t.cpu)) (zero_filled 19 (data_of s t.ports)) t.mode;
      clean = clean_is t.model _ _ (data_of s t.memory);
    })

-- bytes stay bytes
abbrev Bytes : List ℕ → Type 0
Bytes l = (i : ℕ) → get_or l i 0 < 256

filled_bytes : (n : ℕ) (l : List ℕ) → Bytes l → Bytes (zero_filled n l)
filled_bytes n l h i = go (ltb i n) refl
  where
    go : (b : Bool) → ltb i n ≡ b → get_or (zero_filled n l) i 0 < 256
    go true e = rw (filled_at n l i (ltb-true i n e)) (h i)
    go false e = let k = ltb-false i n e in rw (get_or-eq_default (zero_filled n l) 0 {n = i} (omega (arith, filled_long n l))) (omega arith)

data_bytes : (s : List ℕ) (p : ScsPart) → Bytes s → Bytes (data_of s p)
data_bytes s Absent h i = omega arith
data_bytes s (Stands from size) h i = go (ltb i size) refl
  where
    go : (b : Bool) → ltb i size ≡ b → get_or (take size (drop from s)) i 0 < 256
    go true e = rw (get_or-take size (drop from s) i 0 (ltb-true i size e), get_or-drop from s i 0) (h _)
    go false e = let k = ltb-false i size e in rw (get_or-eq_default (take size (drop from s)) 0 {n = i} (simp length-take (omega arith))) (omega arith)

pub scs_read_typed : (s : List ℕ) (n : ℕ) → ((i : ℕ) → get_or s i 0 < 256) → (scs_read_of s n).answer ≡ accepted → Typed (scs_read_of s n).machine
scs_read_typed s n h a =
    let t = scs_taken s n a in
    let b : (k : ℕ) (p : ScsPart) → Bytes (zero_filled k (data_of s p)) = λ k p. filled_bytes k (data_of s p) (data_bytes s p h) in
    subst (λ (o : ReadResult). Typed o.machine) (sym t.is) (scs_typed t.model _ _ (b 34 t.cpu) (b 19 t.ports) (filled_long 19 (data_of s t.ports)))

-- SCS keeps all of a machine that it gave
pub scs_kept_all : (s : List ℕ) (n : ℕ) → (scs_read_of s n).answer ≡ accepted → scs_keeps (scs_read_of s n).machine ≡ (scs_read_of s n).machine
scs_kept_all s n a =
    let t = scs_taken s n a in
    ap (λ (x : ReadResult). scs_keeps x.machine) t.is ∙ keeps_read t.model _ _ ∙ sym (ap (λ (x : ReadResult). x.machine) t.is)

pub scs_again : (s : List ℕ) (n : ℕ) → ((i : ℕ) → get_or s i 0 < 256) → (scs_read_of s n).answer ≡ accepted
    → scs_read_of (scs_file_of (scs_read_of s n).machine (scs_read_of s n).memory) 131072 ≡ scs_read_of s n
scs_again s n h a =
    let o = scs_read_of s n in
    let g = scs_start s n a in
    scs_file_back o.machine o.memory (scs_read_typed s n h a) g.valid g.clean
    ∙ (λ i. record { answer = sym a i; place = sym (ap (λ (x : ReadResult). x.place) (scs_taken s n a).is) i; machine = scs_kept_all s n a i; memory = o.memory })
