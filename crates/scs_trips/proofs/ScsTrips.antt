-- An SCS file written and read back, and read and written, over bytes.
use Prim.Native.Nat.{ℕ, ◌+◌, ◌-◌, ◌<◌, ◌≤◌}
use native.Mathlib.Omega.{arith}
use mathlib.Core.Path.{◌≡◌, refl, sym, ap, subst, ◌∙◌}
use mathlib.Core.List.{List}
use lib.ListN.{length, get_or, take, drop, replicate}
use lib.Seq.{take_at}
use lib.Dec.{eqb, leb}
use borrow.Author.Tests.{leb-true, eqb-true}
use Rattle.slices.proofs.Chosen.{either}
use Rattle.numbers.specs.Numbers.{accepted}
use Rattle.numbers.proofs.Numbers.{number_0, refused_not}
use Rattle.spectrum.specs.declared.Machine.{Machine}
use Rattle.spectrum.specs.Valid.{valid_of}
use Rattle.header_write.specs.Writing.{header_of, HeaderFor}
use Rattle.header_canonical.specs.Canonical.{decoded_of}
use Rattle.header_canonical.proofs.Canonical.{decoded_back}
use Rattle.z80write.specs.Written.{WriteResult, accepted_write}
use Rattle.z80file.specs.Clean.{Clean}
use Rattle.file_bytes.specs.Files.{ReadBytes, WriteBytes, read_in_bytes, written_in_bytes, ReadsBytes, WritesBytes}
use Rattle.scs_file.specs.ScsKeeps.{scs_keeps}
use Rattle.scs_memory.specs.ScsMemory.{memory_size}
use Rattle.scs_read.specs.ScsReads.{scs_read_of}
use Rattle.scs_write.specs.ScsWritten.{scs_file_of, scs_written_of}
use Rattle.scs_write.proofs.ScsFiles.{scs_file_long}
use Rattle.scs_write.proofs.ScsFits.{size_small, scs_fits}
use Rattle.scs_file.proofs.ScsFileBack.{scs_file_back}
use Rattle.scs_file.proofs.ScsStarts.{scs_start, scs_read_typed, scs_kept_all}
use Rattle.scs_bytes.specs.ScsBytes.{scs_read_of_bytes, scs_write_of_bytes}
use Rattle.scs_bytes.proofs.ScsAccepted.{scs_read_0, scs_write_as}
use Rattle.scs_trips.specs.ScsTrips.{ScsWritesThenReads, ScsReadsThenWrites}

scs_read_whole : (file : List ℕ) → scs_read_of_bytes file 131072 86 ≡ read_in_bytes (scs_read_of file 131072)
unfolding scs_read_of_bytes
scs_read_whole file = refl

-- the length that a write gives is 0 or the file's, which is inside the output
size_within : (m : Machine) (area : List ℕ) (n : ℕ) → (scs_written_of m area n).size ≤ n
unfolding scs_written_of
size_within m area n =
    let P : WriteResult → Type 0 = λ o. o.size ≤ n in
    either P (valid_of m) _ _
    (λ v. either P (eqb (length area) 131072) _ _ (λ l. either P (leb (length (scs_file_of m area)) n) _ _ (λ h. leb-true _ _ h) (λ h. omega arith)) (λ l. omega arith))
    (λ v. omega arith)

pub scs_size_fits : (head area : List ℕ) (n w size : ℕ) (out : List ℕ) → WritesBytes (scs_write_of_bytes head area n) w size out → size ≤ n
unfolding scs_write_of_bytes
scs_size_fits head area n w size out p =
    let t = decoded_of head in
    subst (λ (k : ℕ). k ≤ n) (sym p.size)
    (either (λ (o : WriteBytes). o.size ≤ n) t.canonical _ _ (λ c. size_within t.machine area n) (λ c. omega arith))

-- what is written of a valid machine's header and a clean area reads as what SCS keeps of the machine, and the area
module _ (m : Machine) (head area : List ℕ) (n w size : ℕ) (out : List ℕ) (f : HeaderFor m head) (p : WritesBytes (scs_write_of_bytes head area n) w size out) where
  scs_trip : Clean m.model area → 88 + memory_size m.model ≤ n
      → (w ≡ 0) × (scs_read_of_bytes (take size out) 131072 86 ≡ record { answer = 0; place = 0; area = area; header = header_of (scs_keeps m) })
  scs_trip c h =
      let file = scs_file_of m area in
      let o : scs_write_of_bytes head area n ≡ written_in_bytes (accepted_write file n)
      = scs_write_as m head area n (decoded_back m head f)
      ∙ ap written_in_bytes (scs_fits m area n f.valid c.long (omega (arith, scs_file_long m area f.typed c.long))) in
      let wrote : take size out ≡ file
      = (λ i. take (p.size i) (p.out i)) ∙ ap (λ (x : WriteBytes). take x.size x.out) o ∙ take_at file (replicate (n - length file) 0) (length file) refl in (
        p.answer ∙ ap (λ (x : WriteBytes). x.answer) o,
        ap (λ (l : List ℕ). scs_read_of_bytes l 131072 86) wrote ∙ scs_read_whole file ∙ ap read_in_bytes (scs_file_back m area f.typed f.valid c),
      )

  -- an accepted write has the file's length
  sized : (scs_written_of m area n).answer ≡ accepted → (scs_written_of m area n).size ≡ 88 + memory_size m.model
  unfolding scs_written_of
  sized q =
      let P : WriteResult → Type 0 = λ o. o.answer ≡ accepted → o.size ≡ 88 + memory_size m.model in
      either P (valid_of m) _ _
      (λ v. either P (eqb (length area) 131072) _ _
      (λ l. either P (leb (length (scs_file_of m area)) n) _ _ (λ h e. scs_file_long m area f.typed (eqb-true _ _ l)) (λ h e. absurd (refused_not _ e)))
      (λ l e. absurd (refused_not _ e)))
      (λ v e. absurd (refused_not _ e)) q

  scs_long : w ≡ 0 → size ≡ 88 + memory_size m.model
  scs_long e =
      let o : scs_write_of_bytes head area n ≡ written_in_bytes (scs_written_of m area n) = scs_write_as m head area n (decoded_back m head f) in
      p.size ∙ ap (λ (x : WriteBytes). x.size) o ∙ sized (number_0 _ (sym (ap (λ (x : WriteBytes). x.answer) o) ∙ sym p.answer ∙ e))

pub scs_writes_then_reads : (head area : List ℕ) (n k l w r size place : ℕ) (out back_area back_head : List ℕ) → WritesBytes (scs_write_of_bytes head area n) w size out
    → ReadsBytes (scs_read_of_bytes (take (size - 0) (drop 0 out)) k l) r place back_area back_head
    → ScsWritesThenReads head area n k l (record { written = w; read = r }) out size place back_area back_head
scs_writes_then_reads head area n k l w r size place out back_area back_head p g =
    let z : size - 0 ≡ size = omega arith in
    let q : ReadsBytes (scs_read_of_bytes (take size out) k l) r place back_area back_head = subst (λ (i : ℕ). ReadsBytes (scs_read_of_bytes (take i out) k l) r place back_area back_head) z g in
    record {
      first = p;
      then_read = q;
      back = λ m f c h ek el.
          let t = scs_trip m head area n w size out f p c h in
          let e : scs_read_of_bytes (take size out) k l ≡ record { answer = 0; place = 0; area = area; header = header_of (scs_keeps m) } = (λ i. scs_read_of_bytes (take size out) (ek i) (el i)) ∙ t.1 in
          record {
            written = t.0;
            read = q.answer ∙ ap (λ (x : ReadBytes). x.answer) e;
            nowhere = q.place ∙ ap (λ (x : ReadBytes). x.place) e;
            area_same = q.area ∙ ap (λ (x : ReadBytes). x.area) e;
            head_kept = q.header ∙ ap (λ (x : ReadBytes). x.header) e;
          };
      long = λ m f. scs_long m head area n w size out f p;
    }

pub scs_reads_then_writes : (file : List ℕ) (n k l r w size place : ℕ) (area head out : List ℕ) → ((i : ℕ) → get_or file i 0 < 256) → ReadsBytes (scs_read_of_bytes file n k) r place area head
    → WritesBytes (scs_write_of_bytes head area l) w size out → ScsReadsThenWrites file n k l (record { written = w; read = r }) place area head out size
scs_reads_then_writes file n k l r w size place area head out bytes p g =
    record {
      first = p;
      then_written = g;
      rewritten = λ e h.
          let q = scs_read_0 file n k (sym p.answer ∙ e) in
          let o = scs_read_of file n in
          let s = scs_start file n q.0 in
          let ea : area ≡ o.memory = p.area ∙ ap (λ (x : ReadBytes). x.area) q.1 in
          let eh : head ≡ header_of o.machine = p.header ∙ ap (λ (x : ReadBytes). x.header) q.1 in
          let f : HeaderFor o.machine head = record { valid = s.valid; typed = scs_read_typed file n bytes q.0; is = eh } in
          let t = scs_trip o.machine head area l w size out f g (subst (Clean o.machine.model) (sym ea) s.clean) (omega (arith, size_small o.machine.model (memory_size o.machine.model) refl)) in
          record {
            written = t.0;
            again = t.1 ∙ ap (λ (x : List ℕ). record { answer = 0; place = 0; area = area; header = x }) (ap header_of (scs_kept_all file n q.0) ∙ sym eh);
          };
    }
