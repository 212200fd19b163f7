-- An accepted read leaves buffers that are a start.
use Prim.Native.Nat.{ℕ, ◌<◌}
use mathlib.Core.Path.{◌≡◌, sym, ap, subst, ◌∙◌}
use mathlib.Core.Bool.{true}
use mathlib.Core.List.{List}
use lib.ListN.{length, get_or}
use Rattle.header_write.specs.Writing.{HeaderFor}
use Rattle.spectrum.specs.Valid.{Typed, valid_of}
use Rattle.z80read.specs.Read.{ReadResult, read_of}
use Rattle.z80read.proofs.ReadTyped.{read_typed}
use Rattle.z80file.proofs.File.{read_start}
use Rattle.scs_read.specs.ScsReads.{scs_read_of}
use Rattle.scs_file.proofs.ScsStarts.{scs_start, scs_read_typed}
use Rattle.journal.specs.Journal.{start_of}
use Rattle.file_bytes.specs.Files.{ReadBytes, read_in_bytes, read_of_bytes, ReadsBytes}
use Rattle.scs_bytes.specs.ScsBytes.{scs_read_of_bytes}
use Rattle.journal_bytes.specs.Calls.{Buffers}
use Rattle.file_bytes.proofs.AcceptedBytes.{read_0}
use Rattle.scs_bytes.proofs.ScsAccepted.{scs_read_0}
use Rattle.server.specs.Server.{started_buffers, RanBytes, HistoryRun, Serves}
use Rattle.server_files.specs.Opened.{ServesFile}

-- what an accepted read left, and what it gave
record Gave (b : ReadBytes) (o : ReadResult) : Type 0 where
  same : b ≡ read_in_bytes o
  valid : valid_of o.machine ≡ true
  typed : Typed o.machine
  long : length o.memory ≡ 131072

read_serves : (b : ReadBytes) (o : ReadResult) (head area log encoded : List ℕ) (room r place c : ℕ) (x : Buffers) (numbers : List ℕ) → (b.answer ≡ 0 → Gave b o)
    → ReadsBytes b r place area head → Serves head area log encoded room c x numbers → ServesFile b (start_of o) log encoded room r place x numbers
read_serves b o head area log encoded room r place c x numbers gave p g =
    record {
      answer = p.answer;
      place_told = p.place;
      ran = subst (λ (y : Buffers). RanBytes encoded room y x numbers) (λ j. started_buffers (p.header j) (p.area j) (length log)) g.ran;
      claim = λ e.
          let q = gave (sym p.answer ∙ e) in
          let ea : area ≡ o.memory = p.area ∙ ap (λ (y : ReadBytes). y.area) q.same in
          let f : HeaderFor o.machine head = record { valid = q.valid; typed = q.typed; is = p.header ∙ ap (λ (y : ReadBytes). y.header) q.same } in
          subst (λ (w : List ℕ). HistoryRun (record { machine = o.machine; memory = w }) (length log) encoded room x numbers) ea
          (g.claim o.machine f (ap length ea ∙ q.long));
    }

module _ (file : List ℕ) (n k : ℕ) (head area log encoded : List ℕ) (room r place c : ℕ) (x : Buffers) (numbers : List ℕ) (fb : (i : ℕ) → get_or file i 0 < 256) where
  pub file_serves : ReadsBytes (read_of_bytes file n k) r place area head → Serves head area log encoded room c x numbers
      → ServesFile (read_of_bytes file n k) (start_of (read_of file n)) log encoded room r place x numbers
  file_serves p g =
      read_serves (read_of_bytes file n k) (read_of file n) head area log encoded room r place c x numbers
      (λ e.
      let q = read_0 file n k e in
      let s = read_start file n q.0 in
      record { same = q.1; valid = s.valid; typed = read_typed file n fb q.0; long = s.clean.long })
      p g

  pub scs_serves : ReadsBytes (scs_read_of_bytes file n k) r place area head → Serves head area log encoded room c x numbers
      → ServesFile (scs_read_of_bytes file n k) (start_of (scs_read_of file n)) log encoded room r place x numbers
  scs_serves p g =
      read_serves (scs_read_of_bytes file n k) (scs_read_of file n) head area log encoded room r place c x numbers
      (λ e.
      let q = scs_read_0 file n k e in
      let s = scs_start file n q.0 in
      record { same = q.1; valid = s.valid; typed = scs_read_typed file n fb q.0; long = s.clean.long })
      p g
