-- A file read and written, over bytes.
use Prim.Native.Nat.{ℕ, ◌<◌}
use native.Mathlib.Omega.{arith}
use mathlib.Core.Path.{◌≡◌, sym, ap, subst, ◌∙◌}
use mathlib.Core.List.{List}
use lib.ListN.{get_or}
use Rattle.header_write.specs.Writing.{HeaderFor}
use Rattle.z80read.specs.Read.{read_of}
use Rattle.z80read.proofs.ReadTyped.{read_typed}
use Rattle.z80read.proofs.ReadLengths.{read_most}
use Rattle.z80write.proofs.Longest.{file_most}
use Rattle.z80file.specs.Clean.{Clean}
use Rattle.z80file.proofs.File.{read_start}
use Rattle.file_bytes.specs.Files.{ReadBytes, read_of_bytes, write_of_bytes, ReadsBytes, WritesBytes}
use Rattle.file_bytes.proofs.AcceptedBytes.{read_0}
use Rattle.server_trips.proofs.Trips.{trip}
use Rattle.server_rewrites.specs.Rewrites.{ReadsThenWrites}

pub reads_then_writes : (file : List ℕ) (n k l r w size place : ℕ) (area head out : List ℕ) → ((i : ℕ) → get_or file i 0 < 256) → ReadsBytes (read_of_bytes file n k) r place area head
    → WritesBytes (write_of_bytes head area l) w size out → ReadsThenWrites file n k l (record { written = w; read = r }) place area head out size
reads_then_writes file n k l r w size place area head out bytes p g =
    record {
      first = p;
      then_written = g;
      rewritten = λ e h.
          let q = read_0 file n k (sym p.answer ∙ e) in
          let o = read_of file n in
          let s = read_start file n q.0 in
          let ea : area ≡ o.memory = p.area ∙ ap (λ (x : ReadBytes). x.area) q.1 in
          let f : HeaderFor o.machine head
          = record { valid = s.valid; typed = read_typed file n bytes q.0; is = p.header ∙ ap (λ (x : ReadBytes). x.header) q.1 } in
          let t = trip o.machine head area l w size out f (subst (Clean o.machine.model) (sym ea) s.clean) (omega (arith, file_most o.machine area f.typed)) g in
          record { written = t.0; again = t.1 };
      most = λ e. read_most file n bytes (read_0 file n k (sym p.answer ∙ e)).0;
    }
