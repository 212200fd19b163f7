-- A file written and read back, over bytes.
use Prim.Native.Nat.{ℕ, ◌-◌, ◌≤◌}
use native.Mathlib.Omega.{arith}
use mathlib.Core.Path.{◌≡◌, refl, sym, ap, subst, ◌∙◌}
use mathlib.Core.Bool.{Bool, true, false}
use mathlib.Core.List.{List}
use lib.ListN.{length, take, drop, replicate}
use lib.Seq.{take_at}
use Rattle.slices.specs.Choose.{choose}
use Rattle.spectrum.specs.declared.Machine.{Machine}
use Rattle.header_canonical.specs.declared.DecodedHeader.{DecodedHeader}
use Rattle.header_write.specs.Writing.{HeaderFor}
use Rattle.header_canonical.specs.Canonical.{decoded_of, bad_header}
use Rattle.header_canonical.proofs.Canonical.{decoded_back}
use Rattle.z80read.specs.Read.{read_of}
use Rattle.z80write.specs.Written.{file_of, accepted_write, written_of}
use Rattle.z80write.proofs.FileWritten.{written_fits}
use Rattle.z80file.specs.Clean.{Clean}
use Rattle.z80file.proofs.File.{file_back, length_inside}
use Rattle.file_bytes.specs.Files.{ReadBytes, WriteBytes, read_in_bytes, read_of_bytes, written_in_bytes, write_decoded, write_of_bytes, ReadsBytes, WritesBytes}
use Rattle.file_bytes.proofs.AcceptedBytes.{write_decoded_as}
use Rattle.server_trips.specs.Trips.{WritesThenReads}

read_whole : (file : List ℕ) → read_of_bytes file 131072 86 ≡ read_in_bytes (read_of file 131072)
unfolding read_of_bytes
read_whole file = refl

-- the length that a write gives is inside the output
pub size_fits : (head area : List ℕ) (n w size : ℕ) (out : List ℕ) → WritesBytes (write_of_bytes head area n) w size out → size ≤ n
unfolding write_of_bytes
size_fits head area n w size out p = subst (λ (k : ℕ). k ≤ n) (sym p.size) (go (decoded_of head))
  where
    go : (t : DecodedHeader) → (write_decoded t area n).size ≤ n
    go t = fit t.canonical
      where
        fit : (c : Bool) → (choose c (written_in_bytes (written_of t.machine area n)) (record { answer = bad_header; size = 0; out = replicate n 0 })).size ≤ n
        fit true =
            let o = written_of t.machine area n in
            length_inside t.machine area n (record { answer = o.answer; length = o.size }) o.out (record { answer = refl; size = refl; memory = refl })
        fit false = omega arith

-- what is written of a valid machine's header and a clean area reads as both
pub trip : (m : Machine) (head area : List ℕ) (n w size : ℕ) (out : List ℕ) → HeaderFor m head → Clean m.model area → length (file_of m area) ≤ n → WritesBytes (write_of_bytes head area n) w size out
    → (w ≡ 0) × (read_of_bytes (take size out) 131072 86 ≡ record { answer = 0; place = 0; area = area; header = head })
trip m head area n w size out f c h p =
    let file = file_of m area in
    let o : write_of_bytes head area n ≡ written_in_bytes (accepted_write file n)
    = write_decoded_as m head area n (decoded_back m head f)
    ∙ ap written_in_bytes (written_fits m area n f.valid c.long h) in
    let wrote : take size out ≡ file
    = (λ i. take (p.size i) (p.out i)) ∙ ap (λ (x : WriteBytes). take x.size x.out) o ∙ take_at file (replicate (n - length file) 0) (length file) refl in (
      p.answer ∙ ap (λ (x : WriteBytes). x.answer) o,
      ap (λ (l : List ℕ). read_of_bytes l 131072 86) wrote ∙ read_whole file ∙ ap read_in_bytes (file_back m area f.typed f.valid c)
          ∙ ap (λ (x : List ℕ). record { answer = 0; place = 0; area = area; header = x }) (sym f.is),
    )

pub writes_then_reads : (head area : List ℕ) (n k l w r size place : ℕ) (out back_area back_head : List ℕ) → WritesBytes (write_of_bytes head area n) w size out
    → ReadsBytes (read_of_bytes (take (size - 0) (drop 0 out)) k l) r place back_area back_head
    → WritesThenReads head area n k l (record { written = w; read = r }) out size place back_area back_head
writes_then_reads head area n k l w r size place out back_area back_head p g =
    let z : size - 0 ≡ size = omega arith in
    let q : ReadsBytes (read_of_bytes (take size out) k l) r place back_area back_head = subst (λ (i : ℕ). ReadsBytes (read_of_bytes (take i out) k l) r place back_area back_head) z g in
    record {
      first = p;
      then_read = q;
      back = λ m f c h ek el.
          let t = trip m head area n w size out f c h p in
          let e : read_of_bytes (take size out) k l ≡ record { answer = 0; place = 0; area = area; header = head } = (λ i. read_of_bytes (take size out) (ek i) (el i)) ∙ t.1 in
          record {
            written = t.0;
            read = q.answer ∙ ap (λ (x : ReadBytes). x.answer) e;
            nowhere = q.place ∙ ap (λ (x : ReadBytes). x.place) e;
            area_same = q.area ∙ ap (λ (x : ReadBytes). x.area) e;
            head_same = q.header ∙ ap (λ (x : ReadBytes). x.header) e;
          };
    }
