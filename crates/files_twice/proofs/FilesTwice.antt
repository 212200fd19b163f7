-- Two calls of one function end alike: each is the definition's, which knows only the lengths of what is to be overwritten.
use Prim.Native.Nat.{ℕ}
use mathlib.Core.Path.{◌≡◌, sym, ap, ◌∙◌}
use mathlib.Core.List.{List}
use Rattle.file_bytes.specs.Files.{ReadBytes, WriteBytes, ReadsBytes, WritesBytes}
use Rattle.files_twice.specs.FilesTwice.{ReadsTwo, WritesTwo}

pub reads_two : (read : ℕ → ℕ → ReadBytes) (n k n' k' r r' place place' : ℕ) (area head area' head' : List ℕ) → ReadsBytes (read n k) r place area head
    → ReadsBytes (read n' k') r' place' area' head' → ReadsTwo read n k n' k' (record { one = r; other = r' }) place area head place' area' head'
reads_two read n k n' k' r r' place place' area head area' head' p q =
    record {
      first = p;
      second = q;
      alike = λ e f.
          let s : read n k ≡ read n' k' = λ i. read (e i) (f i) in (
            p.answer ∙ ap (λ (x : ReadBytes). x.answer) s ∙ sym q.answer,
            (
              p.place ∙ ap (λ (x : ReadBytes). x.place) s ∙ sym q.place,
              (p.area ∙ ap (λ (x : ReadBytes). x.area) s ∙ sym q.area, p.header ∙ ap (λ (x : ReadBytes). x.header) s ∙ sym q.header),
            ),
          );
    }

pub writes_two : (write : ℕ → WriteBytes) (n n' r r' size size' : ℕ) (out out' : List ℕ) → WritesBytes (write n) r size out
    → WritesBytes (write n') r' size' out' → WritesTwo write n n' (record { one = r; other = r' }) out size out' size'
writes_two write n n' r r' size size' out out' p q =
    record {
      first = p;
      second = q;
      alike = λ e.
          let s : write n ≡ write n' = ap write e in (
            p.answer ∙ ap (λ (x : WriteBytes). x.answer) s ∙ sym q.answer,
            (p.size ∙ ap (λ (x : WriteBytes). x.size) s ∙ sym q.size, p.out ∙ ap (λ (x : WriteBytes). x.out) s ∙ sym q.out),
          );
    }
