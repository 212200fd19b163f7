-- Explaining and reading end alike: both by the one parse of the file.
use Prim.Native.Nat.{ℕ}
use mathlib.Core.Path.{◌≡◌, sym, ap, ◌∙◌}
use mathlib.Core.List.{List}
use Rattle.numbers.specs.Numbers.{number_of}
use Rattle.z80read.specs.Read.{read_of}
use Rattle.z80explain.specs.Explain.{explain_of}
use Rattle.z80explain.proofs.Theorems as explain
use Rattle.file_bytes.specs.Files.{ReadBytes, read_in_bytes, read_of_bytes, ReadsBytes}
use Rattle.explain_bytes.specs.Explains.{ExplainsBytes}
use Rattle.explained_reads.specs.ExplainedReads.{ExplainsReading}

-- where the lengths are right, reading in bytes is reading
right_sized : (file : List ℕ) (n k : ℕ) → n ≡ 131072 → k ≡ 86 → read_of_bytes file n k ≡ read_in_bytes (read_of file 131072)
unfolding read_of_bytes
right_sized file n k e f = rw (e, f)

pub explains_reading : (file : List ℕ) (n k r r' offset block found due offset' : ℕ) (area head : List ℕ) → ExplainsBytes (explain_of file) r offset block found due
    → ReadsBytes (read_of_bytes file n k) r' offset' area head → ExplainsReading file n k (record { one = r; other = r' }) offset block found due offset' area head
explains_reading file n k r r' offset block found due offset' area head p q =
    record {
      first = p;
      second = q;
      alike = λ e f.
          let s = right_sized file n k e f in (
            p.answer ∙ ap number_of ((explain.theorems).explained_answer file) ∙ sym (ap (λ (x : ReadBytes). x.answer) s) ∙ sym q.answer,
            p.place ∙ (explain.theorems).explained_place file ∙ sym (ap (λ (x : ReadBytes). x.place) s) ∙ sym q.place,
          );
    }
