-- Document 02, A3, of the exported calls: "reading into a right-sized area gives this number", and this offset.
use Rattle.std.specs.Prelude.{ℕ, ◌≡◌, List}
use Rattle.z80explain.specs.Explain.{explain_of}
use Rattle.file_bytes.specs.Files.{read_of_bytes, ReadsBytes}
use Rattle.explain_bytes.specs.Explains.{ExplainsBytes}
use Rattle.numbers.specs.declared.TwoNumbers.{TwoNumbers}

-- One file explained, and read into an area of n bytes and a header of k: each call is what it comes to; where the lengths are right, the
-- number and the offset are the same.
pub record ExplainsReading (file : List ℕ) (n k : ℕ) (r : TwoNumbers) (offset block found due offset' : ℕ) (area head : List ℕ) : Type 0 where
  pub first : ExplainsBytes (explain_of file) r.one offset block found due
  pub second : ReadsBytes (read_of_bytes file n k) r.other offset' area head
  pub alike : n ≡ 131072 → k ≡ 86 → (r.one ≡ r.other) × (offset ≡ offset')
