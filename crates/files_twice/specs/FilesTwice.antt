-- Demand 1 of the exported calls: "After a read nothing in the lent area, and after a write nothing in the output, depends on what stood there
-- before". Two calls of one function, on buffers that differ only in what is to be overwritten, end alike.
use Rattle.std.specs.Prelude.{ℕ, ◌≡◌, List}
use Rattle.file_bytes.specs.Files.{ReadBytes, WriteBytes, ReadsBytes, WritesBytes}
use Rattle.numbers.specs.declared.TwoNumbers.{TwoNumbers}

-- The promise of a way to read that is called twice, into areas of n and n' bytes and headers of k and k': each read is what it comes to;
-- into buffers of the same lengths both end alike.
pub record ReadsTwo (read : ℕ → ℕ → ReadBytes) (n k n' k' : ℕ) (r : TwoNumbers) (place : ℕ) (area head : List ℕ) (place' : ℕ) (area' head' : List ℕ) : Type 0 where
  pub first : ReadsBytes (read n k) r.one place area head
  pub second : ReadsBytes (read n' k') r.other place' area' head'
  pub alike : n ≡ n' → k ≡ k' → (r.one ≡ r.other) × ((place ≡ place') × ((area ≡ area') × (head ≡ head')))

-- the promise of a way to write that is called twice, into outputs of n and n' bytes
pub record WritesTwo (write : ℕ → WriteBytes) (n n' : ℕ) (r : TwoNumbers) (out : List ℕ) (size : ℕ) (out' : List ℕ) (size' : ℕ) : Type 0 where
  pub first : WritesBytes (write n) r.one size out
  pub second : WritesBytes (write n') r.other size' out'
  pub alike : n ≡ n' → (r.one ≡ r.other) × ((size ≡ size') × (out ≡ out'))
