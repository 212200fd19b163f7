-- Demand 1 of the exported calls: "After a read nothing in the lent area, and after a write nothing in the output, depends on what stood there
-- before". Two calls of one function, on buffers that differ only in what is to be overwritten, end alike.
use Rattle.std.specs.Prelude.{ℕ, ◌≡◌, List}
use Rattle.journal_bytes.specs.Calls.{LogStarts}
use Rattle.view_bytes.specs.Views.{Shown, Shows}
use Rattle.numbers.specs.declared.TwoNumbers.{TwoNumbers}

-- the promise of `view_two`; x is what the view comes to
pub record ViewsTwo (x : Shown) (r : TwoNumbers) (rom start span rom' start' span' : ℕ) : Type 0 where
  pub first : Shows x r.one rom start span
  pub second : Shows x r.other rom' start' span'
  pub alike : (r.one ≡ r.other) × ((rom ≡ rom') × ((start ≡ start') × (span ≡ span')))

-- the promise of `start_two`
pub record LogStartsTwo (n n' : ℕ) (r : TwoNumbers) (log : List ℕ) (standing total : ℕ) (log' : List ℕ) (standing' total' : ℕ) : Type 0 where
  pub first : LogStarts n r.one log standing total
  pub second : LogStarts n' r.other log' standing' total'
  pub alike : n ≡ n' → (r.one ≡ r.other) × ((log ≡ log') × ((standing ≡ standing') × (total ≡ total')))
