-- Contracts of private functions: a reviewer may skip this file.
use Rattle.std.specs.Prelude.{ℕ, ◌≡◌, List}
use Rattle.numbers.specs.Numbers.{number_of}
use Rattle.header_write.specs.Writing.{header_of}
use Rattle.session.specs.declared.Done.{Done}

-- what is put back of a call's answer
pub record PutBack (d : Done) (r : ℕ) (h : List ℕ) (s t : ℕ) : Type 0 where
  pub answer : r ≡ number_of d.answer
  pub header : h ≡ header_of d.machine
  pub standing : s ≡ d.counts.standing
  pub total : t ≡ d.counts.total
