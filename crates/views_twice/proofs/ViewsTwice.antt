-- Two calls of one function end alike: each is the definition's, which knows only the lengths of what is to be overwritten.
use Prim.Native.Nat.{ℕ}
use mathlib.Core.Path.{sym, ap, ◌∙◌}
use mathlib.Core.List.{List}
use lib.ListN.{replicate}
use Rattle.journal_bytes.specs.Calls.{LogStarts}
use Rattle.view_bytes.specs.Views.{Shown, Shows}
use Rattle.views_twice.specs.ViewsTwice.{ViewsTwo, LogStartsTwo}

pub views_two : (x : Shown) (r r' rom start span rom' start' span' : ℕ) → Shows x r rom start span → Shows x r' rom' start' span'
    → ViewsTwo x (record { one = r; other = r' }) rom start span rom' start' span'
views_two x r r' rom start span rom' start' span' p q =
    record {
      first = p;
      second = q;
      alike = (p.answer ∙ sym q.answer, (p.rom ∙ sym q.rom, (p.start ∙ sym q.start, p.size ∙ sym q.size)));
    }

pub starts_two : (n n' r r' : ℕ) (log : List ℕ) (standing total : ℕ) (log' : List ℕ) (standing' total' : ℕ) → LogStarts n r log standing total
    → LogStarts n' r' log' standing' total' → LogStartsTwo n n' (record { one = r; other = r' }) log standing total log' standing' total'
starts_two n n' r r' log standing total log' standing' total' p q =
    record {
      first = p;
      second = q;
      alike = λ e. (
        p.answer ∙ sym q.answer,
        (
          p.log_zero ∙ ap (λ (i : ℕ). replicate i 0) e ∙ sym q.log_zero,
          (p.standing_0 ∙ sym q.standing_0, p.total_0 ∙ sym q.total_0),
        ),
      );
    }
