-- The explanation in numbers.
use Prim.Native.Nat.{ℕ}
use mathlib.Core.Path.{◌≡◌, ap, ◌∙◌}
use Rattle.numbers.specs.Numbers.{number_of}
use Rattle.z80explain.specs.declared.Explained.{Explained}
use Rattle.explain_bytes.specs.Explains.{ExplainsBytes}

pub explained_bytes : (o told : Explained) (r : ℕ) → told ≡ o → r ≡ number_of told.answer → ExplainsBytes o r told.place told.block told.found told.due
explained_bytes o told r e q =
    record {
      answer = q ∙ ap (λ (x : Explained). number_of x.answer) e;
      place = ap (λ (x : Explained). x.place) e;
      block = ap (λ (x : Explained). x.block) e;
      found = ap (λ (x : Explained). x.found) e;
      due = ap (λ (x : Explained). x.due) e;
    }
