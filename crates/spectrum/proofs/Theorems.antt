-- The one value of the record of theorems.
use Rattle.spectrum.specs.Theorems.{Theorems}
use Rattle.spectrum.proofs.Validity.{valid_says, valid_true}
use Rattle.clock.proofs.Counters.{position_back, counters_back}
use Rattle.numbers.proofs.Numbers.{number_0, number_small}

pub theorems : Theorems
theorems =
    record {
      valid_says = λ m t. valid_says m t.sound;
      valid_true = valid_true;
      position_back = position_back;
      counters_back = counters_back;
      number_small = number_small;
      number_0 = number_0;
    }
