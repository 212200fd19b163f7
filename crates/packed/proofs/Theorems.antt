-- The one value of the record of theorems.
use Rattle.packed.specs.Packed.Promise.{packed_short, page_short}
use Rattle.packed.proofs.Backs.{unpacked_packed}
use Rattle.packed.proofs.Enough.{unpacked_long, bad_inside}
use Rattle.packed.specs.Packed.Examples.{longest, mixed_packed, examples}
use Rattle.packed.specs.Theorems.{Theorems}

pub theorems : Theorems
theorems =
    record {
      unpacked_packed = unpacked_packed;
      packed_short = packed_short;
      page_short = page_short;
      longest = longest;
      unpacked_long = unpacked_long;
      bad_inside = bad_inside;
      mixed_packed = mixed_packed;
      examples = examples;
    }
