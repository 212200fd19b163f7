-- The one value of the record of theorems.
use Rattle.claim.specs.Theorems.{Theorems}
use Rattle.claim.proofs.Claim.{claim, start_after}
use Rattle.claim.proofs.Still.{still}
use Rattle.claim.proofs.Never.{never_28_29}
use Rattle.claim.proofs.Order.{first_to_last}
use Rattle.claim.proofs.Opens.{open_start, scs_open_start}
use Rattle.claim.proofs.RefutedClaims.{refuted_refuses, refuted_alters_nothing, refuted_undoes_once, refuted_counts, refuted_redo}

pub theorems : Theorems
theorems =
    record {
      claim = claim;
      first_to_last = first_to_last;
      still = still;
      start_after = start_after;
      open_start = open_start;
      scs_open_start = scs_open_start;
      never_28_29 = never_28_29;
      refuted_refuses = refuted_refuses;
      refuted_alters_nothing = refuted_alters_nothing;
      refuted_undoes_once = refuted_undoes_once;
      refuted_counts = refuted_counts;
      refuted_redo = refuted_redo;
    }
