-- What is claimed of lists of calls as bytes.
use Rattle.std.specs.Prelude.{ℕ, ◌*◌, ◌<◌, ◌≡◌, List, [], ◌∷◌, length, get_or}
use Rattle.five_calls.specs.declared.Call.{Call}
use Rattle.five_calls.specs.declared.Call.TheVariants.{Byte, Pair, Out, Undo, Redo}
use Rattle.claim.specs.Claim.{TypedCalls}
use Rattle.call_list.specs.CallList.{encode, calls_in}

-- the numbers of the pairs that are asked for
abbrev pub pair_numbers : List Call → List ℕ
pair_numbers [] = []
pair_numbers (Byte address v ∷ cs) = pair_numbers cs
pair_numbers (Pair p v ∷ cs) = p ∷ pair_numbers cs
pair_numbers (Out v ∷ cs) = pair_numbers cs
pair_numbers (Undo ∷ cs) = pair_numbers cs
pair_numbers (Redo ∷ cs) = pair_numbers cs

pub record Theorems : Type 0 where
  -- every list of calls is what some bytes say, four to a call, so the contract of `serve` speaks of every list
  pub every_list_in : (cs : List Call) → calls_in (encode cs) (length cs) ≡ cs
  pub encode_length : (cs : List Call) → length (encode cs) ≡ length cs * 4
  pub encode_bytes : (cs : List Call) → TypedCalls cs → ((k : ℕ) → get_or (pair_numbers cs) k 0 < 256) → (i : ℕ) → get_or (encode cs) i 0 < 256
