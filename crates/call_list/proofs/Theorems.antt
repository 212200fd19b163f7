-- The one value of the record of theorems.
use Rattle.call_list.specs.Theorems.{Theorems}
use Rattle.call_list.proofs.Encode.{every_list_in, encode_length, encode_bytes}

pub theorems : Theorems
theorems = record { every_list_in = every_list_in; encode_length = encode_length; encode_bytes = encode_bytes }
