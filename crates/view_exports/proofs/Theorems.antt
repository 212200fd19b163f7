-- The one value of the record of theorems.
use Rattle.view_exports.specs.Theorems.{Theorems}
use Rattle.view_exports.proofs.ShownPages.{shown_bytes}

pub theorems : Theorems
theorems = record { shown_bytes = shown_bytes }
