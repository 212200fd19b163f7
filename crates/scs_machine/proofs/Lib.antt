pub mod ScsValid
pub mod Theorems
