pub mod ScsReads
pub mod Theorems
