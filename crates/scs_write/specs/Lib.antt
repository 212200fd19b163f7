pub mod ScsWritten
pub mod Theorems
