pub mod ScsBytes
pub mod Readers
pub mod Theorems
