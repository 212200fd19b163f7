pub mod Zeros
pub mod Validity
pub mod Theorems
