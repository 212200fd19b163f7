pub mod Explain
pub mod Theorems
