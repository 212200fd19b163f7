pub mod ScsMachine
pub mod Theorems
