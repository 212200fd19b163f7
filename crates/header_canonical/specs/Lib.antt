pub mod Canonical
pub mod Theorems
