pub mod CallList
pub mod Theorems
