pub mod Made
pub mod Theorems
