pub mod Server
pub mod Theorems
