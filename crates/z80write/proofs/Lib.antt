pub mod FileWritten
pub mod Longest
pub mod Theorems
