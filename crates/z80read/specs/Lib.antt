pub mod Read
pub mod Theorems
