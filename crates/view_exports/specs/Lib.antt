pub mod Viewed
pub mod Theorems
