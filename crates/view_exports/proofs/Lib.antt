pub mod ShownPages
pub mod Theorems
