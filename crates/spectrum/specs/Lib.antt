pub mod Machine
pub mod State
pub mod Valid
pub mod Theorems
