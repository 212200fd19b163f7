pub mod Frame
pub mod Backs
pub mod Enough
pub mod Theorems
