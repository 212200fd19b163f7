pub mod Packed
pub mod Unpacking
pub mod Packing
pub mod Inner
pub mod Theorems
