pub mod Laid
pub mod Inner
