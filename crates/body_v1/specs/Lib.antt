pub mod Body
pub mod Inner
