pub mod Slots
pub mod LaidSoFar
