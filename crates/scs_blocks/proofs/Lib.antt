pub mod ScsLeast
mod ScsParts
pub mod ScsSoFar
pub mod ScsFilled
pub mod ScsPlaces
