pub mod BlocksSoFar
pub mod BlocksLengths
pub mod BlockSteps
pub mod BlockPlaces
