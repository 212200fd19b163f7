mod ScsLoadSteps
mod ScsReadSteps
pub mod ScsReadPlaces
pub mod Theorems
