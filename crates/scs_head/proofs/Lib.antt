mod ScsHeadSteps
pub mod ScsHeadPlaces
