pub mod Numbers
pub mod FaultPlaces
