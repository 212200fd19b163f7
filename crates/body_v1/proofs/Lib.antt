mod Bodies
mod BodyMoves
pub mod BodyLengths
pub mod BodyPlaces
