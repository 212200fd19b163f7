pub mod ScsKeeps
pub mod ScsRoundTrip
pub mod WrongScs
pub mod Theorems
