pub mod FileRead
pub mod ReadTyped
pub mod ReadLengths
pub mod ReadPlaces
pub mod Theorems
