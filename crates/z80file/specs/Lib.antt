pub mod Clean
pub mod RoundTrip
pub mod WrongFiles
pub mod Cases
pub mod Theorems
