pub mod History
pub mod Claim
pub mod WrongCalls
pub mod Theorems
