pub mod Held
pub mod Claim
pub mod Still
pub mod Never
pub mod Order
pub mod Opens
pub mod RefutedClaims
pub mod Theorems
