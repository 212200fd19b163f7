pub mod PackingSteps
pub mod Stepping
pub mod Theorems
