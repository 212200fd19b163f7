pub mod ExplainSteps
pub mod Theorems
