mod ScsByteSteps
pub mod ScsAccepted
pub mod Theorems
