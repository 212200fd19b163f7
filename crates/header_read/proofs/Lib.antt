pub mod ReadSteps
pub mod MachineValid
pub mod MachineTyped
