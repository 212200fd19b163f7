pub mod PackSteps
