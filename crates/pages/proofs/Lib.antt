pub mod PageSteps
pub mod Inside
