pub mod ViewSteps
