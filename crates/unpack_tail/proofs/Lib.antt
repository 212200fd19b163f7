pub mod UnpackSteps
