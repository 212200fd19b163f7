pub mod FileSteps
pub mod AcceptedBytes
