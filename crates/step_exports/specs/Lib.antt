pub mod ToldSteps
