pub mod UnpackLoop
