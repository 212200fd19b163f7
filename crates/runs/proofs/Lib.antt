pub mod RunLength
pub mod RunBlocks
pub mod RunCodes
