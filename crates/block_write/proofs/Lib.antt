pub mod Fits
pub mod BlockWritten
