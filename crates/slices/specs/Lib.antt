pub mod Choose
pub mod Same
pub mod Put
pub mod Blank
pub mod Bytes
