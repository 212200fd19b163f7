pub mod Chosen
pub mod Drops
pub mod Fills
pub mod Puts
