pub mod ByteMade
