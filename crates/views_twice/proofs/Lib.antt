pub mod ViewsTwice
