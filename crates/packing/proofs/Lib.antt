pub mod PackLoop
