pub mod ScsHeads
