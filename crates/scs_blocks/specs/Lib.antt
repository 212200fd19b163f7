pub mod ScsIdentity
pub mod ScsBlocks
