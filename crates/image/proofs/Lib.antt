pub mod Chunks
pub mod Masks
pub mod Ranks
pub mod Granting
