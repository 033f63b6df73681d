pub mod Numbers
pub mod Steps
pub mod Mixing
pub mod Sets
