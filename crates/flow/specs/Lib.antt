pub mod States
pub mod Ways
pub mod Spans
pub mod Tables
pub mod Entries
pub mod Breaches
