pub mod Members
pub mod Closed
pub mod Joins
pub mod Sums
