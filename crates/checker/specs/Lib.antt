pub mod Acceptances
pub mod Faults
pub mod Passing
pub mod Judging
