pub mod States
pub mod Faults
pub mod Effects
pub mod Cycles
pub mod Laws
pub mod Runs
pub mod Loans
