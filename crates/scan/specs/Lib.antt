pub mod Signs
pub mod Verdicts
