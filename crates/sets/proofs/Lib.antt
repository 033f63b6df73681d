mod Halves
mod Unions
mod Growing
mod Highest
mod Lowest
mod Gathering
mod Carries
mod Turns
mod Flips
mod Mixes
mod Parts
pub mod Sums
mod Words
