pub mod Closures
pub mod Sizes
pub mod Shown
pub mod Larger
