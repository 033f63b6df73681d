pub mod Ranges
pub mod Parts
pub mod Spans
pub mod Storing
pub mod Monotone
pub mod Results
