pub mod Same
pub mod Meanings
pub mod Counting
pub mod Numbers
pub mod Rebuilding
