pub mod Writing
pub mod Counting
pub mod Follow
pub mod Returns
pub mod Rest
