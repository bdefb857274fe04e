pub mod Runs
pub mod Running
