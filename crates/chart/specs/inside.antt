-- What the private functions of this crate promise one another. Nobody need believe it.
pub mod Around
pub mod Rows
