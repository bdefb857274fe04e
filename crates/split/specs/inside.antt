-- What private functions promise one another: nobody need believe it.
pub mod Spans
pub mod Parts
pub mod Passes
