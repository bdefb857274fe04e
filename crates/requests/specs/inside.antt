-- What private functions promise one another: nobody need believe it.
pub mod Parts
