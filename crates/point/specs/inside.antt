-- What private functions promise one another, here and in the crates above: nobody need believe it.
pub mod Near
pub mod Written
