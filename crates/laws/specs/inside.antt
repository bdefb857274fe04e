-- Two words that private functions alone promise one another: nobody need believe them.
pub mod Bits
pub mod Finite
