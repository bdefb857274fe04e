-- Claims is for readers: the contract leaves no choice. ByHalves is the arithmetic.
pub mod Claims
pub mod ByHalves
