-- Claims says that the contracts leave no choice, and that what is read fits its buffer. Splits, on lists cut at a byte, is for callers too.
pub mod Claims
pub mod Splits
pub mod Numerals
pub mod Pairs
