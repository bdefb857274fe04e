-- Claims has what follows of the contracts: that each leaves no choice, and document 01's sentences on lines that are parallel and on ratios that
-- are no numbers. The other files are laws that proofs cite, here and in the crates above.
--     Products   products of two numbers of `i32`, and differences of them, fit `i64`
--     ByBits     the area of three points within the limits, as code works it out
pub mod Claims
pub mod Products
pub mod ByBits
