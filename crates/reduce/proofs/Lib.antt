-- `Claims` has what callers cite, and what a reader may rely on: no contract leaves a choice, a refusal changes nothing, and what is counted fits.
-- That the numbers decide what Douglas-Peucker keeps, and zooms nest, is proved in the crate `nesting`. The others are
-- laws that proofs cite, here and in the crates above.
pub mod Claims
pub mod Select
pub mod Room
pub mod Judged
pub mod Reduction
pub mod Uncounted
