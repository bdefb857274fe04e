-- `Claims` has what callers cite. The theorems on splits, marks and numbers that a reader may want stand in the crate `nesting`; these are the
-- laws that the proofs of the functions, and that crate, are made of.
pub mod Claims
pub mod Distances
pub mod Folds
pub mod Trees
pub mod Cuts
pub mod Signs
pub mod Framed
pub mod Stores
pub mod Spans
pub mod Buffers
pub mod Apart
pub mod Parts
pub mod Room
pub mod Visited
pub mod Walk
pub mod Turns
pub mod Passing
pub mod Pieces
pub mod Fitting
pub mod Small
pub mod Shallow
