-- Claims has what follows of the contracts: that each leaves no choice, what a list that is not refused is, and that a refusal changes nothing.
-- The other files are laws that proofs cite, here and in the crates above.
--     Flat       a list of points and its values say the same
--     Near       a point that is in range, and those of a list that is not refused, lie within the limits
--     SamePoint  two points are one where the test says so, and two coordinates where their bits are one
--     Every      a loop that judges the values of a list one by one
--     Room       how many places a list asks for, and that it fits them
--     Written    a loop that writes points, one after the other, to the start of a buffer
--     Verdicts   what a verdict says of a list, and how it leads to the outcome
pub mod Claims
pub mod Flat
pub mod Near
pub mod SamePoint
pub mod Every
pub mod Room
pub mod Written
pub mod Verdicts
