-- Claims has what follows of the contract: that it leaves no choice, that a refusal changes no flag, and that each point that is looked at has one.
-- EnteredTwice has the theorems of request 2/13, about pegs that were tapped twice.
-- The other files are laws that proofs cite.
--     Bits      the numbers that a corner is judged by, handed on by their bits
--     Others    the first point of a list that differs, and the nearest to a point
--     Judged    the turn at a point
--     Steps     from one position to the next
--     Flagged   which flag stands at a position
--     Doubled   a list with one point entered once more
--     Distinct  a list without two equal neighbours
--     Tapped    what a peg that is tapped once more does to the flags, part by part
pub mod Claims
pub mod EnteredTwice
pub mod Bits
pub mod Others
pub mod Judged
pub mod Steps
pub mod Flagged
pub mod Doubled
pub mod Distinct
pub mod Tapped
