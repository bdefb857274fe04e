-- Claims has what follows of the contracts: that each leaves no choice, that a refusal changes no buffer, and how many points and flags a round
-- makes. The other files are laws that proofs cite.
--     Refused    what a verdict says of the points, the flags and the room
--     Verdicts   how a verdict leads to the outcome
--     Buffers    points and flags that are written behind those at the start of a buffer
--     Turns      what a turn puts down, and how the round of i points becomes that of i + 1
--     SoFar      a round that has come to position i
pub mod Claims
pub mod Refused
pub mod Verdicts
pub mod Buffers
pub mod Turns
pub mod SoFar
