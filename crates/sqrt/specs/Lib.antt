-- specs/ is all that you have to believe. Read Root first: the square root that both calls promise. Nearest has the words of the theorem on it
-- (proofs/CorrectlyRounded), and Examples some roots. What stands in inside/ nobody need believe.
pub mod Root
pub mod Nearest
pub mod Examples
pub mod inside
