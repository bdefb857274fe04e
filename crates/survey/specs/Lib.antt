-- specs/ is all that you have to believe. Read Survey first: what a picture is answered, and what is to be done with the part of it that came. Runs
-- lets the program run on an input that comes in pieces, for the theorems of proofs/Answers, and Examples has some of each. What stands in inside/
-- nobody need believe.
pub mod Survey
pub mod Runs
pub mod Examples
pub mod inside
