-- specs/ is all that you have to believe. It has the few words that the definitions of several crates are made of: read Outcome, what a
-- call did, first; Lists has a list laid over the start of a buffer, Least the least of two floats. What stands in inside/ nobody need
-- believe.
pub mod Outcome
pub mod Lists
pub mod Least
pub mod inside
