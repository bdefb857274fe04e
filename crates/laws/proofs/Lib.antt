-- Laws that the proofs of the other crates cite, each file on one subject, leaves first. For readers: Determined says once why a contract that
-- is one equation leaves no choice.
--     If           a choice by a test
--     Determined   a contract that is one equation leaves no choice
--     Joined       two tests joined by `&&` or `||`
--     Integers     sizes of signed numbers, what fits `i32` and `i64`, tests of them; `signed_laws` for `search`
--     Ring         an integer as a difference of naturals, for `omega`; the ring and its order
--     Bits         digits that are set, counted and one by one
--     Compare      `le` and `eq` of floats from `lt`
--     Finite       floats that are bounded (`Below`), 1 at least (`Big`), with the sign + (`NonNeg`): what the operations leave of that
--     Order        `lt` of floats that are 0 at least, +infinity included, is strict and total
--     Least        the least of two floats
--     Whole        floats that are whole numbers: exact sums, differences and products
--     WholeTests   tests of such floats are tests of integers
--     Ranges       what a range test of a float says
--     Lists        a list laid over the start of a lent buffer (`over`), and stores there
--     Examples     a squared distance, bounded
pub mod If
pub mod Determined
pub mod Joined
pub mod Integers
pub mod Ring
pub mod Bits
pub mod Compare
pub mod Finite
pub mod Order
pub mod Least
pub mod Whole
pub mod WholeTests
pub mod Ranges
pub mod Lists
pub mod Examples
