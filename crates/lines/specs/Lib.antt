-- specs/ is all that you have to believe. Read Turns first: what a program that answers lines does next. Reader says what line is taken out of a
-- buffer. Runs lets such a program run on a text, for the theorems of proofs/Answers, and Examples has some of each.
pub mod Turns
pub mod Reader
pub mod Runs
pub mod Examples
