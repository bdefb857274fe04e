-- specs/ is all that you have to believe. Read `Spiral` first: a fresh spiral, when a state is in range, and what a step answers, by value and in
-- the caller's own struct. `Answers` has the values of an answer.
pub mod Spiral
pub mod Answers
pub mod Examples
