-- Answers has the theorems for readers: what the program writes, once, and when. Lines says how long its lines are.
pub mod Answers
pub mod Lines
