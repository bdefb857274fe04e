-- Answers has the theorems for readers: `sandline` answers every line, in order, before it reads on, and ends.
pub mod Answers
