-- specs/ is all that you have to believe. Begin with `Handed`: how an answer of the library reaches a caller in C. `Read` says what the values that a caller
-- hands in stand for.
pub mod Read
pub mod Handed
