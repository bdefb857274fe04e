-- Claims says that the contract leaves no choice, and that what is handed on says what was asked for. The others are the way there.
pub mod Claims
pub mod Values
pub mod Points
