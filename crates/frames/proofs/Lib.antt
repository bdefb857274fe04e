-- Claims says that the contracts leave no choice, and that an answer fits a frame; Lengths that a line that is too long, and an empty one, are no
-- frame. Parts, Sizes and Room have what other programs cite; the rest is the way there.
pub mod Claims
pub mod Lengths
pub mod Parts
pub mod Sizes
pub mod Room
pub mod Behind
