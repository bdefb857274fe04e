-- specs/ is all that you have to believe. Staircase has which points stay beside steps of one pixel, Penalties which an outline cannot do without,
-- Simplify the two one after the other; each ends with what its call answers and what the lent buffer then holds. Nobody need believe inside.
pub mod Staircase
pub mod Penalties
pub mod Simplify
pub mod inside
pub mod Examples
