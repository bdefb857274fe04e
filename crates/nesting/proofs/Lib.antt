-- `OneNumber` has what one number per point decides, said of the calls: read it first. `Nesting` has the theorems over the definitions, from which it
-- follows. The others have what only they need.
pub mod Tolerances
pub mod Farthest
pub mod Kept
pub mod Framed
pub mod Ends
pub mod Neighbours
pub mod Nesting
pub mod Positions
pub mod OneNumber
