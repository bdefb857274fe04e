-- Why the answer is the nearest value: the way to CorrectlyRounded, from the whole root up.
pub mod RootUnits
pub mod NearestRoot
pub mod Patterns
pub mod Neighbours
pub mod RootFits
pub mod Normal
