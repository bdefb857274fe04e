-- The whole root and how its digits are found: arithmetic of whole numbers.
pub mod BitByBit
pub mod WholeRoot
pub mod WholeUnits
