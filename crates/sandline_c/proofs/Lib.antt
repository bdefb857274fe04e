-- `Claims` has what follows of the contracts: that each leaves no choice, and, for readers, that the values of a crossing say of two lines what the crossing
-- itself says. `Handed` has the laws that the proof of the crossing's values cites.
pub mod Handed
pub mod Claims
