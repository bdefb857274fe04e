-- WholeIsKeptAndGaps has the theorem for readers: what a zoom keeps and the gaps are the whole. Claims says that the contracts leave no choice. The
-- others are the way there, leaves first.
pub mod Claims
pub mod Edges
pub mod Cuts
pub mod Ends
pub mod Added
pub mod WholeIsKeptAndGaps
pub mod Leaving
pub mod Ways
pub mod Chosen
