-- Claims has what follows of the contracts: that each leaves no choice, that a refusal changes nothing, and that what is counted fits. The other
-- files are laws that proofs cite.
--     Outward   what stays of an outline without its staircases
--     Reached   the greatest of several penalties reaches the tolerance exactly where one does
--     Costly    which points are kept, and that they fit
--     Between   what the first pass leaves is not refused by the second
pub mod Claims
pub mod Outward
pub mod Reached
pub mod Costly
pub mod Between
