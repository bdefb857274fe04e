-- Claims says that the contracts leave no choice, and that what is put stays in its buffer; Pieces, for callers, that two texts one behind the other
-- are one; Puts is what the calls cite.
pub mod Claims
pub mod Pieces
pub mod Puts
