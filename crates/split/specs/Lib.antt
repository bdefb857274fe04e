-- specs/ is all that you have to believe. Read `Tree` first: the tree of splits, cut at a tolerance, and walked down for the numbers. `Farthest`
-- says where a span is split, and `Distance` how far a point lies from a segment, as the Rust computes it; `Buffers` says what the calls leave in
-- what is lent to them, `Visits` how many distances they compute and how many spans wait, and `Examples` has worked ones. What stands in `inside`
-- nobody need believe.
pub mod Tree
pub mod Farthest
pub mod Distance
pub mod Buffers
pub mod Visits
pub mod inside
pub mod Examples
