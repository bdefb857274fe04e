-- specs/ is all that you have to believe. In the order of the Rust's util.rs: Area has the signed area, Crossing where two lines cross, Ratios
-- what a crossing says of its lines, Lengths midpoints and lengths. Answers has document 01's number and values of each answer.
pub mod Area
pub mod Crossing
pub mod Ratios
pub mod Lengths
pub mod Answers
pub mod Examples
