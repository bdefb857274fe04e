-- specs/ is all that you have to believe. Read `Walk` first: which exit a walk takes, what a run is, how a walk ends, and what `walk` answers.
-- What specs/inside has, the private functions promise one another, and nobody need believe it.
pub mod Walk
pub mod Examples
pub mod inside
