-- specs/ is all that you have to believe. Read Frame first: what the bytes of a frame ask for. Asked says how that is handed on, and Examples has
-- some of both. What stands in inside/ nobody need believe.
pub mod Frame
pub mod Asked
pub mod Examples
pub mod inside
