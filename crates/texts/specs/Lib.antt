-- specs/ is all that you have to believe. Read Put first: where a text stands, and that one that does not fit is not written. Text says how a number
-- is written, and Examples has some of both.
pub mod Put
pub mod Text
pub mod Examples
