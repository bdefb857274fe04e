-- specs/ is all that you have to believe. Refusals has document 01's numbers and how a call lists its tests; Limits what is too many, out of
-- range or too little room; Points how points lie in a list; Outcomes what every call leaves where it refuses, and what one leaves that hands out
-- points. Nobody need believe inside: it is what private functions promise one another.
pub mod Refusals
pub mod Limits
pub mod Points
pub mod Outcomes
pub mod inside
pub mod Examples
