-- specs/ is all that you have to believe. Read Areas first: twice the area of a list, and the gaps that a choice of its points leaves. Calls has what
-- the calls refuse and answer, Totals the areas of two lists together, and Answers the values of the answers. What stands in inside/ nobody
-- need believe.
pub mod Areas
pub mod Calls
pub mod Totals
pub mod Answers
pub mod inside
