-- specs/ is all that you have to believe. Read `Pixels` first: what a chart is, when it is refused, and which of its pixels are set. `Area`
-- says what `area` answers, `Start` what `first_start` does, and `Answers` lists the values of an answer. What specs/inside has, the private
-- functions promise one another, and nobody need believe it.
pub mod Pixels
pub mod Area
pub mod Start
pub mod Answers
pub mod Examples
pub mod inside
