-- specs/ is all that you have to believe. Read `Reduce` first: both passes together. `Radial` and `DouglasPeucker` have each pass, `Numbers` and
-- `Zoom` one number per point and the points that it keeps, and `Kept` what marks keep; `Answers` has the values of a counted answer, and `Examples`
-- worked ones. What stands in `inside` nobody need believe.
pub mod Reduce
pub mod Radial
pub mod DouglasPeucker
pub mod Numbers
pub mod Zoom
pub mod Kept
pub mod Answers
pub mod inside
pub mod Examples
