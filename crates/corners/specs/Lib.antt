-- specs/ is all that you have to believe. Corners says what a corner is; read it first. Calls says what the call refuses, what it answers and
-- what the lent flags then hold. Neighbours has the rule that was before: no call promises it, but theorems (proofs/EnteredTwice) speak of it.
-- Nobody need believe inside.
pub mod Corners
pub mod Calls
pub mod Neighbours
pub mod inside
pub mod Examples
