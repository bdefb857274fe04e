-- specs/ is all that you have to believe, to be read in this order. Places has points in a list, Scheme whether a point enters one segment and
-- where, Segments what enters behind each point, Round a whole round, Calls what the call refuses, answers and leaves in its buffers. Answers has
-- document 01's number and values of an answer. Nobody need believe inside.
pub mod Places
pub mod Scheme
pub mod Segments
pub mod Round
pub mod Calls
pub mod Answers
pub mod inside
pub mod Examples
