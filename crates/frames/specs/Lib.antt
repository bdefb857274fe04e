-- specs/ is all that you have to believe. Read Answer first: what a line is answered. Replies says what an answer line is, Calls which one each call
-- gets, Room how much each call has room for, and Examples has some. What a frame asks for stands in `requests`.
pub mod Answer
pub mod Replies
pub mod Calls
pub mod Room
pub mod Examples
