-- What a call did.
-- Of a call that is lent several buffers, `out` has one part for each, in the order in which they are lent.
pub record Outcome (A B : Type 0) : Type 0 where
  -- what it answers
  pub answer : A
  -- what the buffers lent to it then hold
  pub out : B
