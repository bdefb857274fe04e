use Rattle.frames.proofs.line.Bytes.{a_frame, no_bytes}
use Rattle.frames.proofs.line.answer.Goals as goal

pub returns-in-Some-clause-put : goal.returns-in-Some-clause-put
returns-in-Some-clause-put c = a_frame _ _ _ c.read_bytes.ensures _ c.in-Some.is _ _ _ c.reply.ensures.put

pub returns-in-None-clause-put : goal.returns-in-None-clause-put
returns-in-None-clause-put c = no_bytes _ _ _ c.read_bytes.ensures _ _ _ c.in-None.is c.bad.ensures.put
