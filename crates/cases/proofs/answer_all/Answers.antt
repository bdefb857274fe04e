-- `answer_all` lends on what a turn asks for: it lies in the buffers. Assumes nothing.
use Rattle.std.proofs.Common.{rules}
use Rattle.lines.proofs.Claims.{line_starts, line_ends_lem, read_starts}
use Rattle.cases.proofs.answer_all.Goals as goal

ruleset laws = (line_starts, line_ends_lem, read_starts, rules)

pub slice_bounds-answer-count : goal.slice_bounds-answer-count
slice_bounds-answer-count c = search laws

pub slice_bounds-answer-start : goal.slice_bounds-answer-start
slice_bounds-answer-start c = search laws

pub slice_bounds-answer-end : goal.slice_bounds-answer-end
slice_bounds-answer-end c = search laws

pub slice_bounds-read-count : goal.slice_bounds-read-count
slice_bounds-read-count c = search laws

pub slice_bounds-read-start : goal.slice_bounds-read-start
slice_bounds-read-start c = search laws

pub slice_bounds-read-end : goal.slice_bounds-read-end
slice_bounds-read-end c = search laws
