-- By what the frame asks for: its points stand in the array, its rows in the frame. Assumes nothing.
use Rattle.frames.proofs.Parts.{part_length}
use Rattle.frames.proofs.line.Arms.{rows_begin, a_walk, simplify_few, a_simplify, reduce_few, a_reduce, numbers_few, a_numbers, no_frame_is}
use Rattle.frames.proofs.line.reply.Goals as goal

pub slice_bounds-put_walk-count : goal.slice_bounds-put_walk-count
slice_bounds-put_walk-count c = rows_begin _ _ _ c.request.ensures _ _ _ _ _ c.in-Some-Walk.is c.in-Some-Walk.field-0-is

pub slice_bounds-put_walk-start : goal.slice_bounds-put_walk-start
slice_bounds-put_walk-start c = rows_begin _ _ _ c.request.ensures _ _ _ _ _ c.in-Some-Walk.is c.in-Some-Walk.field-0-is

pub slice_bounds-points-end : goal.slice_bounds-points-end
slice_bounds-points-end c = simplify_few _ _ _ c.request.ensures _ _ _ c.in-Some-Simplify.is c.in-Some-Simplify.field-0-is c.request.auto.to

pub slice_bounds-put_simplified-end : goal.slice_bounds-put_simplified-end
slice_bounds-put_simplified-end c =
    part_length _ _ (simplify_few _ _ _ c.request.ensures _ _ _ c.in-Some-Simplify.is c.in-Some-Simplify.field-0-is c.request.auto.to)

pub slice_bounds-points-end-in-Some-Reduce : goal.slice_bounds-points-end-in-Some-Reduce
slice_bounds-points-end-in-Some-Reduce c = reduce_few _ _ _ c.request.ensures _ _ _ c.in-Some-Reduce.is c.in-Some-Reduce.field-0-is c.request.auto.to

pub slice_bounds-put_reduced-end : goal.slice_bounds-put_reduced-end
slice_bounds-put_reduced-end c =
    part_length _ _ (reduce_few _ _ _ c.request.ensures _ _ _ c.in-Some-Reduce.is c.in-Some-Reduce.field-0-is c.request.auto.to)

pub slice_bounds-points-end-in-Some-Numbers : goal.slice_bounds-points-end-in-Some-Numbers
slice_bounds-points-end-in-Some-Numbers c =
    numbers_few _ _ _ c.request.ensures _ _ c.in-Some-Numbers.is c.in-Some-Numbers.field-0-is c.request.auto.to

pub slice_bounds-put_numbered-end : goal.slice_bounds-put_numbered-end
slice_bounds-put_numbered-end c =
    part_length _ _ (numbers_few _ _ _ c.request.ensures _ _ c.in-Some-Numbers.is c.in-Some-Numbers.field-0-is c.request.auto.to)

pub returns-in-Some-Walk-clause-put : goal.returns-in-Some-Walk-clause-put
returns-in-Some-Walk-clause-put c = a_walk _ _ _ c.request.ensures _ _ _ _ _ c.in-Some-Walk.is c.in-Some-Walk.field-0-is _ _ _ c.put_walk.ensures.put

pub returns-in-Some-Simplify-clause-put : goal.returns-in-Some-Simplify-clause-put
returns-in-Some-Simplify-clause-put c =
    a_simplify _ _ _ c.request.ensures _ _ _ c.in-Some-Simplify.is c.in-Some-Simplify.field-0-is _ _ _ c.put_simplified.ensures.put

pub returns-in-Some-Reduce-clause-put : goal.returns-in-Some-Reduce-clause-put
returns-in-Some-Reduce-clause-put c =
    a_reduce _ _ _ c.request.ensures _ _ _ c.in-Some-Reduce.is c.in-Some-Reduce.field-0-is _ _ _ _ c.from.ensures c.put_reduced.ensures.put

pub returns-in-Some-Numbers-clause-put : goal.returns-in-Some-Numbers-clause-put
returns-in-Some-Numbers-clause-put c =
    a_numbers _ _ _ c.request.ensures _ _ c.in-Some-Numbers.is c.in-Some-Numbers.field-0-is _ _ _ c.put_numbered.ensures.put

pub returns-in-None-clause-put : goal.returns-in-None-clause-put
returns-in-None-clause-put c = no_frame_is _ _ _ c.request.ensures _ _ _ c.in-None.is c.bad.ensures.put
