-- Each turn clears the padding of one row more.
use borrow.Author.Rules.{rules}
use Rattle.pbm.proofs.Clearing.{begun, bits_fit, bits_enough, padding_few, end_fits, before_end, last_within, row_stored, all}
use Rattle.pbm.proofs.raw.clear_padding.Goals as goal

ruleset laws = (begun, bits_fit, bits_enough, padding_few, end_fits, before_end, last_within, row_stored, all, rules)

pub overflow_mul-padding : goal.overflow_mul-padding
overflow_mul-padding c = search laws

pub overflow_sub-padding : goal.overflow_sub-padding
overflow_sub-padding c = search laws

pub loop-init : goal.loop-init
loop-init c = search laws

pub overflow_add-next : goal.overflow_add-next
overflow_add-next c = search laws

pub overflow_sub-next : goal.overflow_sub-next
overflow_sub-next c = search laws

pub bounds-part-next : goal.bounds-part-next
bounds-part-next c = search laws

pub cleared-requires : goal.cleared-requires
cleared-requires c = search laws

pub overflow_sub-part : goal.overflow_sub-part
overflow_sub-part c = search laws

pub bounds-part-next-in-loop : goal.bounds-part-next-in-loop
bounds-part-next-in-loop c = search laws

pub loop-preserved : goal.loop-preserved
loop-preserved c = search laws

pub returns : goal.returns
returns c = search laws
