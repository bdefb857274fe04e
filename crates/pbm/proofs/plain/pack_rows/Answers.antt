-- Each turn puts one byte more.
use borrow.Author.Rules.{rules}
use Rattle.pbm.proofs.Packing.{begun, not_past, at_column, some_pixels, those_there, row_goes_on, row_ends, all}
use Rattle.pbm.proofs.plain.pack_rows.Goals as goal
use Rattle.pbm.proofs.plain.pack_rows.Goals.{then-width-x, else-width-x}

pub loop-i-init : goal.loop-i-init
loop-i-init c = search (begun, rules)

pub overflow_sub-width : goal.overflow_sub-width
overflow_sub-width c = search (not_past, rules)

pub gather-gathered-requires : goal.gather-gathered-requires
gather-gathered-requires c = (search (some_pixels, rules), search rules, search (those_there, rules))

pub overflow_add-x : goal.overflow_add-x
overflow_add-x c = search (at_column, rules)

pub loop-i-preserved : goal.loop-i-preserved
loop-i-preserved c =
    elim c.if-width-x.branch [
      | then-width-x w ↦ rw w.x-is (search (row_ends, rules))
      | else-width-x w ↦ rw w.x-is (search (row_goes_on, rules))
    ]

pub returns : goal.returns
returns c = search (all, rules)
