-- What `split_span` leaves to show: its two parts, and what stands between them, give what the whole comes to. Assumes nothing.
use Rattle.std.proofs.Common.{rules, length-set, ◌∙◌, sym}
use native.Mathlib.Omega.{arith}
use Rattle.split.proofs.Passing.{nothing_put, inside_lawful, rest_put, both_put}
use Rattle.split.proofs.passes.+split_span.Goals as goal

pub returns-then-last-first : goal.returns-then-last-first
returns-then-last-first g t c = nothing_put _ c.requires.3.laws _ _ _ _ _ c.if-last-first.true

pub split_span-requires : goal.split_span-requires
split_span-requires g t c κs within =
    let lawful = inside_lawful _ c.requires.3.laws _ _ _ _ _ c.farthest-far.ensures _ c.requires.3.good c.within-inside.ensures in
    search rules

pub split_span-requires-then-splits : goal.split_span-requires-then-splits
split_span-requires-then-splits g t c κs within =
    let lawful = inside_lawful _ c.requires.3.laws _ _ _ _ _ c.farthest-far.ensures _ c.requires.3.good c.within-inside.ensures in
    search (length-set, rules)

pub returns-then-splits : goal.returns-then-splits
returns-then-splits g t c =
    both_put _ c.requires.3.laws _ _ _ _ _ c.farthest-far.ensures c.if-last-first.false _ _ _ _ _ (sym (c.if-splits.ensures)) c.within-inside.ensures c.cell.ensures
    c.split_span.ensures c.split_span-then-splits.ensures

pub returns : goal.returns
returns g t c =
    rest_put _ c.requires.3.laws _ _ _ _ _ c.farthest-far.ensures c.if-last-first.false _ _ c.requires.3.good (sym c.splits.ensures ∙ c.if-splits.false) c.fill.ensures (omega arith)
