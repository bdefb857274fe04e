-- By whether a point enters; where one does, there is room for it.
use Rattle.std.proofs.Common.{sym, ◌∙◌}
use lib.ListN.{length-set}
use Rattle.smooth.specs.inside.Parts.{turn_points, turn_flags, turn_settled, put_points, put_flags}
use Rattle.smooth.proofs.Turns.{second_room}
use Rattle.smooth.proofs.outline.Outline.turn.Goals as goal

pub returns-in-None : goal.returns-in-None
unfolding turn_points turn_flags turn_settled put_points put_flags
returns-in-None c =
    let e = sym c.enter_behind.ensures ∙ c.in-None.is in
    record { counted = rw e; judged = rw e; points = rw (e, c.write.ensures, c.place_at.ensures); flagged = rw e }

pub write-requires-in-Some : goal.write-requires-in-Some
write-requires-in-Some c =
    rw c.write.auto.out (second_room _ _ _ _ _ _ _ c.requires.0 c.requires.1 _ _ (sym c.enter_behind.ensures ∙ c.in-Some.is) c.requires.2)

pub bounds-flags-k-in-Some : goal.bounds-flags-k-in-Some
bounds-flags-k-in-Some c =
    rw length-set (second_room _ _ _ _ _ _ _ c.requires.0 c.requires.1 _ _ (sym c.enter_behind.ensures ∙ c.in-Some.is) c.requires.3)

pub returns-in-Some : goal.returns-in-Some
unfolding turn_points turn_flags turn_settled put_points put_flags
returns-in-Some c =
    let e = sym c.enter_behind.ensures ∙ c.in-Some.is in
    record { counted = rw e; judged = rw e; points = rw (e, c.write-in-Some.ensures, c.write.ensures, c.place_at.ensures); flagged = rw e }
