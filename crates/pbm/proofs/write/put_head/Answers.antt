-- What is put part by part is the header's text.
use mathlib.Core.Path.{sym, ◌∙◌}
use borrow.Author.Rules.{rules}
use Rattle.pbm.proofs.HeadText.{first_room, second_room, head_next, head_over}
use Rattle.pbm.proofs.write.put_head.Goals as goal

ruleset laws = (first_room, second_room, head_next, head_over, rules)

pub put_size-requires : goal.put_size-requires
put_size-requires c = search laws

pub put_size-requires-2 : goal.put_size-requires-2
put_size-requires-2 c = search laws

pub returns : goal.returns
returns c =
    let kept = c.out-1.given.1.1 (sym (c.put_size-2.ensures.same ∙ c.put_size.ensures.same ∙ c.put_bytes.ensures.same)) in
    (search laws, rw kept (search laws))
