-- Where no sum leaves 64 bits all three are made.
use mathlib.Core.Bool.{true, false}
use mathlib.Core.Path.{◌≡◌, ap, ◌∙◌}
use lib.IntN.{◌+ℤ◌}
use Rattle.std.proofs.Common.{rules}
use Rattle.std.specs.Prelude.{Ok, Err}
use Rattle.point.specs.declared.refusal.Refusal.TheVariants.{NoRoom}
use Rattle.reduce.proofs.Judged.{left_with}
use Rattle.areas.specs.Totals.{fits, plus, together_of}
use Rattle.areas.specs.declared.Areas.{Areas}
use Rattle.areas.proofs.Leaving.{stays, leaves}
use Rattle.areas.proofs.totals.together.Goals as goal

module _ (a b : Areas) where
  no_whole : fits (a.whole +ℤ b.whole) ≡ false → Err NoRoom ≡ together_of a b
  unfolding together_of
  no_whole w = rw w

  module _ (w : fits (a.whole +ℤ b.whole) ≡ true) where
    no_kept : fits (a.kept +ℤ b.kept) ≡ false → Err NoRoom ≡ together_of a b
    unfolding together_of
    no_kept k = rw (w, k)

    module _ (k : fits (a.kept +ℤ b.kept) ≡ true) where
      no_gaps : fits (a.gaps +ℤ b.gaps) ≡ false → Err NoRoom ≡ together_of a b
      unfolding together_of
      no_gaps g = rw (w, k, g)

      all_three : fits (a.gaps +ℤ b.gaps) ≡ true → Ok (plus a b) ≡ together_of a b
      unfolding together_of
      all_three g = rw (w, k, g)

pub returns-in_err-ok_or : goal.returns-in_err-ok_or
returns-in_err-ok_or c =
    let w = leaves c.args.a.whole c.args.b.whole (search rules) (search rules) c.checked_add.result c.checked_add.ensures c.ok_or.result c.ok_or.ensures.value
    _ c.in_err-ok_or.was in
    left_with _ _ c.from_residual.ensures.1 ∙ ap Err w.1 ∙ no_whole c.args.a c.args.b w.0

pub returns-in_err-ok_or-2 : goal.returns-in_err-ok_or-2
returns-in_err-ok_or-2 c =
    let w = stays c.args.a.whole c.args.b.whole (search rules) (search rules) c.checked_add.result c.checked_add.ensures c.ok_or.result c.ok_or.ensures.value
    _ c.in_ok-ok_or.was in
    let k = leaves c.args.a.kept c.args.b.kept (search rules) (search rules) c.checked_add-2.result c.checked_add-2.ensures c.ok_or-2.result c.ok_or-2.ensures.value
    _ c.in_err-ok_or-2.was in
    left_with _ _ c.from_residual-in_err-ok_or-2.ensures.1 ∙ ap Err k.1 ∙ no_kept c.args.a c.args.b w.0 k.0

pub returns-in_err-ok_or-3 : goal.returns-in_err-ok_or-3
returns-in_err-ok_or-3 c =
    let w = stays c.args.a.whole c.args.b.whole (search rules) (search rules) c.checked_add.result c.checked_add.ensures c.ok_or.result c.ok_or.ensures.value
    _ c.in_ok-ok_or.was in
    let k = stays c.args.a.kept c.args.b.kept (search rules) (search rules) c.checked_add-2.result c.checked_add-2.ensures c.ok_or-2.result c.ok_or-2.ensures.value
    _ c.in_ok-ok_or-2.was in
    let g = leaves c.args.a.gaps c.args.b.gaps (search rules) (search rules) c.checked_add-3.result c.checked_add-3.ensures c.ok_or-3.result c.ok_or-3.ensures.value
    _ c.in_err-ok_or-3.was in
    left_with _ _ c.from_residual-in_err-ok_or-3.ensures.1 ∙ ap Err g.1 ∙ no_gaps c.args.a c.args.b w.0 k.0 g.0

pub returns : goal.returns
returns c =
    let w = stays c.args.a.whole c.args.b.whole (search rules) (search rules) c.checked_add.result c.checked_add.ensures c.ok_or.result c.ok_or.ensures.value
    _ c.in_ok-ok_or.was in
    let k = stays c.args.a.kept c.args.b.kept (search rules) (search rules) c.checked_add-2.result c.checked_add-2.ensures c.ok_or-2.result c.ok_or-2.ensures.value
    _ c.in_ok-ok_or-2.was in
    let g = stays c.args.a.gaps c.args.b.gaps (search rules) (search rules) c.checked_add-3.result c.checked_add-3.ensures c.ok_or-3.result c.ok_or-3.ensures.value
    _ c.in_ok-ok_or-3.was in
    rw (w.1, k.1, g.1) (all_three c.args.a c.args.b w.0 k.0 g.0)
