use Rattle.std.proofs.Common.{ℕ, ◌<◌, ◌≤◌, List, length, set, sym, ap, ◌∙◌, arith}
use Rattle.std.proofs.lemmas.Option.{same_Some}
use lib.Seq.{take_all}
use Rattle.laws.specs.Lists.{over}
use Rattle.laws.proofs.Lists.{over_nil}
use Rattle.words.specs.Bytes.{bytes_of}
use Rattle.words.proofs.Pairs.{values, pair_at, room_says, room_holds, length_values, laid_is, one_more}
use Rattle.words.proofs.bytes.write_bytes.Goals as goal

pub loop-n-init : goal.loop-n-init
loop-n-init c = sym (over_nil c.args.to.now)

pub unwrap-requires : goal.unwrap-requires
unwrap-requires c =
    let w = c.args.word.now in
    let says = room_says (bytes_of w) _ c.requires in
    let count = length_values w says in
    rw (c.pair.ensures, pair_at w c.loop-n.n says (omega (arith, count)))

pub bounds-to-n : goal.bounds-to-n
bounds-to-n c =
    let w = c.args.word.now in
    omega (arith, room_holds (bytes_of w) _ c.requires, length_values w (room_says (bytes_of w) _ c.requires))

pub loop-n-preserved : goal.loop-n-preserved
loop-n-preserved c =
    let w = c.args.word.now in
    let says = room_says (bytes_of w) _ c.requires in
    let count = length_values w says in
    let k : c.loop-n.n < length (values w) = omega (arith, count) in
    ap (λ (to : List ℕ). set to c.loop-n.n c.unwrap.result) c.loop-n.invariant
    ∙ one_more (values w) c.args.to.now c.loop-n.n c.unwrap.result k (omega (arith, room_holds (bytes_of w) _ c.requires))
    (same_Some _ _ (sym c.unwrap.ensures ∙ c.pair.ensures ∙ pair_at w c.loop-n.n says k))

pub returns : goal.returns
returns c =
    let w = c.args.word.now in
    let count = length_values w (room_says (bytes_of w) _ c.requires) in
    let all : length (values w) ≤ c.loop-n.n = omega (arith, count) in
    c.loop-n.invariant ∙ ap (λ (bs : List ℕ). over bs c.args.to.now) (rw take_all) ∙ sym (laid_is (bytes_of w) c.args.to.now)
