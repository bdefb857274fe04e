-- What `walk_spans` leaves to show. Assumes nothing.
use Prim.Native.Nat.{ℕ, ◌+◌, ◌-◌, ◌≤◌, ◌<◌}
use mathlib.Core.Bool.{true, false}
use mathlib.Core.List.{List}
use mathlib.Core.Path.{◌≡◌, refl, ap, ap₂, sym, ◌∙◌}
use native.Mathlib.Omega.{arith}
use mir.Syntax.{w64}
use mir.Val.{Fits}
use lib.IntN.{ℤ}
use lib.Ieee.{Float}
use lib.ListN.{length, get_or, set, replicate}
use lib.Seq.{sets}
use borrow.Rule.Slice.PartMut.{mid_of, put_mid}
use Rattle.std.proofs.Common.{rules}
use Rattle.std.proofs.lemmas.List.{get_or_default}
use Rattle.split.specs.declared.farthest.Far.{Far}
use Rattle.split.specs.declared.waiting.Parts.{Parts}
use Rattle.split.specs.inside.Parts.{parts_of}
use Rattle.split.specs.inside.Passes.{Rules, Laws}
use Rattle.split.specs.inside.Spans.{FoundInside}
use Rattle.split.specs.Tree.{span_tree}
use Rattle.split.specs.Visits.{visits}
use Rattle.split.proofs.Passing.{Ends, piece, at, around, nothing_worked, whole_ends, around_whole, whole_worked, parted}
use Rattle.split.proofs.Stores.{part_filled_length}
use Rattle.split.proofs.Turns as turns
use Rattle.split.proofs.Turns.{Turn, to_do_of, done_less, taken_less}
use Rattle.split.proofs.waiting.walk_spans.Goals as goal

-- what is known at every turn, of a pass
module _ {P C : Type 0} (r : Rules P C) (points : List ℤ) (p : P) where
  abbrev Known : ℕ → List C → List C → List ℕ → List ℕ → ℕ → ℕ → ℕ → ℕ → Type 0
  Known = Turn points (r.splits p) (Ends r p) (piece r p points)

module _ {P C : Type 0} {r : Rules P C} (laws : Laws r) {points : List ℤ} {p : P} {end : ℕ} where
  begun : {m : List C} {fs ls : List ℕ} → end < 4096 → end < length m → r.Good (r.cell p) → at r p m 0 ≡ r.cell p → at r p m end ≡ r.cell p → length fs ≡ 12 → length ls ≡ 12
      → Known r points p end m m fs ls 0 0 end 0
  begun {m} {fs} {ls} h n g a b i j =
      turns.begun points (r.splits p) (Ends r p) (piece r p points) (nothing_worked r laws points p) end m fs ls h (whole_ends r laws points p m end g a b n) i j

  module _ {m₀ m : List C} {fs ls : List ℕ} {k f l n : ℕ} (s : Known r points p end m₀ m fs ls k f l n) where
    all_put : r.Good (r.cell p) → at r p m₀ 0 ≡ r.cell p → at r p m₀ end ≡ r.cell p → l ≤ f + 1 → k ≡ 0
        → (m ≡ sets m₀ (0 + 1) (r.values p (span_tree points 0 end))) × (n ≡ visits (r.splits p) (span_tree points 0 end))
    all_put g a b h z =
        let e = turns.ended points (r.splits p) (Ends r p) (piece r p points) (nothing_worked r laws points p) end m₀ m fs ls k f l n s h z in
        (e.0 ∙ ap (λ (q : P). sets m₀ (0 + 1) (r.values q (span_tree points 0 end))) (around_whole r laws points p m₀ end g a b), e.1)

    next_taken : l ≤ f + 1 → (k ≡ 0 → ⊥) → Known r points p end m₀ m fs ls (k - 1) (get_or fs (k - 1) 0) (get_or ls (k - 1) 0) n
    next_taken h z = turns.taken points (r.splits p) (Ends r p) (piece r p points) (nothing_worked r laws points p) end m₀ m fs ls k f l n s h z

    module _ (o : f + 1 < l) where
      ends : Ends r p m f l
      ends = turns.good_at_hand points (r.splits p) (Ends r p) (piece r p points) (nothing_worked r laws points p) end m₀ m fs ls k f l n s o

      eleven : k < 11
      eleven = turns.fewer_than_eleven points (r.splits p) (Ends r p) (piece r p points) (nothing_worked r laws points p) end m₀ m fs ls k f l n s o

      distances_fit : {looked : ℕ} → looked ≡ l - f - 1 → end < 4096 → Fits w64 (n + looked)
      distances_fit z h = rw z (turns.distances_fit points (r.splits p) (Ends r p) (piece r p points) (nothing_worked r laws points p) end m₀ m fs ls k f l n s o h)

      -- what is put at the split, by what stands at the ends
      put_there : {x y : C} {d : Float} → x ≡ get_or m f x → y ≡ get_or m l y → {q w : P} {v : C} → q ≡ r.between p x y → w ≡ r.within q d → v ≡ r.cell w
          → v ≡ r.cell (r.within (around r p m f l) d)
      put_there {x} {y} {d} a b i j k =
          k ∙ ap r.cell (j ∙ ap (λ (z : P). r.within z d)
          (i ∙ ap₂ (r.between p) (a ∙ get_or_default m f x (r.cell p) (omega (arith, ends.in_buffer, o))) (b ∙ get_or_default m l y (r.cell p) ends.in_buffer)))

      module _ {looked : ℕ} (z : looked ≡ l - f - 1) {far : Far} (d : FoundInside points f l far) where
        one_filled : {ys : List C} → r.splits p far.distance ≡ false → ys ≡ replicate (length (mid_of (f + 1) (l - (f + 1)) m)) r.rest
            → Known r points p end m₀ (put_mid (f + 1) (l - (f + 1)) m ys) fs ls k f f (n + looked)
        one_filled {ys} e h =
            rw z
            (turns.one_done points (r.splits p) (Ends r p) (piece r p points) (nothing_worked r laws points p) end m₀ m fs ls k f l n s o far d _ e
            (whole_worked r laws points p m f l ends far d o ys e h) (part_filled_length m ys (f + 1) l r.rest h))

        one_put : r.splits p far.distance ≡ true → {v : C} → v ≡ r.cell (r.within (around r p m f l) far.distance)
            → {k' : ℕ} → k' ≡ k + 1 → {w : Parts} → w ≡ parts_of f far.index l
            → Known r points p end m₀ (set m far.index v) (set fs k w.from) (set ls k w.to) k' w.first w.last (n + looked)
        one_put e {v} c {k'} h {w} q =
            rw z
            (turns.one_put points (r.splits p) (Ends r p) (piece r p points) (nothing_worked r laws points p) end m₀ m fs ls k f l n s o far d e v
            (parted r laws points p m f l ends far d o e v c) k' h w q)

      module _ {far : Far} (d : FoundInside points f l far) where
        one_put_less : {k' : ℕ} → k' ≡ k + 1 → {w : Parts} → w ≡ parts_of f far.index l → to_do_of (set fs k w.from) (set ls k w.to) k' w.first w.last < to_do_of fs ls k f l
        one_put_less {k'} h {w} q =
            turns.one_put_less points (r.splits p) (Ends r p) (piece r p points) (nothing_worked r laws points p) end m₀ m fs ls k f l n s o far d k' h w q

ruleset walked = (taken_less, done_less, rules)

pub loop-last-init : goal.loop-last-init
loop-last-init g c = begun c.requires.3.laws (search rules) (search rules) c.requires.3.good c.requires.4 c.requires.5 refl refl

pub returns-then-k-eq0 : goal.returns-then-k-eq0
returns-then-k-eq0 g c = all_put c.requires.3.laws c.loop-last.invariant c.requires.3.good c.requires.4 c.requires.5 c.if-last-first.true c.if-k-eq0.true

pub loop-last-smaller-then-last-first : goal.loop-last-smaller-then-last-first
loop-last-smaller-then-last-first g c = search walked

pub loop-last-preserved-then-last-first : goal.loop-last-preserved-then-last-first
loop-last-preserved-then-last-first g c = next_taken c.requires.3.laws c.loop-last.invariant c.if-last-first.true c.if-k-eq0.false

pub overflow_add-distances : goal.overflow_add-distances
overflow_add-distances g c = distances_fit c.requires.3.laws c.loop-last.invariant c.if-last-first.false c.interior-distances.ensures (search rules)

pub one_more-requires : goal.one_more-requires
one_more-requires g c = let few = eleven c.requires.3.laws c.loop-last.invariant c.if-last-first.false in search rules

pub loop-last-smaller-then-splits : goal.loop-last-smaller-then-splits
loop-last-smaller-then-splits g c =
    one_put_less c.requires.3.laws c.loop-last.invariant c.if-last-first.false c.farthest-far.ensures c.one_more.ensures.0 c.parts_of-parts.ensures

pub loop-last-preserved-then-splits : goal.loop-last-preserved-then-splits
loop-last-preserved-then-splits g c =
    let put = put_there c.requires.3.laws c.loop-last.invariant c.if-last-first.false c.index-out-first.is c.index-out-last.is c.between-around.ensures c.within.ensures c.cell.ensures in
    one_put c.requires.3.laws c.loop-last.invariant c.if-last-first.false c.interior-distances.ensures c.farthest-far.ensures (sym c.splits.ensures ∙ c.if-splits.true) put
    c.one_more.ensures.0 c.parts_of-parts.ensures

pub loop-last-smaller : goal.loop-last-smaller
loop-last-smaller g c = search walked

pub loop-last-preserved : goal.loop-last-preserved
loop-last-preserved g c =
    one_filled c.requires.3.laws c.loop-last.invariant c.if-last-first.false c.interior-distances.ensures c.farthest-far.ensures
    (sym c.splits.ensures ∙ c.if-splits.false) c.fill.ensures
