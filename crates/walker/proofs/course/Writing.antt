-- The loop of `write`, over plain values: what is written and what is left of the walk make the whole, and behind it the buffer is as it was.
-- Assumes nothing.
use Prim.Native.Nat.{ℕ, suc, ◌+◌, ◌-◌, ◌*◌, ◌≤◌, ◌<◌}
use mathlib.Core.Bool.{Bool, true, false, true≢false}
use mathlib.Core.List.{List, [], ◌∷◌, ◌++◌, append_assoc, append-nil}
use mathlib.Core.Option.{some}
use mathlib.Core.Path.{◌≡◌, refl, sym, ap, ap₂, ◌∙◌}
use native.Mathlib.Numerals.{add-one}
use native.Mathlib.Omega.{arith}
use mir.Syntax.{w64}
use mir.Val.{Fits}
use lib.Dec.{ltb}
use lib.IntN.{ℤ}
use lib.ListN.{length, take, drop, set, length-set, take-append-drop}
use lib.Seq.{take-suc-set, drop-set-lt, drop-drop}
use borrow.Author.Tests.{ltb-true, ltb-false}
use Rattle.point.specs.Points.{flat, same_point}
use Rattle.point.specs.declared.PointI32.{PointI32}
use Rattle.point.proofs.Flat.{length_flat}
use Rattle.chart.specs.Pixels.{bad_chart}
use Rattle.chart.specs.declared.Chart.{Chart}
use Rattle.walker.specs.Walk.{Walk, closed, no_way, stuck, after}
use Rattle.walker.specs.inside.Course.{OnEdge, ran_on, rest, point, place_of, points_of, is_closed, HasRoom, written}
use Rattle.walker.specs.declared.run.Place.{Place}
use Rattle.walker.proofs.course.Rest.{ran_facts, rest_is, judged_stuck, judged_closed, judged_on}
use Rattle.walker.proofs.course.Follow.{judged}

-- ---- two stores

module _ {A : Type 0} (l : List A) (i : ℕ) (a b : A) where
  pub put_length : length (set (set l i a) (i + 1) b) ≡ length l
  put_length = length-set (set l i a) (i + 1) b ∙ length-set l i a

  put_take : i + 1 < length l → take (i + 2) (set (set l i a) (i + 1) b) ≡ take i l ++ (a ∷ b ∷ [])
  put_take h =
      let two : i + 2 ≡ suc (i + 1) = omega arith in
      let k : i + 1 < length (set l i a) = rw length-set h in
      ap (λ (n : ℕ). take n (set (set l i a) (i + 1) b)) two
      ∙ take-suc-set (set l i a) (i + 1) b k
      ∙ ap (λ (n : ℕ). take n (set l i a) ++ (b ∷ [])) (add-one i)
      ∙ ap (λ (m : List A). m ++ (b ∷ [])) (take-suc-set l i a (omega arith))
      ∙ append_assoc (take i l) (a ∷ []) (b ∷ [])

  put_drop : (n : ℕ) → i + 2 ≤ n → drop n (set (set l i a) (i + 1) b) ≡ drop n l
  put_drop n h = drop-set-lt n (set l i a) (i + 1) b (omega arith) ∙ drop-set-lt n l i a (omega arith)

-- ---- a walk that ends

after_points : (p : PointI32) (w : Walk) → is_closed (after p w) ≡ true → (is_closed w ≡ true) × (points_of (after p w) ≡ p ∷ points_of w)
after_points p (closed ps) h = (refl, refl)
after_points p no_way h = absurd (true≢false (sym h))
after_points p stuck h = absurd (true≢false (sym h))

abbrev pair : ℤ → ℤ → List ℤ
pair x y = x ∷ y ∷ []

flat_cons : (p : PointI32) (ps : List PointI32) → flat (p ∷ ps) ≡ pair p.x p.y ++ flat ps
unfolding flat
flat_cons p ps = refl

pub record Writing (c : Chart) (pixels : List ℕ) (cw : Bool) (start : PointI32) (way : ℕ) (out₀ out : List ℤ) (at : Place) (i : ℕ) : Type 0 where
  pub on : OnEdge c pixels at
  pub limit : at.steps ≤ 1000000
  pub same : length out ≡ length out₀
  pub ends : is_closed (rest c pixels cw start at) ≡ true
  pub begun : 2 ≤ i
  pub few : i ≤ 2 + at.steps * 2
  pub count : 2 + length (points_of (rest c pixels cw start (place_of start way))) * 2 ≡ i + length (points_of (rest c pixels cw start at)) * 2
  pub done : flat (start ∷ points_of (rest c pixels cw start (place_of start way))) ≡ take i out ++ flat (points_of (rest c pixels cw start at))
  pub old : drop i out ≡ drop i out₀

module _ (c : Chart) (pixels : List ℕ) (cw : Bool) (start : PointI32) (way : ℕ) (out₀ : List ℤ) (good : bad_chart c pixels ≡ false)
    (room : HasRoom out₀ (rest c pixels cw start (place_of start way))) where
  abbrev whole : Walk
  whole = rest c pixels cw start (place_of start way)

  pub write_first : OnEdge c pixels (place_of start way) → Writing c pixels cw start way out₀ (set (set out₀ 0 start.x) 1 start.y) (place_of start way) 2
  write_first h = record {
    on = h;
    limit = omega arith;
    same = put_length out₀ 0 start.x start.y;
    ends = room.ends;
    begun = omega arith;
    few = omega arith;
    count = refl;
    done = flat_cons start (points_of whole) ∙ ap (λ (l : List ℤ). l ++ flat (points_of whole)) (sym (put_take out₀ 0 start.x start.y (omega (arith, room.room))));
    old = put_drop out₀ 0 start.x start.y 2 (omega arith);
  }

  module _ (out : List ℤ) (at : Place) (i : ℕ) (inv : Writing c pixels cw start way out₀ out at i) where
    pub write_fits : Fits w64 (i + 2)
    write_fits = record { fits = omega (arith, inv.few, inv.limit) }

    module _ (q : Place) (ran : ran_on c pixels cw 600 at ≡ some q) where
      next : rest c pixels cw start at ≡ judged start q (rest c pixels cw start q)
      next = rest_is c pixels cw good start at q inv.on inv.limit ran

      facts : OnEdge c pixels q × (at.steps < q.steps) × (q.steps ≤ at.steps + 512)
      facts = ran_facts c pixels cw good at q inv.on ran

      -- the walk ends, so that it does not pass the limit
      within : q.steps ≤ 1000000
      within = go (ltb 1000000 q.steps) refl
        where
          go : (b : Bool) → ltb 1000000 q.steps ≡ b → q.steps ≤ 1000000
          go true e = absurd (true≢false (sym inv.ends ∙ ap is_closed (next ∙ judged_stuck start q (rest c pixels cw start q) (ltb-true 1000000 q.steps e))))
          go false e = ltb-false 1000000 q.steps e

      pub write_less : 1000001 - q.steps < 1000001 - at.steps
      write_less = omega (arith, facts.1, within)

      -- where it ends here, and where it goes on
      here_is : same_point (point q) start ≡ true → points_of (rest c pixels cw start at) ≡ point q ∷ []
      here_is e = ap points_of (next ∙ judged_closed start q (rest c pixels cw start q) within e)

      on_is : same_point (point q) start ≡ false → (is_closed (rest c pixels cw start q) ≡ true) × (points_of (rest c pixels cw start at) ≡ point q ∷ points_of (rest c pixels cw start q))
      on_is e =
          let s = next ∙ judged_on start q (rest c pixels cw start q) within e in
          let a = after_points (point q) (rest c pixels cw start q) (sym (ap is_closed s) ∙ inv.ends) in
          (a.0, ap points_of s ∙ a.1)

      pub write_room : i + 1 < length out
      write_room = go (same_point (point q) start) refl
        where
          go : (b : Bool) → same_point (point q) start ≡ b → i + 1 < length out
          go true e = omega (arith, inv.count, room.room, inv.same, ap length (here_is e))
          go false e = omega (arith, inv.count, room.room, inv.same, ap length (on_is e).1)

      -- what is stored
      abbrev last : List ℤ
      last = set (set out i q.x) (i + 1) q.y

      kept : length last ≡ length out₀
      kept = put_length out i q.x q.y ∙ inv.same

      left : drop (i + 2) last ≡ drop (i + 2) out₀
      left = put_drop out i q.x q.y (i + 2) (omega arith) ∙ sym (drop-drop 2 i out) ∙ ap (drop 2) inv.old ∙ drop-drop 2 i out₀

      -- the point before the rest
      done_next : (ps : List PointI32) → points_of (rest c pixels cw start at) ≡ point q ∷ ps → flat (start ∷ points_of whole) ≡ take (i + 2) last ++ flat ps
      done_next ps e =
          inv.done
          ∙ ap (λ (l : List PointI32). take i out ++ flat l) e
          ∙ ap (λ (l : List ℤ). take i out ++ l) (flat_cons (point q) ps)
          ∙ sym (append_assoc (take i out) (pair q.x q.y) (flat ps))
          ∙ ap (λ (l : List ℤ). l ++ flat ps) (sym (put_take out i q.x q.y write_room))

      module _ (here : Bool) (says : here ≡ same_point (point q) start) where
        pub write_on : (new : List ℤ) → new ≡ last → here ≡ false → Writing c pixels cw start way out₀ new q (i + 2)
        write_on new stored e =
            let o = on_is (sym says ∙ e) in
            rw stored (record {
              on = facts.0;
              limit = within;
              same = kept;
              ends = o.0;
              begun = omega arith;
              few = omega (arith, inv.few, facts.1);
              count = omega (arith, inv.count, ap length o.1);
              done = done_next (points_of (rest c pixels cw start q)) o.1;
              old = left;
            })

        -- the walk has ended
        pub write_last : here ≡ true → last ≡ written out₀ start whole
        unfolding written
        write_last e =
            let o = here_is (sym says ∙ e) in
            let n : i + 2 ≡ length (flat (start ∷ points_of whole)) = omega (arith, inv.count, ap length o, length_flat (start ∷ points_of whole)) in
            sym (take-append-drop (i + 2) last)
            ∙ ap₂ ◌++◌ (sym (done_next [] o ∙ append-nil (take (i + 2) last))) (left ∙ ap (λ (n : ℕ). drop n out₀) n)

pub ruleset writing = (write_first, write_fits, write_room, write_less, write_last, write_on)
