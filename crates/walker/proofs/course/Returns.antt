-- What `walk` answers, over plain values: its tests pick a line of the definition, and the walk by places is the walk. Assumes nothing.
use Prim.Native.Nat.{ℕ, zero, suc, ◌+◌, ◌*◌, ◌/◌, ◌≤◌, ◌<◌}
use mathlib.Core.Bool.{Bool, true, false, ◌&&◌, true≢false}
use mathlib.Core.List.{List, [], ◌∷◌}
use mathlib.Core.Option.{Option, some, none}
use mathlib.Core.Path.{◌≡◌, refl, sym, ap, subst, ◌∙◌}
use native.Mathlib.Omega.{arith}
use lib.Dec.{ltb}
use lib.IntN.{ℤ}
use lib.ListN.{length}
use borrow.Author.Tests.{lt-ltb, le-ltb}
use Rattle.std.specs.Prelude.{Option as Found, Some, None, Ok, Err}
use Rattle.point.specs.Points.{same_point}
use Rattle.point.specs.Limits.{in_range}
use Rattle.point.specs.Outcomes.{outcome}
use Rattle.point.specs.declared.PointI32.{PointI32}
use Rattle.point.specs.declared.refusal.Refusal.TheVariants.{BadSize, BadPoint, NoWay, Stuck, NoRoom}
use Rattle.chart.specs.Pixels.{bad_chart, pixel_at, around_of}
use Rattle.chart.specs.declared.Chart.{Chart}
use Rattle.walker.specs.Walk.{Pixels, Way, up, right, down, left, exit, taken, at_start, follow, Walk, closed, no_way, stuck, after, walk_from, ended, walked}
use Rattle.walker.specs.inside.Course.{first_exit, found_exit, OnEdge, went_on, rest, point, place_of, counted, HasRoom, written}
use Rattle.walker.specs.declared.run.Place.{Place}
use Rattle.walker.proofs.exits.Tables.{way_no, Begins}
use Rattle.walker.proofs.WayBack.{taken_first, along_stood}
use Rattle.walker.proofs.course.Follow.{run_ends, follow_is, judged, went_on_lem, on_edge}

-- ---- the walk from a start, by the exit that is taken there

pub from_none : (set : Pixels) (cw : Bool) (start : PointI32) → taken set cw (at_start start) ≡ none → walk_from set cw start ≡ no_way
unfolding walk_from
from_none set cw start e = ap (λ (o : Option Way). elim o as (λ _. Walk) [ none ↦ no_way | some d ↦ after start (follow set cw start 1000002 (at_start start) d) ]) e

pub from_some : (set : Pixels) (cw : Bool) (start : PointI32) (k : Way) → taken set cw (at_start start) ≡ some k → walk_from set cw start ≡ after start (follow set cw start 1000002 (at_start start) k)
unfolding walk_from
from_some set cw start k e = ap (λ (o : Option Way). elim o as (λ _. Walk) [ none ↦ no_way | some d ↦ after start (follow set cw start 1000002 (at_start start) d) ]) e

found_way : (k : Way) → found_exit (way_no k) ≡ Some (way_no k)
found_way up = refl
found_way right = refl
found_way down = refl
found_way left = refl

-- ---- what a walk behind the start ends with

abbrev pub found : Walk → Bool
found (closed ps) = true
found no_way = false
found stuck = true

-- a walk from an exit never finds none
module _ (c : Chart) (pixels : List ℕ) (cw : Bool) (good : bad_chart c pixels ≡ false) (start : PointI32) where
  found_judged : (q : Place) (w : Walk) → found w ≡ true → found (judged start q w) ≡ true
  found_judged q w h = go (ltb 1000000 q.steps) (same_point (point q) start)
    where
      found_after : (w : Walk) → found w ≡ true → found (after (point q) w) ≡ true
      found_after (closed ps) h = refl
      found_after no_way h = h
      found_after stuck h = refl

      go : (a b : Bool) → found (elim a as (λ _. Walk) [ true ↦ stuck | false ↦ elim b as (λ _. Walk) [ true ↦ closed (point q ∷ []) | false ↦ after (point q) w ] ]) ≡ true
      go true b = refl
      go false true = refl
      go false false = found_after w h

  pub always_found : (n : ℕ) (p : Place) → OnEdge c pixels p → found (went_on c pixels cw start n p) ≡ true
  always_found zero p h = unfold went_on in refl
  always_found (suc n) p h =
      let r = run_ends c pixels cw good p h in
      ap found (went_on_lem c pixels cw start n p r.last r.runs) ∙ found_judged r.last (went_on c pixels cw start n r.last) (always_found n r.last r.on)

some_same : (m n : ℕ) → Some m ≡ Some n → m ≡ n
some_same m n e = cc

-- the other ends
module _ (start : PointI32) (out : List ℤ) where
  end_stuck : (w : Walk) → (w ≡ no_way → ⊥) → None ≡ counted 1 w → record { answer = Err Stuck; out = out } ≡ ended (after start w) out
  end_stuck (closed ps) f e = let z : ◌≡◌ {A = ℕ} 0 1 = cc in absurd (omega arith)
  end_stuck no_way f e = absurd (f refl)
  end_stuck stuck f e = refl

  module _ (points : ℕ) where
    -- it has so many points
    record Counts (w : Walk) : Type 0 where
      pub ps : List PointI32
      pub ends : w ≡ closed ps
      pub count : points ≡ suc (length ps)

    counts_of : (w : Walk) → Some points ≡ counted 1 w → Counts w
    counts_of (closed ps) e = record { ps = ps; ends = refl; count = some_same points (1 + length ps) e ∙ omega arith }
    counts_of no_way e = let z : ◌≡◌ {A = ℕ} 0 1 = cc in absurd (omega arith)
    counts_of stuck e = let z : ◌≡◌ {A = ℕ} 0 1 = cc in absurd (omega arith)

    module _ (w : Walk) (n : Counts w) where
      -- there is room where the points so counted fit
      room_for : points ≤ length out / 2 → HasRoom out w
      room_for h = subst (HasRoom out) (sym n.ends) (record { ends = refl; room = omega (arith, n.count) })

      end_full : length out / 2 < points → record { answer = Err NoRoom; out = out } ≡ ended (after start w) out
      unfolding outcome
      end_full h = rw (n.ends, lt-ltb (length out) (suc (length n.ps) * 2) (omega (arith, n.count)))

      end_done : (last : List ℤ) → points ≤ length out / 2 → last ≡ written out start w → record { answer = Ok points; out = last } ≡ ended (after start w) out
      unfolding written outcome
      end_done last h l = of_points n.ps n.count (l ∙ ap (written out start) n.ends) ∙ ap (λ (w : Walk). ended (after start w) out) (sym n.ends)
        where
          of_points : (ps : List PointI32) → points ≡ suc (length ps) → last ≡ written out start (closed ps) → record { answer = Ok points; out = last } ≡ ended (closed (start ∷ ps)) out
          of_points ps m f = rw (f, m, le-ltb (length out) (suc (length ps) * 2) (omega arith))

module _ (c : Chart) (pixels : List ℕ) (cw : Bool) (start : PointI32) where
  abbrev set : Pixels
  set = pixel_at c pixels

  abbrev Enters : Found ℕ → Type 0
  Enters None = walk_from set cw start ≡ no_way
  Enters (Some way) = OnEdge c pixels (place_of start way) × (bad_chart c pixels ≡ false → walk_from set cw start ≡ after start (rest c pixels cw start (place_of start way)))

  enters : (n : ℕ) (o : Option Way) → taken set cw (at_start start) ≡ o → Begins (exit set start) n o → Enters (found_exit n)
  unfolding rest
  enters n none e b = rw b (from_none set cw start e)
  enters n (some k) e b =
      let a = along_stood set start 0 k b.1 in
      subst Enters (sym (ap found_exit (sym b.0) ∙ found_way k)) (
        on_edge c pixels (at_start start) k a,
        λ good. from_some set cw start k e ∙ ap (after start) (follow_is c pixels cw good start 1000002 (at_start start) k a),
      )

  module _ (out : List ℤ) (bad : Bool) (is-bad : bad ≡ bad_chart c pixels) where
    pub bad_size : bad ≡ true → record { answer = Err BadSize; out = out } ≡ walked c pixels start cw out
    unfolding walked
    bad_size e = rw (← is-bad, e)

    pub not_bad : bad ≡ false → bad_chart c pixels ≡ false
    not_bad e = sym is-bad ∙ e

    pub bad_point : bad ≡ false → (near : Bool) → near ≡ (in_range start.x && in_range start.y) → near ≡ false → record { answer = Err BadPoint; out = out } ≡ walked c pixels start cw out
    unfolding walked
    bad_point e near is_near f = rw (← is-bad, e, ← is_near, f)

  abbrev exit_there : ℕ
  exit_there = first_exit (around_of c pixels start.x start.y) cw

  entered : Enters (found_exit exit_there)
  entered = enters exit_there (taken set cw (at_start start)) refl (taken_first c pixels cw start)

  entered_by : (o : Found ℕ) → o ≡ found_exit exit_there → Enters o
  entered_by o e = subst Enters (sym e) entered

  pub way_on_edge : (way : ℕ) → Some way ≡ found_exit exit_there → OnEdge c pixels (place_of start way)
  way_on_edge way e = (entered_by (Some way) e).0

  module _ (out : List ℤ) (bad near : Bool) (is-bad : bad ≡ bad_chart c pixels) (is_near : near ≡ (in_range start.x && in_range start.y))
      (fine : bad ≡ false) (in_it : near ≡ true) where
    good : bad_chart c pixels ≡ false
    good = sym is-bad ∙ fine

    judged_is : walked c pixels start cw out ≡ ended (walk_from set cw start) out
    unfolding walked
    judged_is = rw (← is-bad, ← is_near, fine, in_it)

    pub no_way_out : None ≡ found_exit exit_there → record { answer = Err NoWay; out = out } ≡ walked c pixels start cw out
    no_way_out e = sym (judged_is ∙ ap (λ (w : Walk). ended w out) (entered_by None e))

    module _ (way : ℕ) (says : Some way ≡ found_exit exit_there) where
      abbrev tail : Walk
      tail = rest c pixels cw start (place_of start way)

      tail_is : walked c pixels start cw out ≡ ended (after start tail) out
      tail_is = judged_is ∙ ap (λ (w : Walk). ended w out) ((entered_by (Some way) says).1 good)

      pub stuck_out : None ≡ counted 1 tail → record { answer = Err Stuck; out = out } ≡ walked c pixels start cw out
      unfolding rest
      stuck_out e = end_stuck start out tail never e ∙ sym tail_is
        where
          never : tail ≡ no_way → ⊥
          never e = true≢false (sym (always_found c pixels cw good start 1000002 (place_of start way) (way_on_edge way says)) ∙ ap found e)

      module _ (points : ℕ) (e : Some points ≡ counted 1 tail) where
        pub full_out : length out / 2 < points → record { answer = Err NoRoom; out = out } ≡ walked c pixels start cw out
        full_out h = end_full start out points tail (counts_of start out points tail e) h ∙ sym tail_is

        pub has_room : points ≤ length out / 2 → HasRoom out tail
        has_room h = room_for start out points tail (counts_of start out points tail e) h

        pub done_out : points ≤ length out / 2 → (last : List ℤ) → last ≡ written out start tail → record { answer = Ok points; out = last } ≡ walked c pixels start cw out
        done_out h last f = end_done start out points tail (counts_of start out points tail e) last h f ∙ sym tail_is

pub ruleset answers = (bad_size, not_bad, bad_point, no_way_out, way_on_edge, stuck_out, full_out, has_room, done_out)
