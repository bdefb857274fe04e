-- One number per point, worked out once, decides at every squared tolerance which points Douglas-Peucker keeps. So zooms nest.
--
-- Said of the two calls: of the numbers that `numbers` leaves in its buffer, and of all that `simplify_douglas_peucker` answers and leaves. It
-- holds of every list of two points or more and every squared tolerance that document 01 takes, and of buffers that have the room. `Decides` is
-- the statement, `one_number_per_point` the theorem, and `zooms_nest` and `dropped_points_are_near` follow. Their words are `positions`, `those` and
-- `Thinned` of `Positions`, `KeptNeighbours` of `Nesting`, and those below. Assumes nothing.
use Prim.Native.Nat.{ℕ, suc, ◌+◌, ◌-◌, ◌*◌, ◌≤◌, ◌<◌}
use mathlib.Core.Bool.{Bool, true, false}
use mathlib.Core.List.{List, [], ◌∷◌, ◌++◌, map, map-map, append-nil, append_assoc}
use mathlib.Core.Path.{◌≡◌, refl, sym, ap, ap₂, subst, subst₂, ◌∙◌}
use native.Mathlib.Omega.{arith}
use lib.IntN.{ℤ, pos}
use lib.Ieee.{Float, nan, inf, binary64, of_int, lt, le}
use lib.ListN.{length, get_or, take, drop, replicate, length-map, length-append}
use lib.Seq.{get_or_at}
use borrow.Author.Tests.{ne_eqb, le-ltb}
use Rattle.std.specs.Prelude.{if◌then◌else◌, Result, Ok}
use Rattle.laws.specs.Lists.{over}
use Rattle.laws.specs.Outcome.{Outcome}
use Rattle.laws.proofs.Lists.{get_d_over_front, take_over_all}
use Rattle.point.specs.Refusals.{count_of}
use Rattle.point.specs.declared.refusal.Refusal.{Refusal}
use Rattle.point.specs.Limits.{too_many, bad_points, bad_sq_tolerance}
use Rattle.point.specs.Points.{flat, points, count, point_at}
use Rattle.point.specs.declared.PointI32.{PointI32}
use Rattle.point.proofs.Flat.{length_points, length_flat, points_flat}
use Rattle.split.specs.Distance.{sq_seg_dist}
use Rattle.split.specs.Tree.{tree, down, marks_of, numbers_of}
use Rattle.split.proofs.Claims.{a_mark_for_each_point, a_number_for_each_point}
use Rattle.split.proofs.Framed.{framed_many}
use Rattle.reduce.specs.DouglasPeucker.{kept_and_marked, douglas_peucker_of}
use Rattle.reduce.specs.Kept.{select, kept}
use Rattle.reduce.specs.Numbers.{numbered_of}
use Rattle.reduce.specs.Zoom.{mark}
use Rattle.reduce.proofs.Select.{kept_many}
use Rattle.nesting.proofs.Kept.{marked}
use Rattle.nesting.proofs.Nesting.{KeptNeighbours, in_i32, below_infinity, is_kept, kept_exactly_below_its_number, numbers_decide_in_range, zooms_nest_in_range, dropped_points_are_near_in_range}
use Rattle.nesting.proofs.Positions.{positions, those, Thinned, front, by_position, last_position, those_append, selects, narrowed}

-- ---- the words

-- the number at a position is greater than the tolerance
abbrev pub above : Float → List Float → ℕ → Bool
above tolerance numbers k = lt tolerance (get_or numbers k nan)

-- the positions of a list of points, in order, whose numbers are greater than the tolerance
abbrev pub kept_positions : List ℤ → List Float → Float → List ℕ
kept_positions list numbers tolerance = those (above tolerance numbers) (positions 0 (count list))

-- P9 and P10: of four points with the numbers infinity, 16, 16, infinity, the ends only at 16, and all at 15
kept_at_16 : kept_positions (replicate 8 (pos 0)) (inf false ∷ of_int binary64 (pos 16) ∷ of_int binary64 (pos 16) ∷ inf false ∷ []) (of_int binary64 (pos 16)) ≡ 0 ∷ 3 ∷ []
unfolding of_int lt
kept_at_16 = refl

kept_at_15 : kept_positions (replicate 8 (pos 0)) (inf false ∷ of_int binary64 (pos 16) ∷ of_int binary64 (pos 16) ∷ inf false ∷ []) (of_int binary64 (pos 15)) ≡ 0 ∷ 1 ∷ 2 ∷ 3 ∷ []
unfolding of_int lt
kept_at_15 = refl

-- room for the points and for the marks of a list
abbrev pub Room : List ℤ → List ℤ → List ℕ → Type 0
Room list out marks = (count list * 2 ≤ length out) × (count list ≤ length marks)

-- ---- the statement

-- Some numbers decide what Douglas-Peucker keeps of a list.
pub record Decides (list : List ℤ) (numbers : List Float) : Type 0 where
  -- at every tolerance the call answers how many points it keeps, leaves them in order at the start of `out`, and leaves a mark for each
  -- position: 1 if it is kept, 0 if not
  pub at_every_tolerance : (tolerance : Float) → bad_sq_tolerance tolerance ≡ false → (out : List ℤ) (marks : List ℕ) → Room list out marks →
      douglas_peucker_of list tolerance out marks
      ≡ record {
        answer = Ok (length (kept_positions list numbers tolerance));
        out = (
          over (flat (map (point_at list) (kept_positions list numbers tolerance))) out,
          over (map (λ k. mark (above tolerance numbers k)) (positions 0 (count list))) marks,
        );
      }
  -- the ends carry +infinity, and so both are kept at every tolerance
  pub first_carries_infinity : get_or numbers 0 nan ≡ inf false
  pub last_carries_infinity : get_or numbers (count list - 1) nan ≡ inf false
  pub both_ends_are_kept : (tolerance : Float) → bad_sq_tolerance tolerance ≡ false →
      (between : List ℕ) × (kept_positions list numbers tolerance ≡ 0 ∷ (between ++ ((count list - 1) ∷ [])))

-- ---- the words of what follows

-- a call keeps a position: its mark there is 1
abbrev pub Keeps : Outcome (Result ℕ Refusal) (List ℤ × List ℕ) → ℕ → Type 0
Keeps call k = get_or call.out.1 k 0 ≡ 1

-- the points that a call leaves: as many as it answers, from the start of its buffer
abbrev pub left_by : Outcome (Result ℕ Refusal) (List ℤ × List ℕ) → List PointI32
left_by call = points (take (count_of call.answer * 2) call.out.0)

-- ---- the calls, on a list that they take

module _ (list : List ℤ) (few : too_many (length list) ≡ false) (good : bad_points list ≡ false) (two : 2 ≤ count list) where
  -- ---- every test is passed

  numbered : (buffer : List Float) → count list ≤ length buffer → numbered_of list buffer ≡ record { answer = Ok (count list); out = over (numbers_of list) buffer }
  unfolding numbered_of
  numbered buffer h = rw (few, good, ne_eqb (count list) 0 (λ z. omega arith), ne_eqb (count list) 1 (λ z. omega arith), le-ltb _ _ h)

  split_done : (tolerance : Float) → bad_sq_tolerance tolerance ≡ false → (out : List ℤ) (marks : List ℕ) → Room list out marks →
      douglas_peucker_of list tolerance out marks ≡ kept_and_marked list tolerance out marks
  unfolding douglas_peucker_of
  split_done tolerance fine out marks room =
      rw (few, good, ne_eqb (count list) 0 (λ z. omega arith), fine, ne_eqb (count list) 1 (λ z. omega arith), le-ltb _ _ room.0, le-ltb _ _ room.1)

  -- ---- numbers of the list, at the start of a buffer

  module _ (rest : List Float) where
    abbrev numbers : List Float
    numbers = numbers_of list ++ rest

    abbrev inside : List Float
    inside = down (inf false) (tree list)

    ends : numbers_of list ≡ inf false ∷ (inside ++ (inf false ∷ []))
    ends = unfold numbers_of in framed_many list (inf false) inside (omega arith)

    first_infinity : get_or numbers 0 nan ≡ inf false
    first_infinity = ap (λ (l : List Float). get_or (l ++ rest) 0 nan) ends

    last_infinity : get_or numbers (count list - 1) nan ≡ inf false
    last_infinity =
        let sized : length (inf false ∷ (inside ++ (inf false ∷ []))) ≡ count list = ap length (sym ends) ∙ a_number_for_each_point list (omega arith) in
        let at : count list - 1 ≡ suc (length inside) = omega (arith, sized, length-append inside (inf false ∷ [])) in
        ap₂ (λ (l : List Float) (j : ℕ). get_or (l ++ rest) j nan) ends at
        ∙ ap (λ (l : List Float). get_or l (length inside) nan) (append_assoc inside (inf false ∷ []) rest)
        ∙ get_or_at inside (inf false) rest nan (length inside) refl

    module _ (tolerance : Float) (fine : bad_sq_tolerance tolerance ≡ false) where
      marks_are : marks_of tolerance list ≡ map (λ k. mark (above tolerance numbers k)) (positions 0 (count list))
      marks_are =
          numbers_decide_in_range list good tolerance fine
          ∙ ap (marked tolerance) (sym (front (numbers_of list) rest nan))
          ∙ map-map (λ v. mark (lt tolerance v)) (λ k. get_or numbers k nan) (positions 0 (length (numbers_of list)))
          ∙ ap (λ (n : ℕ). map (λ k. mark (above tolerance numbers k)) (positions 0 n)) (a_number_for_each_point list (omega arith))

      kept_are : kept (marks_of tolerance list) (points list) ≡ map (point_at list) (kept_positions list numbers tolerance)
      kept_are =
          kept_many (marks_of tolerance list) (points list) (λ e. omega (arith, length_points list))
          ∙ ap₂ select marks_are (by_position list)
          ∙ selects (above tolerance numbers) (point_at list) (positions 0 (count list))

      ends_kept : (between : List ℕ) × (kept_positions list numbers tolerance ≡ 0 ∷ (between ++ ((count list - 1) ∷ [])))
      ends_kept =
          let n = count list - 2 in
          let test = above tolerance numbers in
          let e : count list ≡ suc (suc n) = omega arith in
          let l : 1 + n ≡ count list - 1 = omega arith in
          let infinite : lt tolerance (inf false) ≡ true = below_infinity tolerance fine in
          let first : test 0 ≡ true = ap (lt tolerance) first_infinity ∙ infinite in
          let last : test (count list - 1) ≡ true = ap (lt tolerance) last_infinity ∙ infinite in (
            those test (positions 1 n),
            ap (λ (m : ℕ). those test (positions 0 m)) e
                ∙ ap (λ (b : Bool). if b then (0 ∷ those test (positions 1 (suc n))) else those test (positions 1 (suc n))) first
                ∙ ap (λ (k : List ℕ). 0 ∷ k)
                (ap (those test) (last_position 1 n ∙ ap (λ (j : ℕ). positions 1 n ++ (j ∷ [])) l)
                ∙ those_append test (positions 1 n) ((count list - 1) ∷ [])
                ∙ ap (λ (b : Bool). those test (positions 1 n) ++ (if b then ((count list - 1) ∷ []) else [])) last),
          )

    decides : Decides list numbers
    decides = record {
      at_every_tolerance = λ t fine out marks room.
          split_done t fine out marks room
          ∙ ap₂ (λ (ps : List PointI32) (ms : List ℕ). record { answer = Ok (length ps); out = (over (flat ps) out, over ms marks) }) (kept_are t fine) (marks_are t fine)
          ∙ ap (λ (n : ℕ). record { answer = Ok n; out = (over (flat (map (point_at list) (kept_positions list numbers t))) out, over (map (λ k. mark (above t numbers k)) (positions 0 (count list))) marks) })
          (length-map (kept_positions list numbers t) (point_at list));
      first_carries_infinity = first_infinity;
      last_carries_infinity = last_infinity;
      both_ends_are_kept = ends_kept;
    }

  -- ---- the theorem

  -- `numbers` leaves the list's numbers at the start of its buffer, and they decide.
  pub one_number_per_point : (buffer : List Float) → count list ≤ length buffer →
      (numbered_of list buffer ≡ record { answer = Ok (count list); out = over (numbers_of list) buffer }) × Decides list (numbered_of list buffer).out
  one_number_per_point buffer h = (
    numbered buffer h,
    subst (λ (l : List Float). Decides list l) (sym (ap (λ (c : Outcome (Result ℕ Refusal) (List Float)). c.out) (numbered buffer h))) (unfold over in decides (drop (length (numbers_of list)) buffer)),
  )

  -- ---- so zooms nest, and dropped points are near

  module _ (tolerance : Float) (fine : bad_sq_tolerance tolerance ≡ false) (out : List ℤ) (marks : List ℕ) (room : Room list out marks) where
    marks_left : (k : ℕ) → k < count list → get_or (douglas_peucker_of list tolerance out marks).out.1 k 0 ≡ get_or (marks_of tolerance list) k 0
    marks_left k h =
        ap (λ (c : Outcome (Result ℕ Refusal) (List ℤ × List ℕ)). get_or c.out.1 k 0) (split_done tolerance fine out marks room)
        ∙ get_d_over_front (marks_of tolerance list) marks k 0 (omega (arith, a_mark_for_each_point list tolerance (omega arith)))

    points_left : left_by (douglas_peucker_of list tolerance out marks) ≡ map (point_at list) (kept_positions list (numbers_of list) tolerance)
    points_left =
        let ps = kept (marks_of tolerance list) (points list) in
        ap left_by (split_done tolerance fine out marks room)
        ∙ ap (λ (n : ℕ). points (take n (over (flat ps) out))) (sym (length_flat ps))
        ∙ ap points (take_over_all (flat ps) out)
        ∙ points_flat ps
        ∙ kept_are [] tolerance fine
        ∙ ap (λ (l : List Float). map (point_at list) (kept_positions list l tolerance)) (append-nil (numbers_of list))

    -- A point that the call drops lies at most as far as the tolerance from the segment between its kept neighbours.
    pub dropped_points_are_near : (k : ℕ) → k < count list → get_or (douglas_peucker_of list tolerance out marks).out.1 k 0 ≡ 0 →
        (n : KeptNeighbours list tolerance (douglas_peucker_of list tolerance out marks).out.1 k)
        × (le (sq_seg_dist (point_at list k) (point_at list n.before) (point_at list n.after)) tolerance ≡ true)
    dropped_points_are_near k h e =
        let near = dropped_points_are_near_in_range list good tolerance fine k h (sym (marks_left k h) ∙ e) in
        let n = near.0 in
        let last = n.is_a_point in
        let first : n.before < count list = omega (arith, n.comes_before, h) in (
          record {
            before = n.before;
            after = n.after;
            comes_before = n.comes_before;
            comes_after = n.comes_after;
            is_a_point = last;
            before_kept = marks_left n.before first ∙ n.before_kept;
            after_kept = marks_left n.after last ∙ n.after_kept;
            none_kept_between = λ j p q. marks_left j (omega (arith, last, q)) ∙ n.none_kept_between j p q;
            within_tolerance = n.within_tolerance;
          },
          near.1,
        )

  -- At a lower tolerance the call keeps every position that it keeps at a higher one, so what it leaves at the higher is what it leaves at
  -- the lower, thinned.
  pub zooms_nest : (lower higher : Float) → bad_sq_tolerance lower ≡ false → bad_sq_tolerance higher ≡ false → le lower higher ≡ true →
      (out out' : List ℤ) (marks marks' : List ℕ) → Room list out marks → Room list out' marks' →
      ((k : ℕ) → k < count list → Keeps (douglas_peucker_of list higher out marks) k → Keeps (douglas_peucker_of list lower out' marks') k)
      × Thinned (left_by (douglas_peucker_of list higher out marks)) (left_by (douglas_peucker_of list lower out' marks'))
  zooms_nest lower higher fine fine' order out out' marks marks' room room' = (
    λ k h e. marks_left lower fine out' marks' room' k h ∙ nests k (sym (marks_left higher fine' out marks room k h) ∙ e),
    subst₂ Thinned (sym (points_left higher fine' out marks room)) (sym (points_left lower fine out' marks' room'))
        (narrowed (point_at list) (above higher (numbers_of list)) (above lower (numbers_of list)) still_above (positions 0 (count list))),
  )
    where
      nests : (k : ℕ) → get_or (marks_of higher list) k 0 ≡ 1 → get_or (marks_of lower list) k 0 ≡ 1
      nests = zooms_nest_in_range list good lower higher fine fine' order

      still_above : (k : ℕ) → above higher (numbers_of list) k ≡ true → above lower (numbers_of list) k ≡ true
      still_above k h =
          is_kept (above lower (numbers_of list) k)
          (sym (kept_exactly_below_its_number list (in_i32 list good) lower (below_infinity lower fine) k)
          ∙ nests k (kept_exactly_below_its_number list (in_i32 list good) higher (below_infinity higher fine') k ∙ ap mark h))
