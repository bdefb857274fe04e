-- What follows of the contracts, for their readers and their callers. Assumes nothing.
use Prim.Native.Nat.{ℕ}
use mathlib.Core.Bool.{Bool}
use mathlib.Core.List.{List}
use mathlib.Core.Path.{◌≡◌, refl}
use seplogic.Ra.Ura.{Ura}
use lib.Ieee.{Float, binary64, of_bits, to_bits}
use lib.IntN.{ℤ}
use base.Logic.{SProp}
use contract.Monad.{Fun, fact}
use types.Logic.{Logic}
use prog.Memory.{Memory}
use prog.Routine.{Routine}
use Rattle.laws.specs.Outcome.{Outcome}
use Rattle.laws.proofs.Determined.{Determined, same}
use Rattle.chart.specs.Area.{area_of}
use Rattle.chart.specs.Pixels.{pixel_at}
use Rattle.chart.specs.Start.{first_start}
use Rattle.corners.specs.Calls.{find_corners_of}
use Rattle.util.specs.Answers.{intersection_values}
use Rattle.util.specs.Crossing.{intersection_of}
use Rattle.util.specs.Ratios.{outside_of, inside_of, coincide_of}
use Rattle.util.specs.declared.ratios.Intersection.{Intersection}
use Rattle.util.specs.declared.ratios.Intersection.TheVariants as Case
use Rattle.frames.specs.Answer.{answer_to}
use Rattle.util.specs.Lengths.{middle_of, norm_of, norm_of_i32}
use Rattle.point.specs.Points.{point_at}
use Rattle.pbm.specs.Read.{read_of}
use Rattle.pbm.specs.Write.{written_of}
use Rattle.reduce.specs.Radial.{radial_of}
use Rattle.reduce.specs.DouglasPeucker.{douglas_peucker_of, counted_douglas_peucker_of}
use Rattle.reduce.specs.Reduce.{reduce_of}
use Rattle.reduce.specs.Numbers.{numbered_of, counted_numbered_of}
use Rattle.reduce.specs.Zoom.{zoom_of}
use Rattle.simplify.specs.Staircase.{staircase_of}
use Rattle.simplify.specs.Penalties.{penalties_of}
use Rattle.simplify.specs.Simplify.{simplify_of}
use Rattle.smooth.specs.Calls.{subdivided_of}
use Rattle.spiral.specs.Spiral.{fresh_spiral, advanced}
use Rattle.spiral.specs.declared.SpiralWalker.{SpiralWalker}
use Rattle.sqrt.specs.Root.{root_of}
use Rattle.texts.specs.Put.{put, Placed}
use Rattle.util.specs.Area.{signed_area_of}
use Rattle.walker.specs.Walk.{walked}
use Rattle.sandline_c.specs.Handed.{answer_for_c, counted_for_c, picture_for_c, round_for_c, start_for_c, area_for_c, signed_area_for_c, mid_point_for_c, length_for_c, crossing_for_c, spiral_for_c, advance_for_c}
use Rattle.sandline_c.specs.Read.{chart_from, point_from, point_f64_from, point_f64_at, pair_from, settings_from, crossing_from}
use Rattle.sandline_c.proofs.sqrt_c.sandline_sqrt.Reads.{Post as Sqrt}
use Rattle.sandline_c.proofs.sqrt_c.sandline_sqrt_bits.Reads.{Post as SqrtBits}
use Rattle.sandline_c.proofs.util_c.sandline_signed_area.Reads.{Post as SignedArea}
use Rattle.sandline_c.proofs.util_c.sandline_find_mid_point.Reads.{Post as FindMidPoint}
use Rattle.sandline_c.proofs.util_c.sandline_norm.Reads.{Post as Norm}
use Rattle.sandline_c.proofs.util_c.sandline_norm_i32.Reads.{Post as NormI32}
use Rattle.sandline_c.proofs.util_c.crossing.sandline_find_intersection.Reads.{Post as FindIntersection}
use Rattle.sandline_c.proofs.util_c.crossing.sandline_outside.Reads.{Post as Outside}
use Rattle.sandline_c.proofs.util_c.crossing.sandline_inside.Reads.{Post as Inside}
use Rattle.sandline_c.proofs.util_c.crossing.sandline_coincide.Reads.{Post as Coincide}
use Rattle.sandline_c.proofs.chart_c.sandline_pixel.Reads.{Post as Pixel}
use Rattle.sandline_c.proofs.chart_c.sandline_area.Reads.{Post as Area}
use Rattle.sandline_c.proofs.chart_c.sandline_first_start.Reads.{Post as FirstStart}
use Rattle.sandline_c.proofs.walker_c.sandline_walk.Reads.{Post as Walk}
use Rattle.sandline_c.proofs.frames_c.sandline_answer.Reads.{Post as Answer}
use Rattle.sandline_c.proofs.pbm_c.sandline_read_pbm.Reads.{Post as ReadPbm}
use Rattle.sandline_c.proofs.pbm_c.sandline_write_pbm.Reads.{Post as WritePbm}
use Rattle.sandline_c.proofs.corners_c.sandline_find_corners.Reads.{Post as FindCorners}
use Rattle.sandline_c.proofs.smooth_c.sandline_subdivide_keep_corners.Reads.{Post as SubdivideKeepCorners}
use Rattle.sandline_c.proofs.simplify_c.sandline_remove_staircase.Reads.{Post as RemoveStaircase}
use Rattle.sandline_c.proofs.simplify_c.sandline_limit_penalties.Reads.{Post as LimitPenalties}
use Rattle.sandline_c.proofs.simplify_c.sandline_simplify.Reads.{Post as Simplify}
use Rattle.sandline_c.proofs.reduce_c.sandline_simplify_radial_dist.Reads.{Post as SimplifyRadialDist}
use Rattle.sandline_c.proofs.reduce_c.sandline_simplify_douglas_peucker.Reads.{Post as SimplifyDouglasPeucker}
use Rattle.sandline_c.proofs.reduce_c.sandline_simplify_douglas_peucker_counted.Reads.{Post as SimplifyDouglasPeuckerCounted}
use Rattle.sandline_c.proofs.reduce_c.sandline_reduce.Reads.{Post as Reduce}
use Rattle.sandline_c.proofs.reduce_c.sandline_numbers.Reads.{Post as Numbers}
use Rattle.sandline_c.proofs.reduce_c.sandline_numbers_counted.Reads.{Post as NumbersCounted}
use Rattle.sandline_c.proofs.reduce_c.sandline_zoom.Reads.{Post as Zoom}
use Rattle.sandline_c.specs.contracts.spiral_c.sandline_spiral as spiral
use Rattle.sandline_c.specs.contracts.spiral_c.sandline_spiral_advance as spiral_advance

-- ---- each contract leaves no choice: of equal arguments it allows one result, and one last content of all that was lent. `Post` is the contract itself, as Rattle
-- reads it off the source.

pub sqrt_determined : Determined Float Float Sqrt (λ _ a. a.0) (λ _ r s. r)
sqrt_determined = same (λ x. root_of binary64 x) (λ _ a r s p. p)

pub sqrt_bits_determined : Determined ℕ ℕ SqrtBits (λ _ a. a.0) (λ _ r s. r)
sqrt_bits_determined = same (λ x. to_bits binary64 (root_of binary64 (of_bits binary64 x))) (λ _ a r s p. p)

pub signed_area_determined : Determined (List ℤ × List ℤ) (Outcome ℕ (List ℤ)) SignedArea (λ _ a. (a.0.now, a.1.0.now)) (λ _ r s. record { answer = r; out = s.1.0.now })
signed_area_determined = same (λ x. signed_area_for_c (signed_area_of (point_at x.0 0) (point_at x.0 1) (point_at x.0 2)) x.1) (λ _ a r s p. p)

pub find_mid_point_determined : Determined (List Float × List Float) (Outcome ℕ (List Float)) FindMidPoint (λ _ a. (a.0.now, a.1.0.now)) (λ _ r s. record { answer = r; out = s.1.0.now })
find_mid_point_determined = same (λ x. mid_point_for_c (middle_of (point_f64_at x.0 0) (point_f64_at x.0 1)) x.1) (λ _ a r s p. p)

pub norm_determined : Determined (Float × Float × List Float) (Outcome ℕ (List Float)) Norm (λ _ a. (a.0, a.1.0, a.1.1.0.now)) (λ _ r s. record { answer = r; out = s.1.1.0.now })
norm_determined = same (λ x. length_for_c (norm_of (point_f64_from x.0 x.1)) x.2) (λ _ a r s p. p)

pub norm_i32_determined : Determined (ℤ × ℤ × List Float) (Outcome ℕ (List Float)) NormI32 (λ _ a. (a.0, a.1.0, a.1.1.0.now)) (λ _ r s. record { answer = r; out = s.1.1.0.now })
norm_i32_determined = same (λ x. length_for_c (norm_of_i32 (point_from x.0 x.1)) x.2) (λ _ a r s p. p)

pub find_intersection_determined : Determined (List Float × List Float × List Float) (Outcome ℕ (List Float × List ℕ)) FindIntersection (λ _ a. (a.0.now, a.1.0.now, a.1.1.0.now)) (λ _ r s. record { answer = r; out = (s.1.1.0.now, s.1.1.1.0.now) })
find_intersection_determined = same (λ x. crossing_for_c (intersection_of (point_f64_at x.0 0) (point_f64_at x.0 1) (point_f64_at x.1 0) (point_f64_at x.1 1)) x.2) (λ _ a r s p. p)

pub outside_determined : Determined (List Float) Bool Outside (λ _ a. a.0.now) (λ _ r s. r)
outside_determined = same (λ x. outside_of (crossing_from x)) (λ _ a r s p. p)

pub inside_determined : Determined (List Float) Bool Inside (λ _ a. a.0.now) (λ _ r s. r)
inside_determined = same (λ x. inside_of (crossing_from x)) (λ _ a r s p. p)

pub coincide_determined : Determined (List Float) Bool Coincide (λ _ a. a.0.now) (λ _ r s. r)
coincide_determined = same (λ x. coincide_of (crossing_from x)) (λ _ a r s p. p)

pub pixel_determined : Determined (ℕ × ℕ × List ℕ × ℤ × ℤ) Bool Pixel (λ _ a. (a.0, a.1.0, a.1.1.0.now, a.1.1.1.0, a.1.1.1.1.0)) (λ _ r s. r)
pixel_determined = same (λ x. pixel_at (chart_from x.0 x.1) x.2 x.3 x.4) (λ _ a r s p. p)

pub area_determined : Determined (ℕ × ℕ × List ℕ) (Outcome ℕ (List ℕ)) Area (λ _ a. (a.0, a.1.0, a.1.1.0.now)) (λ _ r s. record { answer = r; out = s.1.1.1.0.now })
area_determined = same (λ x. area_for_c (area_of (chart_from x.0 x.1) x.2)) (λ _ a r s p. p)

pub first_start_determined : Determined (ℕ × ℕ × List ℕ × List ℤ) (Outcome ℕ (List ℤ)) FirstStart (λ _ a. (a.0, a.1.0, a.1.1.0.now, a.1.1.1.0.now)) (λ _ r s. record { answer = r; out = s.1.1.1.0.now })
first_start_determined = same (λ x. start_for_c (first_start (chart_from x.0 x.1) x.2) x.3) (λ _ a r s p. p)

pub walk_determined : Determined (ℕ × ℕ × List ℕ × ℤ × ℤ × Bool × List ℤ) (Outcome ℕ (List ℤ × List ℕ)) Walk (λ _ a. (a.0, a.1.0, a.1.1.0.now, a.1.1.1.0, a.1.1.1.1.0, a.1.1.1.1.1.0, a.1.1.1.1.1.1.0.now)) (λ _ r s. record { answer = r; out = (s.1.1.1.1.1.1.0.now, s.1.1.1.1.1.1.1.0.now) })
walk_determined = same (λ x. answer_for_c (walked (chart_from x.0 x.1) x.2 (point_from x.3 x.4) x.5 x.6)) (λ _ a r s p. p)

pub answer_determined : Determined (List ℕ × List ℕ × ℕ) Placed Answer (λ _ a. (a.0.now, a.1.0.now, a.1.1.0)) (λ _ r s. record { answer = r; out = s.1.0.now })
answer_determined = same (λ x. put (answer_to x.0) x.1 x.2) (λ _ a r s p. p)

pub read_pbm_determined : Determined (List ℕ × List ℕ × List ℕ × List ℕ) (Outcome ℕ (List ℕ × List ℕ × List ℕ × List ℕ)) ReadPbm (λ _ a. (a.0.now, a.1.0.now, a.1.1.0.now, a.1.1.1.0.now)) (λ _ r s. record { answer = r; out = (s.1.0.now, s.1.1.0.now, s.1.1.1.0.now, s.1.1.1.1.0.now) })
read_pbm_determined = same (λ x. picture_for_c (read_of x.0 x.1) x.2 x.3) (λ _ a r s p. p)

pub write_pbm_determined : Determined (ℕ × ℕ × List ℕ × List ℕ) (Outcome ℕ (List ℕ × List ℕ)) WritePbm (λ _ a. (a.0, a.1.0, a.1.1.0.now, a.1.1.1.0.now)) (λ _ r s. record { answer = r; out = (s.1.1.1.0.now, s.1.1.1.1.0.now) })
write_pbm_determined = same (λ x. answer_for_c (written_of (chart_from x.0 x.1) x.2 x.3)) (λ _ a r s p. p)

pub find_corners_determined : Determined (List ℤ × ℤ × ℤ × Bool × List ℕ) (Outcome ℕ (List ℕ × List ℕ)) FindCorners (λ _ a. (a.0.now, a.1.0, a.1.1.0, a.1.1.1.0, a.1.1.1.1.0.now)) (λ _ r s. record { answer = r; out = (s.1.1.1.1.0.now, s.1.1.1.1.1.0.now) })
find_corners_determined = same (λ x. answer_for_c (find_corners_of x.0 (pair_from x.1 x.2) x.3 x.4)) (λ _ a r s p. p)

pub subdivide_keep_corners_determined : Determined (List Float × List ℕ × Float × Float × Bool × List Float × List ℕ × List Bool) (Outcome ℕ (List Float × List ℕ × List ℕ × List Bool)) SubdivideKeepCorners (λ _ a. (a.0.now, a.1.0.now, a.1.1.0, a.1.1.1.0, a.1.1.1.1.0, a.1.1.1.1.1.0.now, a.1.1.1.1.1.1.0.now, a.1.1.1.1.1.1.1.1.0.now)) (λ _ r s. record { answer = r; out = (s.1.1.1.1.1.0.now, s.1.1.1.1.1.1.0.now, s.1.1.1.1.1.1.1.0.now, s.1.1.1.1.1.1.1.1.0.now) })
subdivide_keep_corners_determined = same (λ x. round_for_c (subdivided_of x.0 x.1 (settings_from x.2 x.3) x.4 x.5 x.6) x.7) (λ _ a r s p. p)

pub remove_staircase_determined : Determined (List ℤ × Bool × List ℤ) (Outcome ℕ (List ℤ × List ℕ)) RemoveStaircase (λ _ a. (a.0.now, a.1.0, a.1.1.0.now)) (λ _ r s. record { answer = r; out = (s.1.1.0.now, s.1.1.1.0.now) })
remove_staircase_determined = same (λ x. answer_for_c (staircase_of x.0 x.1 x.2)) (λ _ a r s p. p)

pub limit_penalties_determined : Determined (List ℤ × List ℤ) (Outcome ℕ (List ℤ × List ℕ)) LimitPenalties (λ _ a. (a.0.now, a.1.0.now)) (λ _ r s. record { answer = r; out = (s.1.0.now, s.1.1.0.now) })
limit_penalties_determined = same (λ x. answer_for_c (penalties_of x.0 x.1)) (λ _ a r s p. p)

pub simplify_determined : Determined (List ℤ × Bool × List ℤ) (Outcome ℕ (List ℤ × List ℕ)) Simplify (λ _ a. (a.0.now, a.1.0, a.1.1.0.now)) (λ _ r s. record { answer = r; out = (s.1.1.0.now, s.1.1.1.0.now) })
simplify_determined = same (λ x. answer_for_c (simplify_of x.0 x.1 x.2)) (λ _ a r s p. p)

pub simplify_radial_dist_determined : Determined (List ℤ × Float × List ℤ) (Outcome ℕ (List ℤ × List ℕ)) SimplifyRadialDist (λ _ a. (a.0.now, a.1.0, a.1.1.0.now)) (λ _ r s. record { answer = r; out = (s.1.1.0.now, s.1.1.1.0.now) })
simplify_radial_dist_determined = same (λ x. answer_for_c (radial_of x.0 x.1 x.2)) (λ _ a r s p. p)

pub simplify_douglas_peucker_determined : Determined (List ℤ × Float × List ℤ × List ℕ) (Outcome ℕ ((List ℤ × List ℕ) × List ℕ)) SimplifyDouglasPeucker (λ _ a. (a.0.now, a.1.0, a.1.1.0.now, a.1.1.1.0.now)) (λ _ r s. record { answer = r; out = ((s.1.1.0.now, s.1.1.1.0.now), s.1.1.1.1.0.now) })
simplify_douglas_peucker_determined = same (λ x. answer_for_c (douglas_peucker_of x.0 x.1 x.2 x.3)) (λ _ a r s p. p)

pub simplify_douglas_peucker_counted_determined : Determined (List ℤ × Float × List ℤ × List ℕ) (Outcome ℕ ((List ℤ × List ℕ) × List ℕ × List ℕ)) SimplifyDouglasPeuckerCounted (λ _ a. (a.0.now, a.1.0, a.1.1.0.now, a.1.1.1.0.now)) (λ _ r s. record { answer = r; out = ((s.1.1.0.now, s.1.1.1.0.now), s.1.1.1.1.0.now, s.1.1.1.1.1.0.now) })
simplify_douglas_peucker_counted_determined = same (λ x. counted_for_c (counted_douglas_peucker_of x.0 x.1 x.2 x.3)) (λ _ a r s p. p)

pub reduce_determined : Determined (List ℤ × Float × List ℤ × List ℤ × List ℕ) (Outcome ℕ ((List ℤ × List ℤ × List ℕ) × List ℕ)) Reduce (λ _ a. (a.0.now, a.1.0, a.1.1.0.now, a.1.1.1.0.now, a.1.1.1.1.0.now)) (λ _ r s. record { answer = r; out = ((s.1.1.0.now, s.1.1.1.0.now, s.1.1.1.1.0.now), s.1.1.1.1.1.0.now) })
reduce_determined = same (λ x. answer_for_c (reduce_of x.0 x.1 x.2 x.3 x.4)) (λ _ a r s p. p)

pub numbers_determined : Determined (List ℤ × List Float) (Outcome ℕ (List Float × List ℕ)) Numbers (λ _ a. (a.0.now, a.1.0.now)) (λ _ r s. record { answer = r; out = (s.1.0.now, s.1.1.0.now) })
numbers_determined = same (λ x. answer_for_c (numbered_of x.0 x.1)) (λ _ a r s p. p)

pub numbers_counted_determined : Determined (List ℤ × List Float) (Outcome ℕ (List Float × List ℕ × List ℕ)) NumbersCounted (λ _ a. (a.0.now, a.1.0.now)) (λ _ r s. record { answer = r; out = (s.1.0.now, s.1.1.0.now, s.1.1.1.0.now) })
numbers_counted_determined = same (λ x. counted_for_c (counted_numbered_of x.0 x.1)) (λ _ a r s p. p)

pub zoom_determined : Determined (List ℤ × List Float × Float × List ℤ) (Outcome ℕ (List ℤ × List ℕ)) Zoom (λ _ a. (a.0.now, a.1.0.now, a.1.1.0, a.1.1.1.0.now)) (λ _ r s. record { answer = r; out = (s.1.1.1.0.now, s.1.1.1.1.0.now) })
zoom_determined = same (λ x. answer_for_c (zoom_of x.0 x.1 x.2 x.3)) (λ _ a r s p. p)

-- The two calls on a spiral are proved by hand and have no `Post`. The one clause of each, as Rattle reads it off the source, is a fact of what is lent, at entry and
-- at exit, and the result.

abbrev pub Begins : ℕ → SpiralWalker → ℕ → SpiralWalker → Type 0
Begins size entry r exit = ◌≡◌ {A = Outcome ℕ SpiralWalker} (record { answer = r; out = exit }) (spiral_for_c (fresh_spiral size) entry)

abbrev pub Advances : SpiralWalker → List ℤ → ℕ → SpiralWalker → List ℤ → List ℕ → Type 0
Advances entry old r exit place count =
    ◌≡◌ {A = Outcome ℕ (SpiralWalker × List ℤ × List ℕ)} (record { answer = r; out = (exit, place, count) }) (advance_for_c (advanced entry) old)

module _ {M : Type 1} {𝓤 : Ura M} (𝓛 : Logic 𝓤) (mem : Memory → SProp 𝓤) (run : Routine → Fun 𝓤) (κs : _) (a : _) (r : _) (s : _) where
  pub spiral_says : (spiral.clauses 𝓛 mem run κs a).ensures tt r s ≡ fact 𝓤 (Begins a.0 a.1.0.now r s.1.0.now)
  spiral_says = refl

module _ {M : Type 1} {𝓤 : Ura M} (𝓛 : Logic 𝓤) (mem : Memory → SProp 𝓤) (run : Routine → Fun 𝓤) (κs : _) (a : _) (r : _) (s : _) where
  pub spiral_advance_says : (spiral_advance.clauses 𝓛 mem run κs a).ensures tt r s ≡
      fact 𝓤 (Advances a.0.now a.1.0.now r s.0.now s.1.0.now s.1.1.0.now)
  spiral_advance_says = refl

pub spiral_determined : Determined {K = Unit {0}} {A = λ _. ℕ × SpiralWalker} {R = λ _. ℕ} {S = λ _. SpiralWalker} (ℕ × SpiralWalker) (Outcome ℕ SpiralWalker)
    (λ _ a r s. Begins a.0 a.1 r s) (λ _ a. a) (λ _ r s. record { answer = r; out = s })
spiral_determined = same (λ x. spiral_for_c (fresh_spiral x.0) x.1) (λ _ a r s p. p)

pub spiral_advance_determined : Determined {K = Unit {0}} {A = λ _. SpiralWalker × List ℤ} {R = λ _. ℕ} {S = λ _. SpiralWalker × List ℤ × List ℕ} (SpiralWalker × List ℤ)
    (Outcome ℕ (SpiralWalker × List ℤ × List ℕ)) (λ _ a r s. Advances a.0 a.1 r s.0 s.1 s.2) (λ _ a. a) (λ _ r s. record { answer = r; out = s })
spiral_advance_determined = same (λ x. advance_for_c (advanced x.0) x.1) (λ _ a r s p. p)

-- ---- what `sandline_find_intersection` hands out says of two lines what the crossing itself says

pub outside_of_values : (i : Intersection) → outside_of (crossing_from (intersection_values i)) ≡ outside_of i
unfolding crossing_from outside_of
outside_of_values Case.Parallel = refl
outside_of_values (Case.Coincide p) = refl
outside_of_values (Case.Cross p mua mub) = refl
outside_of_values (Case.Refused r) = refl

pub inside_of_values : (i : Intersection) → inside_of (crossing_from (intersection_values i)) ≡ inside_of i
unfolding crossing_from inside_of
inside_of_values Case.Parallel = refl
inside_of_values (Case.Coincide p) = refl
inside_of_values (Case.Cross p mua mub) = refl
inside_of_values (Case.Refused r) = refl

pub coincide_of_values : (i : Intersection) → coincide_of (crossing_from (intersection_values i)) ≡ coincide_of i
unfolding crossing_from coincide_of
coincide_of_values Case.Parallel = refl
coincide_of_values (Case.Coincide p) = refl
coincide_of_values (Case.Cross p mua mub) = refl
coincide_of_values (Case.Refused r) = refl
