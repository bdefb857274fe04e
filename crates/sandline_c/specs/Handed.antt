-- How an answer of the library reaches a caller in C: as document 01's number, with what all that was lent then holds, in the order in which it is lent.
use Rattle.std.specs.Prelude.{ℕ, ◌/◌, Bool, List, [], ◌∷◌, Float, ℤ, length, Option, Result, Ok, Err}
use Rattle.laws.specs.Lists.{over}
use Rattle.laws.specs.Outcome.{Outcome}
use Rattle.point.specs.Refusals.{number_of, count_of}
use Rattle.point.specs.declared.PointF64.{PointF64}
use Rattle.point.specs.declared.PointI32.{PointI32}
use Rattle.point.specs.declared.refusal.Refusal.{Refusal}
use Rattle.chart.specs.Answers.{start_values}
use Rattle.pbm.specs.declared.Picture.{Picture}
use Rattle.reduce.specs.Answers.{counted_count, distances_of}
use Rattle.reduce.specs.declared.Counted.{Counted}
use Rattle.smooth.specs.Answers.{subdivided_count}
use Rattle.smooth.specs.declared.Subdivided.{Subdivided}
use Rattle.spiral.specs.Answers.{advanced_values}
use Rattle.spiral.specs.declared.SpiralWalker.{SpiralWalker}
use Rattle.util.specs.Answers.{intersection_number, intersection_values, mid_point_values, measure_values, signed_values}
use Rattle.util.specs.declared.ratios.Intersection.{Intersection}

-- ---- a call that answers how many places it filled: its buffers, and the count behind them. "A refusal has count 0": it is told whatever the answer is

abbrev pub answer_for_c : {B : Type 0} → Outcome (Result ℕ Refusal) B → Outcome ℕ (B × List ℕ)
answer_for_c o = record { answer = number_of o.answer; out = (o.out, count_of o.answer ∷ []) }

-- the same with the distances that were computed behind the count: of a refusal 0 too
abbrev pub counted_for_c : {B : Type 0} → Outcome (Result Counted Refusal) B → Outcome ℕ (B × List ℕ × List ℕ)
counted_for_c o = record { answer = number_of o.answer; out = (o.out, counted_count o.answer ∷ [], distances_of o.answer ∷ []) }

-- ---- a chart that was read: its pixels, its sizes, and the bytes that its image took

abbrev pub taken : Result Picture Refusal → ℕ
taken (Ok picture) = picture.bytes
taken (Err r) = 0

-- where nothing was read each size is what it was
abbrev pub width_or : Result Picture Refusal → List ℕ → List ℕ
width_or (Ok picture) old = picture.chart.width ∷ []
width_or (Err r) old = old

abbrev pub height_or : Result Picture Refusal → List ℕ → List ℕ
height_or (Ok picture) old = picture.chart.height ∷ []
height_or (Err r) old = old

abbrev pub picture_for_c : Outcome (Result Picture Refusal) (List ℕ) → List ℕ → List ℕ → Outcome ℕ (List ℕ × List ℕ × List ℕ × List ℕ)
picture_for_c o width height = record {
  answer = number_of o.answer;
  out = (o.out, width_or o.answer width, height_or o.answer height, taken o.answer ∷ []);
}

-- ---- a round of subdivision: its points and flags, how many points they are, and whether it is finished, told where it was made

abbrev pub finished_or : Result Subdivided Refusal → List Bool → List Bool
finished_or (Ok round) old = round.finished ∷ []
finished_or (Err r) old = old

abbrev pub round_for_c : Outcome (Result Subdivided Refusal) (List Float × List ℕ) → List Bool → Outcome ℕ (List Float × List ℕ × List ℕ × List Bool)
round_for_c o finished = record {
  answer = number_of o.answer;
  out = (o.out.0, o.out.1, subdivided_count o.answer ∷ [], finished_or o.answer finished);
}

-- ---- values in a small array

-- those of an answer fill it; where it has none the array holds what it held
abbrev pub into : {A : Type 0} → List A → List A → List A
into [] old = old
into (v ∷ vs) old = v ∷ vs

abbrev pub start_for_c : Result PointI32 Refusal → List ℤ → Outcome ℕ (List ℤ)
start_for_c a old = record { answer = number_of a; out = into (start_values a) old }

-- a count is told whatever the answer is
abbrev pub area_for_c : Result ℕ Refusal → Outcome ℕ (List ℕ)
area_for_c a = record { answer = number_of a; out = count_of a ∷ [] }

abbrev pub signed_area_for_c : Result ℤ Refusal → List ℤ → Outcome ℕ (List ℤ)
signed_area_for_c a old = record { answer = number_of a; out = into (signed_values a) old }

abbrev pub mid_point_for_c : Result PointF64 Refusal → List Float → Outcome ℕ (List Float)
mid_point_for_c a old = record { answer = number_of a; out = into (mid_point_values a) old }

abbrev pub length_for_c : Result Float Refusal → List Float → Outcome ℕ (List Float)
length_for_c a old = record { answer = number_of a; out = into (measure_values a) old }

-- the values of a crossing over the start of the array, and how many they are
unfoldable pub crossing_for_c : Intersection → List Float → Outcome ℕ (List Float × List ℕ)
unfolding over
crossing_for_c a old = record { answer = intersection_number a; out = (over (intersection_values a) old, length (intersection_values a) ∷ []) }

-- ---- a spiral, in the caller's own struct

-- a fresh one; where it is refused the struct holds what it held
abbrev pub fresh_or : Result SpiralWalker Refusal → SpiralWalker → SpiralWalker
fresh_or (Ok s) old = s
fresh_or (Err r) old = old

abbrev pub spiral_for_c : Result SpiralWalker Refusal → SpiralWalker → Outcome ℕ SpiralWalker
spiral_for_c a old = record { answer = number_of a; out = fresh_or a old }

-- a step: the point, and a count of points, 1 or 0
abbrev pub step_for_c : Result (Option PointI32) Refusal → List ℤ → Outcome ℕ (List ℤ × List ℕ)
step_for_c a old = record { answer = number_of a; out = (into (advanced_values a) old, length (advanced_values a) / 2 ∷ []) }

-- the same behind what the step leaves in the struct
abbrev pub advance_for_c : Outcome (Result (Option PointI32) Refusal) SpiralWalker → List ℤ → Outcome ℕ (SpiralWalker × List ℤ × List ℕ)
advance_for_c o old =
    let step = step_for_c o.answer old in
    record { answer = step.answer; out = (o.out, step.out.0, step.out.1) }
