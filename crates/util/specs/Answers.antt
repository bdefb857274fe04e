-- Document 01's number and values of each answer: "For an answer that is an enum, a definition gives this paper's number and values for
-- each of its cases." The number of an answer that is a `Result` is `number_of` of point's Refusals.
use Rattle.std.specs.Prelude.{ℕ, List, [], ◌∷◌, Float, ℤ, Result, Ok, Err}
use Rattle.point.specs.Refusals.{refusal_number}
use Rattle.point.specs.declared.PointF64.{PointF64}
use Rattle.point.specs.declared.refusal.Refusal.{Refusal}
use Rattle.util.specs.declared.ratios.Intersection.{Intersection}

-- the values that each case carries, and document 01's number of a crossing
abbrev pub mid_point_values : Result PointF64 Refusal → List Float
mid_point_values (Ok p) = p.x ∷ p.y ∷ []
mid_point_values (Err r) = []

abbrev pub measure_values : Result Float Refusal → List Float
measure_values (Ok v) = v ∷ []
measure_values (Err r) = []

abbrev pub intersection_number : Intersection → ℕ
intersection_number Intersection.Parallel = 0
intersection_number (Intersection.Coincide p) = 0
intersection_number (Intersection.Cross p mua mub) = 0
intersection_number (Intersection.Refused r) = refusal_number r

abbrev pub intersection_values : Intersection → List Float
intersection_values Intersection.Parallel = []
intersection_values (Intersection.Coincide p) = p.x ∷ p.y ∷ []
intersection_values (Intersection.Cross p mua mub) = p.x ∷ p.y ∷ mua ∷ mub ∷ []
intersection_values (Intersection.Refused r) = []

abbrev pub signed_values : Result ℤ Refusal → List ℤ
signed_values (Ok v) = v ∷ []
signed_values (Err r) = []
