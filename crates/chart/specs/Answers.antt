-- Document 01's values of an answer. Its number and its count are those of every answer (specs/Refusals of `point`).
use Rattle.std.specs.Prelude.{List, [], ◌∷◌, ℤ, Result, Ok, Err}
use Rattle.point.specs.declared.PointI32.{PointI32}
use Rattle.point.specs.declared.refusal.Refusal.{Refusal}

-- the first start: x and y
abbrev pub start_values : Result PointI32 Refusal → List ℤ
start_values (Ok p) = p.x ∷ p.y ∷ []
start_values (Err r) = []
