-- Document 01's values of an answer, as C is handed them: x and y of the point, where there is one.
use Rattle.std.specs.Prelude.{List, [], ◌∷◌, ℤ, Option, Some, None, Result, Ok, Err}
use Rattle.point.specs.declared.PointI32.{PointI32}
use Rattle.point.specs.declared.refusal.Refusal.{Refusal}

-- of a step of the caller's own struct: a refusal has no values
abbrev pub advanced_values : Result (Option PointI32) Refusal → List ℤ
advanced_values (Ok (Some p)) = p.x ∷ p.y ∷ []
advanced_values (Ok None) = []
advanced_values (Err r) = []
