-- Document 01's values of each answer: "For an answer that is an enum, a definition gives this paper's number and values for each of its
-- cases." The number of each is that of every answer of the library.
use Rattle.std.specs.Prelude.{List, [], ◌∷◌, ℤ, Result, Ok, Err}
use Rattle.point.specs.declared.refusal.Refusal.{Refusal}
use Rattle.areas.specs.declared.Areas.{Areas}

abbrev pub area_values : Result ℤ Refusal → List ℤ
area_values (Ok twice) = twice ∷ []
area_values (Err r) = []

abbrev pub measured_values : Result Areas Refusal → List ℤ
measured_values (Ok areas) = areas.whole ∷ areas.kept ∷ areas.gaps ∷ []
measured_values (Err r) = []
