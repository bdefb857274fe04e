-- What the two calls leave in the buffer lent to them: "places past the answer hold theirs".
use Rattle.std.specs.Prelude.{ℕ, ◌||◌, List, ltb, eqb, ℤ, Float, length, if◌then◌else◌}
use Rattle.laws.specs.Lists.{over}
use Rattle.point.specs.Points.{count}
use Rattle.split.specs.Tree.{marks_of, numbers_of}

-- an answer laid over the start of a buffer, where the list has a point and the buffer room for each
abbrev pub laid : {A : Type 0} → List ℤ → List A → List A → List A
laid points new old = if eqb (count points) 0 || ltb (length old) (count points) then old else over new old

unfoldable pub laid_marks : List ℤ → Float → List ℕ → List ℕ
unfolding marks_of over
laid_marks points tolerance marks = laid points (marks_of tolerance points) marks

unfoldable pub laid_numbers : List ℤ → List Float → List Float
unfolding numbers_of over
laid_numbers points out = laid points (numbers_of points) out
