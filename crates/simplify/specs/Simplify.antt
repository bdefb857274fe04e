-- The Rust's simplify: the two passes one after the other, staircases first (paths.rs).
use Rattle.std.specs.Prelude.{Bool, List, ℤ}
use Rattle.point.specs.Points.{points}
use Rattle.point.specs.Outcomes.{Points, passed}
use Rattle.simplify.specs.Staircase.{remove_staircase}
use Rattle.simplify.specs.Penalties.{limit_penalties}

-- what `simplify` answers to a list and a buffer, and what the buffer then holds
unfoldable pub simplify_of : List ℤ → Bool → List ℤ → Points
unfolding passed limit_penalties remove_staircase points
simplify_of list clockwise out = passed list (limit_penalties (remove_staircase clockwise (points list))) out
