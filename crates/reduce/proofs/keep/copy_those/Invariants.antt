use Rattle.std.proofs.Common.{ℕ, ◌+◌, ◌-◌, ◌≤◌, max, List}
use Rattle.point.specs.declared.PointI32.{PointI32}
use Rattle.point.specs.inside.Written.{Left}
use Rattle.reduce.specs.inside.Place.{Picks}
use Rattle.reduce.proofs.keep.copy_those.Given as goal

abbrev pub invariant-loop-k : goal.invariant-loop-k
invariant-loop-k g l = record {
  there : l.k ≤ max l.from l.to;
  few : l.kept ≤ l.initial.kept + (l.k - l.from);
  copied : (rest : ℕ → List PointI32) → Picks (goal.F-post g l.keeps) l.points l.from l.to rest →
      Left (rest 0) l.fn.out l.initial.kept (rest l.from) l.fn.out → Left (rest 0) l.fn.out l.kept (rest l.k) l.out;
}
