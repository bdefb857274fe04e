-- Within the limits each difference fits, each product of two, and the area.
use Rattle.std.proofs.Common.{rules, ◌≡◌, Bool, true, Ok}
use Rattle.point.specs.Limits.{point_in_range}
use Rattle.point.specs.declared.PointI32.{PointI32}
use Rattle.util.specs.Area.{signed_area_of}
use Rattle.util.proofs.ByBits.{near, across, down, apart_fits, times_fits, turned_fits, area_bits, area_by_bits}
use Rattle.util.proofs.area.signed_area.Goals as goal

given : (p1 p2 p3 : PointI32) (r1 r2 r3 : Bool) → r1 ≡ point_in_range p1 → r1 ≡ true → r2 ≡ point_in_range p2 → r2 ≡ true → r3 ≡ point_in_range p3 → r3 ≡ true →
    Ok (area_bits p1 p2 p3) ≡ signed_area_of p1 p2 p3
given p1 p2 p3 r1 r2 r3 e1 g1 e2 g2 e3 g3 =
    rw (← e1, g1, ← e2, g2, ← e3, g3, area_by_bits p1 p2 p3 (near p1 r1 e1 g1) (near p2 r2 e2 g2) (near p3 r3 e3 g3))

ruleset laws = (across, down, apart_fits, times_fits, turned_fits, given, rules)

pub overflow_sub-result : goal.overflow_sub-result
overflow_sub-result c = search laws

pub overflow_sub-result-2 : goal.overflow_sub-result-2
overflow_sub-result-2 c = search laws

pub overflow_mul-result : goal.overflow_mul-result
overflow_mul-result c = search laws

pub overflow_sub-result-3 : goal.overflow_sub-result-3
overflow_sub-result-3 c = search laws

pub overflow_sub-result-4 : goal.overflow_sub-result-4
overflow_sub-result-4 c = search laws

pub overflow_mul-result-2 : goal.overflow_mul-result-2
overflow_mul-result-2 c = search laws

pub overflow_sub-result-5 : goal.overflow_sub-result-5
overflow_sub-result-5 c = search laws

pub returns : goal.returns
returns c = search laws
