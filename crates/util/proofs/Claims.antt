-- What follows of the contracts, for their readers and their callers. Assumes nothing.
use mathlib.Core.Path.{◌≡◌, refl}
use mathlib.Core.Bool.{true, false}
use lib.Ieee.{Float, nan, inf, fin, lt, eq, ne, up, down, is_nan, add, sub, of_int, of_bits}
use borrow.Author.Tests.{eq-eqb}
use Rattle.util.specs.Lengths.{middle, middle_of, length_of, norm_of, norm_of_i32}
use Rattle.util.specs.Answers.{intersection_number}
use Rattle.util.proofs.lengths.find_mid_point.Reads.{Post as FindMidPoint}
use Rattle.util.proofs.lengths.middle.Reads.{Post as Middle}
use Rattle.util.proofs.lengths.PointF64Vector.norm.Reads.{Post as Norm}
use Rattle.util.proofs.lengths.PointI32Vector.norm.Reads.{Post as NormI32}
use Rattle.util.proofs.lengths.length.Reads.{Post as Length}
use Rattle.point.specs.declared.PointF64.{PointF64}
use Rattle.util.specs.declared.ratios.Intersection.TheVariants.{Parallel, Cross}
use Rattle.util.specs.Ratios.{off, outside_of, inside_of, coincide_of}
use Rattle.util.proofs.ratios.Intersection.number.Reads.{Post as IntersectionNumber}
use Rattle.util.proofs.ratios.Intersection.outside.Reads.{Post as Outside}
use Rattle.util.proofs.ratios.Intersection.inside.Reads.{Post as Inside}
use Rattle.util.proofs.ratios.Intersection.coincide.Reads.{Post as Coincides}
use Rattle.util.specs.Crossing.{intersection_of}
use Rattle.util.proofs.crossing.find_intersection.Reads.{Post as FindIntersection}
use Rattle.point.specs.declared.PointI32.{PointI32}
use Rattle.point.specs.declared.refusal.Refusal.{Refusal}
use Rattle.std.specs.Prelude.{Result}
use Rattle.util.specs.Area.{cross_of, signed_area_of}
use Rattle.util.proofs.area.cross.Reads.{Post as Crossed}
use Rattle.util.proofs.area.signed_area.Reads.{Post as SignedArea}
use Rattle.laws.proofs.Determined.{Determined, same}
use mathlib.Core.Bool.{Bool}
use Rattle.util.specs.declared.ratios.Intersection.{Intersection}
use Prim.Native.Nat.{ℕ, ◌*◌}
use lib.IntN.{ℤ}

-- ---- Each contract leaves no choice: of equal arguments it allows one result. `Post` is the contract itself, as Rattle reads it off the source.

pub signed_area_determined : Determined (PointI32 × PointI32 × PointI32) (Result ℤ Refusal) SignedArea (λ _ a. (a.0, a.1.0, a.1.1.0)) (λ _ r s. r)
signed_area_determined = same (λ x. signed_area_of x.0 x.1 x.2) (λ _ a r s p. p)

pub cross_determined : Determined (ℤ × ℤ × ℤ × ℤ) ℤ Crossed (λ _ a. (a.0, a.1.0, a.1.1.0, a.1.1.1.0)) (λ _ r s. r)
cross_determined = same (λ x. cross_of x.0 x.1 x.2 x.3) (λ _ a r s p. p)

pub find_intersection_determined : Determined (PointF64 × PointF64 × PointF64 × PointF64) Intersection FindIntersection
    (λ _ a. (a.0, a.1.0, a.1.1.0, a.1.1.1.0))
    (λ _ r s. r)
find_intersection_determined = same (λ x. intersection_of x.0 x.1 x.2 x.3) (λ _ a r s p. p)

pub outside_determined : Determined Intersection Bool Outside (λ _ a. a.0) (λ _ r s. r)
outside_determined = same outside_of (λ _ a r s p. p)

pub inside_determined : Determined Intersection Bool Inside (λ _ a. a.0) (λ _ r s. r)
inside_determined = same inside_of (λ _ a r s p. p)

pub coincide_determined : Determined Intersection Bool Coincides (λ _ a. a.0) (λ _ r s. r)
coincide_determined = same coincide_of (λ _ a r s p. p)

pub find_mid_point_determined : Determined (PointF64 × PointF64) (Result PointF64 Refusal) FindMidPoint (λ _ a. (a.0, a.1.0)) (λ _ r s. r)
find_mid_point_determined = same (λ x. middle_of x.0 x.1) (λ _ a r s p. p)

pub middle_determined : Determined (PointF64 × PointF64) PointF64 Middle (λ _ a. (a.0, a.1.0)) (λ _ r s. r)
middle_determined = same (λ x. middle x.0 x.1) (λ _ a r s p. p)

pub norm_determined : Determined PointF64 (Result Float Refusal) Norm (λ _ a. a.0) (λ _ r s. r)
norm_determined = same norm_of (λ _ a r s p. p)

pub norm_i32_determined : Determined PointI32 (Result Float Refusal) NormI32 (λ _ a. a.0) (λ _ r s. r)
norm_i32_determined = same norm_of_i32 (λ _ a r s p. p)

pub length_determined : Determined (Float × Float) Float Length (λ _ a. (a.0, a.1.0)) (λ _ r s. r)
length_determined = same (λ x. length_of x.0 x.1) (λ _ a r s p. p)

pub intersection_number_determined : Determined Intersection ℕ IntersectionNumber (λ _ a. a.0) (λ _ r s. r)
intersection_number_determined = same intersection_number (λ _ a r s p. p)

-- ---- a ratio is a NaN where it differs from itself, which is how the Rust tests it

pub differs_from_itself : (mu : Float) → ne mu mu ≡ is_nan mu
unfolding ne eq is_nan
differs_from_itself nan = refl
differs_from_itself (inf true) = refl
differs_from_itself (inf false) = refl
differs_from_itself (fin true m e) = rw (eq-eqb (m * up e * down e) (m * up e * down e) refl)
differs_from_itself (fin false m e) = rw (eq-eqb (m * up e * down e) (m * up e * down e) refl)

-- ---- "Asked of Parallel, all three say no"

pub parallel_says_no : (outside_of Parallel ≡ false) × (inside_of Parallel ≡ false) × (coincide_of Parallel ≡ false)
unfolding outside_of inside_of coincide_of
parallel_says_no = (refl, refl, refl)

-- ---- "In Cross a NaN ratio alone never makes it outside": the other decides

pub nan_first : (p : PointF64) (mub : Float) → outside_of (Cross p nan mub) ≡ off mub
unfolding outside_of off lt add sub of_int of_bits
nan_first p mub = refl
