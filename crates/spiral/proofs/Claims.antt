-- What follows of the contracts, and of the definition of a spiral, for their readers and their callers. Assumes nothing.
use Prim.Native.Nat.{ℕ, ◌*◌, ◌/◌, ◌≤◌}
use mathlib.Core.Bool.{Bool, true, false}
use mathlib.Core.Path.{◌≡◌, refl}
use native.Mathlib.Nat.{mul-le-mul}
use native.Mathlib.Omega.{arith}
use lib.Dec.{leb, eqb}
use lib.IntN.{pos, nat_abs, ◌-ℤ◌}
use borrow.Author.Tests.{le-leb, le-ltb}
use seplogic.Ra.Ura.{Ura}
use base.Logic.{SProp}
use contract.Monad.{Fun, fact}
use types.Logic.{Logic}
use prog.Memory.{Memory}
use prog.Routine.{Routine}
use Rattle.laws.proofs.Integers.{abs_sub_le, range_low, range_high}
use Rattle.std.specs.Prelude.{if◌then◌else◌, Option, Some, None, Result, Ok, Err}
use Rattle.laws.specs.Outcome.{Outcome}
use Rattle.laws.proofs.Determined.{Determined, same}
use Rattle.point.specs.declared.PointI32.{PointI32}
use Rattle.point.specs.declared.refusal.Refusal.{Refusal}
use Rattle.point.specs.declared.refusal.Refusal.TheVariants.{BadSize}
use Rattle.spiral.specs.Spiral.{fresh_state, fresh_spiral, sound, alone, onward, spiral_turn, advanced}
use Rattle.spiral.specs.declared.SpiralWalker.{SpiralWalker}
use Rattle.spiral.specs.declared.Step.{Step}
use Rattle.spiral.proofs.turning.spiral.Reads.{Post as Spiral}
use Rattle.spiral.proofs.turning.spiral_step.Reads.{Post as SpiralStep}
use Rattle.spiral.proofs.turning.spiral_advance.Reads.{Post as SpiralAdvance}
use Rattle.spiral.specs.contracts.turning.spiral_advance as spiral_advance

-- ---- Each contract leaves no choice: of equal arguments it allows one result. `Post` is the contract itself, as Rattle reads it off the source.

pub spiral_determined : Determined ℕ (Result SpiralWalker Refusal) Spiral (λ _ a. a.0) (λ _ r s. r)
spiral_determined = same fresh_spiral (λ _ a r s p. p)

pub spiral_step_determined : Determined SpiralWalker (Result (Option Step) Refusal) SpiralStep (λ _ a. a.0) (λ _ r s. r)
spiral_step_determined = same spiral_turn (λ _ a r s p. p)

-- The one clause of `spiral_advance`, as Rattle reads it off the source, is this fact of the state at entry, the state at exit and the answer.
abbrev pub Says : SpiralWalker → SpiralWalker → Result (Option PointI32) Refusal → Type 0
Says entry exit r = record { answer = r; out = exit } ≡ advanced entry

pub spiral_advance_says : {M : Type 1} {𝓤 : Ura M} (𝓛 : Logic 𝓤) (mem : Memory → SProp 𝓤) (run : Routine → Fun 𝓤) (κs : _) (a : _) (r : _) (s : _) →
    (spiral_advance.clauses 𝓛 mem run κs a).ensures tt r s ≡ fact 𝓤 (Says a.0.now s.0.now r)
spiral_advance_says 𝓛 mem run κs a r s = refl

pub spiral_advance_determined :
    Determined SpiralWalker (Outcome (Result (Option PointI32) Refusal) SpiralWalker) SpiralAdvance (λ _ a. a.0.now) (λ _ r s. record { answer = r; out = s.0.now })
spiral_advance_determined = same advanced (λ _ a r s p. p)

-- ---- A size up to 512 has a spiral, and its fresh state is in range: the first step is not refused.

module _ (size : ℕ) (h : size ≤ 512) where
  pub ready : fresh_spiral size ≡ Ok (fresh_state size)
  ready = rw (le-ltb _ _ h)

  middle : nat_abs (pos (size / 2) -ℤ pos 1) ≤ 512
  middle = omega (arith, abs_sub_le (pos (size / 2)) (pos 1) {m = 256} {n = 1} (omega arith) (omega arith))

  area : leb (size * size) 262144 ≡ true
  area = le-leb (size * size) 262144 (omega (arith, mul-le-mul h h))

  pub fresh_sound : sound (fresh_state size) ≡ true
  fresh_sound =
      rw (
        range_low 511 512 refl (pos (size / 2) -ℤ pos 1) middle,
        range_high 511 512 refl (pos (size / 2) -ℤ pos 1) middle,
        area,
        le-leb 0 (size * size) (omega arith),
      )

-- ---- A refusal is given exactly where a field is out of range, and it is BadSize.

pub refused_when : (s : SpiralWalker) → sound s ≡ false → spiral_turn s ≡ Err BadSize
refused_when s e = rw e

not_refused : (end one : Bool) (m n : Step) (r : Refusal) → (if end then Ok None else if one then Ok (Some m) else Ok (Some n)) ≡ Err r → ⊥
not_refused true one m n r e = cc
not_refused false true m n r e = cc
not_refused false false m n r e = cc

pub refused_only : (s : SpiralWalker) (r : Refusal) → spiral_turn s ≡ Err r → (r ≡ BadSize) × (sound s ≡ false)
refused_only s r e = go (sound s) refl
  where
    go : (t : Bool) → sound s ≡ t → (r ≡ BadSize) × (sound s ≡ false)
    go false b = let f = refused_when s b in (cc, b)
    go true b =
        absurd
        (not_refused (leb s.area s.step) (eqb s.area 1) (record { point = record { x = pos 0; y = pos 0 }; next = alone s }) (record { point = record { x = s.x; y = s.y }; next = onward s }) r (rw b at e))

-- ---- A step in the caller's struct that has no point leaves the struct as it came.

pub advance_refused : (s : SpiralWalker) (r : Refusal) → spiral_turn s ≡ Err r → (advanced s).out ≡ s
advance_refused s r e = rw e

pub advance_ended : (s : SpiralWalker) → spiral_turn s ≡ Ok None → (advanced s).out ≡ s
advance_ended s e = rw e
