-- `survey` lends on what the step asks for, and each read brings bytes or is the last. Assumes nothing.
use Rattle.std.proofs.Common.{rules, arith, ◌≡◌, ℕ, ◌+◌, ◌-◌, ◌≤◌, ◌<◌, Bool, true, false, not, ◌&&◌, List, length, refl, sym, ap, subst, ◌∙◌}
use Rattle.std.specs.Prelude.{Option, Some}
use Rattle.laws.proofs.If.{if_cases}
use Rattle.chart.specs.Pixels.{one}
use Rattle.survey.specs.Survey.{whole, Step, step_of}
use Rattle.survey.specs.inside.Reading.{Nearer}
use Rattle.survey.specs.declared.Got.{Got}
use Rattle.survey.specs.declared.step.Turn.{Turn}
use Rattle.survey.specs.declared.step.Turn.TheVariants.{Read, Write}
use Rattle.survey.proofs.Lines.{survey_short}
use Rattle.survey.proofs.survey.Goals as goal

-- what a step asks for: it reads on only where more may come, and what it writes fits any output
abbrev Asks : Bool → Turn → Type 0
Asks more Read = more ≡ true
Asks more (Write bytes) = bytes ≤ 98307

first_holds : (a b : Bool) → a && b ≡ true → a ≡ true
first_holds true b e = refl
first_holds false b e = e

module _ (file : List ℕ) (more : Bool) (output last : List ℕ) (t : Turn) (e : record { answer = t; out = last } ≡ step_of file more output) where
  asks : Asks more (step_of file more output).answer
  unfolding step_of
  asks = if_cases (λ (s : Step). Asks more s.answer) (more && not (whole file)) _ _ (λ h. first_holds more (not (whole file)) h) (λ h. survey_short file)

  of_turn : (u : Turn) → t ≡ u → Asks more u
  of_turn u k = subst (Asks more) (sym (ap (λ (s : Step). s.answer) e) ∙ k) asks

  reads_on : t ≡ Read → more ≡ true
  reads_on k = of_turn Read k

  write_fits : (first : List ℕ) (bytes : ℕ) → t ≡ Write bytes → 98307 ≤ length first → length output ≡ length first → length last ≡ length output → bytes ≤ length last
  write_fits first bytes k h same kept = omega (arith, of_turn (Write bytes) k)

-- a read that brought something, or was the last
module _ (o : Option Got) (g : Got) (held : ℕ) (first input : List ℕ) (h : Nearer o held (length input)) (e : o ≡ Some g) (same : length input ≡ length first) where
  nearer : Nearer (Some g) held (length input)
  nearer = subst (λ (k : Option Got). Nearer k held (length input)) e h

  held_fits : g.held ≤ length first
  held_fits = omega (arith, nearer.0)

  less : (more : Bool) → more ≡ true → length first - g.held + one g.more < length first - held + one more
  less more m = rw (m, ← same) nearer.1

pub loop-input-smaller : goal.loop-input-smaller
loop-input-smaller c = search (less, reads_on)

pub loop-input-preserved : goal.loop-input-preserved
loop-input-preserved c = (search rules, search rules, search held_fits)

pub slice_bounds-write-end : goal.slice_bounds-write-end
slice_bounds-write-end c = search write_fits
