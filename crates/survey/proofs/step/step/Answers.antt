-- The answer to what came, or nothing put. Assumes nothing.
use Rattle.std.proofs.Common.{rules, ◌≡◌, refl, sym, ap, ◌∙◌, ℕ, ◌+◌, ◌≤◌, Bool, true, false, not, ◌&&◌, List, length, arith}
use Rattle.std.specs.Prelude.{Result, Ok, Err}
use Rattle.laws.specs.Lists.{over}
use Rattle.point.specs.Refusals.{refusal_number}
use Rattle.point.specs.declared.refusal.Refusal.{Refusal}
use Rattle.texts.specs.Put.{Placed, put}
use Rattle.texts.proofs.Pieces.{put_fits}
use Rattle.pbm.specs.Read.{Reading, read_of}
use Rattle.pbm.specs.declared.Picture.{Picture}
use Rattle.survey.specs.Survey.{three_lines, refused_line, text_of, chart_room, survey_text, is_read, whole, step_of}
use Rattle.survey.specs.declared.step.Turn.TheVariants.{Read, Write}
use Rattle.survey.proofs.Lines.{survey_short}
use Rattle.survey.proofs.step.step.Goals as goal

-- a text put at the start stands over what was there
put_over : (text out : List ℕ) → length text ≤ length out → put text out 0 ≡ record { answer = length text; out = over text out }
unfolding over
put_over text out h =
    let z : 0 + length text ≡ length text = omega arith in
    rw (put_fits text out 0 (omega arith), z)

nothing_waits : (more : Bool) → more && false ≡ false
nothing_waits true = refl
nothing_waits false = refl

module _ (file : List ℕ) (more : Bool) (output : List ℕ) (p : Result Picture Refusal) (pixels : List ℕ) (is : record { answer = p; out = pixels } ≡ read_of file chart_room) where
  whole_is : (q : Result Picture Refusal) → p ≡ q → whole file ≡ is_read q
  unfolding whole
  whole_is q e = sym (ap (λ (o : Reading). is_read o.answer) is) ∙ ap is_read e

  text_is : (q : Result Picture Refusal) → p ≡ q → text_of q pixels ≡ survey_text file
  unfolding survey_text
  text_is q e = ap (λ (k : Result Picture Refusal). text_of k pixels) (sym e) ∙ ap (λ (o : Reading). text_of o.answer o.out) is

  answered : (q : Result Picture Refusal) (r : ℕ) (last : List ℕ) → p ≡ q → more && not (is_read q) ≡ false → 98307 ≤ length output →
      record { answer = r; out = last } ≡ put (text_of q pixels) output 0 → record { answer = Write r; out = last } ≡ step_of file more output
  unfolding step_of
  answered q r last e ends h put_there =
      let short = survey_short file in
      let there : ◌≡◌ {A = Placed} (record { answer = r; out = last }) (record { answer = length (survey_text file); out = over (survey_text file) output }) =
      put_there ∙ ap (λ (t : List ℕ). put t output 0) (text_is q e) ∙ put_over (survey_text file) output (omega arith) in
      rw (whole_is q e, ends) (ap (λ (o : Placed). record { answer = Write o.answer; out = o.out }) there)

  read : (picture : Picture) (r : ℕ) (last : List ℕ) → p ≡ Ok picture → 98307 ≤ length output →
      record { answer = r; out = last } ≡ put (three_lines picture.chart pixels) output 0 → record { answer = Write r; out = last } ≡ step_of file more output
  read picture r last e h put_there = answered (Ok picture) r last e (nothing_waits more) h put_there

  waits : (r : Refusal) → p ≡ Err r → more ≡ true → record { answer = Read; out = output } ≡ step_of file more output
  unfolding step_of
  waits r e m = rw (whole_is (Err r) e, m)

  refused : (r : Refusal) (n : ℕ) (last : List ℕ) → p ≡ Err r → more ≡ false → 98307 ≤ length output →
      record { answer = n; out = last } ≡ put (refused_line (refusal_number r)) output 0 → record { answer = Write n; out = last } ≡ step_of file more output
  refused r n last e m h put_there = answered (Err r) n last e (rw m) h put_there

pub returns-then-more : goal.returns-then-more
returns-then-more c = waits _ _ _ _ _ c.read_pbm.ensures _ c.in-Err.is c.if-more.true

pub returns-in-Ok : goal.returns-in-Ok
returns-in-Ok c = read _ _ _ _ _ c.read_pbm.ensures _ _ _ c.in-Ok.is c.requires c.put_lines.ensures

pub returns-else-more : goal.returns-else-more
returns-else-more c = refused _ _ _ _ _ c.read_pbm.ensures _ _ _ c.in-Err.is c.if-more.false c.requires c.put_refusal.ensures
