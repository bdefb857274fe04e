-- How long the lines of an answer are, and lines put one behind the other. Assumes nothing.
use Prim.Native.Nat.{ℕ, ◌+◌, ◌*◌, ◌≤◌}
use mathlib.Core.Bool.{true}
use mathlib.Core.List.{List, [], ◌∷◌}
use mathlib.Core.Path.{◌≡◌, refl, ap, ◌∙◌}
use native.Mathlib.Omega.{arith}
use lib.IntN.{ℤ}
use lib.ListN.{length, take, replicate, length-append, length-replicate}
use mir.Syntax.{w64}
use mir.Val.{Fits}
use Rattle.std.specs.Prelude.{Result, Ok, Err}
use Rattle.std.specs.Result.{result_unwrap_or}
use Rattle.point.specs.Outcomes.{Points}
use Rattle.point.specs.Refusals.{number_of, count_of, refusal_number}
use Rattle.point.specs.declared.PointI32.{PointI32}
use Rattle.point.specs.declared.refusal.Refusal.{Refusal}
use Rattle.chart.specs.Start.{first_start}
use Rattle.chart.specs.declared.Chart.{Chart}
use Rattle.simplify.specs.Simplify.{simplify_of}
use Rattle.reduce.specs.Numbers.{numbered_of}
use Rattle.texts.specs.Put.{Placed, put}
use Rattle.texts.proofs.Pieces.{put_then, second_fits}
use Rattle.lines.specs.Turns.{line}
use Rattle.frames.specs.Replies.{points_text, counted_text}
use Rattle.frames.specs.Room.{room, number_room}
use Rattle.frames.proofs.Parts.{part_length, points_short}
use Rattle.frames.proofs.Sizes.{length_points}
use Rattle.frames.specs.Calls.{walk_reply, simplify_reply, numbers_reply}
use Rattle.frames.proofs.Room.{walk_counts}
use Rattle.frames.proofs.Claims.{simplified_short, numbered_short}
use Rattle.pbm.specs.Read.{read_of}
use Rattle.pbm.specs.declared.Picture.{Picture}
use Rattle.survey.specs.Survey.{outline_from, outline_of, kept, two_lines, three_lines, refused_line, text_of, chart_room, survey_text}

-- ---- lengths

-- an answer and its newline
pub line_short : (text : List ℕ) → length text ≤ 32768 → length (line text) ≤ 32769
line_short text h = omega (arith, length-append text (10 ∷ []))

pub few_points_short : (kind n : ℕ) (values : List ℤ) → length values ≤ 8190 → length (points_text kind n values) ≤ 32768
few_points_short kind n values h = omega (arith, length_points kind n values)

-- what an outline counts fits the buffer that it was lent
pub outline_counts : (c : Chart) (pixels : List ℕ) → count_of (outline_of c pixels room).answer * 2 ≤ 8190
outline_counts c pixels = by (first_start c pixels)
  where
    by : (s : Result PointI32 Refusal) → count_of (outline_from s c pixels room).answer * 2 ≤ 8190
    by (Ok p) = walk_counts c pixels p true
    by (Err r) = omega arith

pub outline_line_short : (c : Chart) (pixels : List ℕ) → length (line (walk_reply (outline_of c pixels room))) ≤ 32769
outline_line_short c pixels =
    let o = outline_of c pixels room in
    line_short (walk_reply o) (points_short 1 (number_of o.answer) (count_of o.answer * 2) o.out (outline_counts c pixels))

pub two_short : (points : List ℤ) → length (two_lines points) ≤ 65538
unfolding two_lines
two_short points =
    let o = simplify_of points true room in
    let first = simplify_reply o in
    let second = numbers_reply (numbered_of (kept o) number_room) in
    omega (
      arith,
      length-append (line first) (line second),
      line_short first (simplified_short points true),
      line_short second (numbered_short (kept o)),
    )

pub three_short : (c : Chart) (pixels : List ℕ) → length (three_lines c pixels) ≤ 98307
unfolding three_lines
three_short c pixels =
    let o = outline_of c pixels room in
    omega (arith, length-append (line (walk_reply o)) (two_lines (kept o)), outline_line_short c pixels, two_short (kept o))

pub refused_short : (n : ℕ) → length (refused_line n) ≤ 98307
refused_short n = omega (arith, line_short (points_text 0 n []) (few_points_short 0 n [] (omega arith)))

-- the answer to any file fits the output
pub survey_short : (file : List ℕ) → length (survey_text file) ≤ 98307
unfolding survey_text
survey_short file = by (read_of file chart_room).answer
  where
    by : (p : Result Picture Refusal) → length (text_of p (read_of file chart_room).out) ≤ 98307
    by (Ok picture) = three_short picture.chart (read_of file chart_room).out
    by (Err r) = refused_short (refusal_number r)

-- ---- what is put

-- a text and a newline are a line
pub line_put : (text out mid last : List ℕ) (at m r : ℕ) → record { answer = m; out = mid } ≡ put text out at →
    record { answer = r; out = last } ≡ put (10 ∷ []) mid m → length text ≤ 32768 → at + 32769 ≤ length out →
    record { answer = r; out = last } ≡ put (line text) out at
line_put text out mid last at m r e f short h =
    put_then text (10 ∷ []) out mid last at m r (omega (arith, length-append text (10 ∷ []))) e f

-- ---- the points that a call hands on, as the code takes them

module _ (a : Result ℕ Refusal) (values : List ℤ) (o : Points) (k : ℕ) (is : record { answer = a; out = values } ≡ o) (count : k ≡ result_unwrap_or a 0)
    (few : count_of o.answer * 2 ≤ 8190) where
  count_is : k ≡ count_of o.answer
  count_is = count ∙ by a ∙ ap (λ (q : Points). count_of q.answer) is
    where
      by : (b : Result ℕ Refusal) → result_unwrap_or b 0 ≡ count_of b
      by (Ok n) = refl
      by (Err r) = refl

  at_most : k * 2 ≤ 8190
  at_most = rw count_is few

  pub part_fits : Fits w64 (k * 2)
  part_fits = record { fits = omega (arith, at_most) }

  pub part_within : length values ≡ 8190 → k * 2 ≤ length values
  part_within size = omega (arith, at_most)

  pub part_is : length values ≡ 8190 → k * 2 ≡ length (take (k * 2) values)
  part_is size = part_length (k * 2) values (part_within size)

  pub kept_is : take (k * 2) values ≡ kept o
  kept_is = ap (λ (j : ℕ). take (j * 2) values) count_is ∙ ap (λ (q : Points). take (count_of o.answer * 2) q.out) is

  -- their line
  module _ (kind n m : ℕ) (number : n ≡ number_of a) (out mid : List ℕ) (at : ℕ)
      (e : record { answer = m; out = mid } ≡ put (line (points_text kind n (take (k * 2) values))) out at) where
    pub first_put : record { answer = m; out = mid } ≡ put (line (counted_text kind (number_of o.answer) (count_of o.answer) o.out)) out at
    first_put =
        e
        ∙ ap (λ (j : ℕ). put (line (points_text kind j (take (k * 2) values))) out at) (number ∙ ap (λ (q : Points). number_of q.answer) is)
        ∙ ap (λ (vs : List ℤ). put (line (points_text kind (number_of o.answer) vs)) out at) kept_is

    -- behind it there is room for so many bytes more
    pub rest_fits : (more : ℕ) → at + (more + 32769) ≤ length out → m + more ≤ length mid
    rest_fits more h =
        let text = line (counted_text kind (number_of o.answer) (count_of o.answer) o.out) in
        let short : length text ≤ 32769 = line_short _ (points_short kind (number_of o.answer) (count_of o.answer * 2) o.out few) in
        let rest : List ℕ = replicate more 0 in
        let long : length rest ≡ more = length-replicate more 0 in
        omega (
          arith,
          long,
          second_fits text rest out at (omega (arith, short, long, length-append text rest)),
          ap (λ (p : Placed). p.answer) first_put,
          ap (λ (p : Placed). length p.out) first_put,
        )
