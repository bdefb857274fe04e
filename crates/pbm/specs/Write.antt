-- Document 02, 1/13: what `write_pbm` answers, and what the buffer lent to it then holds.
use Rattle.std.specs.Prelude.{ℕ, List, [], ◌∷◌, ◌++◌, ltb, length, Result, Ok}
use Rattle.std.proofs.Math.Option.{Option, none}
use Rattle.laws.specs.Lists.{over}
use Rattle.laws.specs.Outcome.{Outcome}
use Rattle.point.specs.Outcomes.{outcome}
use Rattle.point.specs.Refusals.{refuse◌when◌or◌}
use Rattle.point.specs.declared.refusal.Refusal.{Refusal}
use Rattle.point.specs.declared.refusal.Refusal.TheVariants.{BadSize, NoRoom}
use Rattle.chart.specs.Pixels.{cell, bad_chart}
use Rattle.chart.specs.declared.Chart.{Chart}
use Rattle.texts.specs.Text.{natural_text}
use Rattle.pbm.specs.Bytes.{chart_bytes}

-- "The written header is P4, newline, width, space, height, newline."
abbrev pub head_text : Chart → List ℕ
head_text c = 80 ∷ 52 ∷ 10 ∷ natural_text c.width ++ (32 ∷ natural_text c.height) ++ (10 ∷ [])

-- the header, and the rows with their padding cleared
unfoldable pub picture_text : Chart → List ℕ → List ℕ
unfolding chart_bytes
picture_text c pixels = head_text c ++ chart_bytes c (cell c pixels)

abbrev pub Written : Type 0
Written = Outcome (Result ℕ Refusal) (List ℕ)

-- a text at the start of a buffer, its bytes counted: "places past the answer hold theirs"
abbrev pub text_handed : List ℕ → List ℕ → Written
text_handed text out = record { answer = Ok (length text); out = over text out }

-- "10, last, when .. the writer's output is shorter than what goes into it"
abbrev pub write_refusal : Chart → List ℕ → List ℕ → Option Refusal
write_refusal c pixels out =
    refuse BadSize when bad_chart c pixels or
    refuse NoRoom when ltb (length out) (length (picture_text c pixels)) or
    none

unfoldable pub written_of : Chart → List ℕ → List ℕ → Written
unfolding picture_text outcome
written_of c pixels out = outcome (write_refusal c pixels out) out (text_handed (picture_text c pixels) out)
