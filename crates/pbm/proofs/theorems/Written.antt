-- What an answer of the writer says of its output, and that the text decides both. Assumes nothing.
use Prim.Native.Nat.{ℕ}
use mathlib.Core.Bool.{Bool, true, false}
use mathlib.Core.List.{List}
use mathlib.Core.Option.{none}
use mathlib.Core.Path.{◌≡◌, refl, ap}
use lib.Dec.{ltb}
use lib.ListN.{length}
use Rattle.laws.specs.Lists.{over}
use Rattle.point.specs.Outcomes.{outcome}
use Rattle.point.specs.Refusals.{refuse◌when◌or◌}
use Rattle.std.specs.Prelude.{Ok}
use Rattle.point.specs.declared.refusal.Refusal.TheVariants.{BadSize, NoRoom}
use Rattle.chart.specs.Pixels.{bad_chart}
use Rattle.chart.specs.declared.Chart.{Chart}
use Rattle.pbm.specs.Write.{picture_text, text_handed, written_of}

module _ (c : Chart) (pixels out : List ℕ) where
  pub written_done : (n : ℕ) → (written_of c pixels out).answer ≡ Ok n →
      (bad_chart c pixels ≡ false) × (n ≡ length (picture_text c pixels)) × ((written_of c pixels out).out ≡ over (picture_text c pixels) out)
  unfolding written_of
  written_done n = by_tests (bad_chart c pixels) (ltb (length out) (length (picture_text c pixels)))
    where
      by_tests : (bad short : Bool) → (outcome (refuse BadSize when bad or refuse NoRoom when short or none) out (text_handed (picture_text c pixels) out)).answer ≡ Ok n →
          (bad ≡ false) × (n ≡ length (picture_text c pixels)) ×
          ((outcome (refuse BadSize when bad or refuse NoRoom when short or none) out (text_handed (picture_text c pixels) out)).out ≡ over (picture_text c pixels) out)
      by_tests true short e = absurd cc
      by_tests false true e = absurd cc
      by_tests false false e = (refl, (cc), refl)

  -- the text decides, where both charts are good
  pub written_same : (pixels' : List ℕ) → bad_chart c pixels ≡ false → bad_chart c pixels' ≡ false → picture_text c pixels ≡ picture_text c pixels' →
      written_of c pixels out ≡ written_of c pixels' out
  unfolding written_of
  written_same pixels' fine fine' text =
      rw (fine, fine') (ap (λ (t : List ℕ). outcome (refuse NoRoom when ltb (length out) (length t) or none) out (text_handed t out)) text)
