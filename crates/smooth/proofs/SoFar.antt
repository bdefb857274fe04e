-- A round that has come to position i: what is written is the round of the first i points. It begins with none, a turn takes it one point on,
-- and at the end the whole round is written. Assumes nothing.
use Prim.Native.Nat.{ℕ, suc, ◌+◌, ◌*◌, ◌/◌, ◌<◌, ◌≤◌}
use mathlib.Core.Bool.{Bool, true, false, ◌&&◌}
use mathlib.Core.List.{List, [], ◌∷◌, ◌++◌, append-nil}
use mathlib.Core.Path.{◌≡◌, refl, sym, ap, ap₂, ◌∙◌}
use native.Mathlib.Numerals.{add-one}
use native.Mathlib.Omega.{arith}
use lib.Ieee.{Float}
use lib.ListN.{length, set, length-append}
use Rattle.std.specs.Prelude.{Ok}
use Rattle.laws.specs.Lists.{over}
use Rattle.laws.proofs.Lists.{over_nil}
use Rattle.point.specs.declared.PointF64.{PointF64}
use Rattle.smooth.specs.declared.scheme.Settings.{Settings}
use Rattle.smooth.specs.declared.subdivide.Step.{Step}
use Rattle.point.specs.Points.{count, seen}
use Rattle.smooth.specs.Places.{place_at, flat_f64}
use Rattle.smooth.specs.Round.{Made, made_from, round_of, closing}
use Rattle.smooth.specs.Calls.{rounded}
use Rattle.smooth.specs.inside.Parts.{room_for, turn_points, turn_flags, turn_settled, put_points, put_flags, Turned}
use Rattle.smooth.proofs.Turns.{turn_fits, more_points, more_flags, more_finished, flag_each, twice_at_most, flag_for_each}
use Rattle.smooth.proofs.Buffers.{points_behind, flags_behind}

pub record SoFar (list : List Float) (corners : List ℕ) (settings : Settings) (closed : Bool) (m : ℕ) (out₀ : List Float) (flags₀ : List ℕ)
    (i k : ℕ) (finished : Bool) (out : List Float) (flags : List ℕ) : Type 0 where
  pub counted : k ≡ length (made_from list corners settings closed m 0 i).points
  pub points : out ≡ over (flat_f64 (made_from list corners settings closed m 0 i).points) out₀
  pub flagged : flags ≡ over (made_from list corners settings closed m 0 i).flags flags₀
  pub judged : finished ≡ (made_from list corners settings closed m 0 i).finished

module _ (list : List Float) (corners : List ℕ) (settings : Settings) (closed : Bool) (m : ℕ) (out₀ : List Float) (flags₀ : List ℕ) where
  pub begun : SoFar list corners settings closed m out₀ flags₀ 0 0 true out₀ flags₀
  unfolding made_from flat_f64
  begun = record { counted = refl; points = sym (over_nil out₀); flagged = sym (over_nil flags₀); judged = refl }

  module _ (i k : ℕ) (finished : Bool) (out : List Float) (flags : List ℕ) (so : SoFar list corners settings closed m out₀ flags₀ i k finished out flags) where
    abbrev made : Made
    made = made_from list corners settings closed m 0 i

    pub few : k ≤ i * 2
    few = omega (arith, so.counted, twice_at_most list corners settings closed m 0 i)

    module _ (h : i < m) (room : room_for closed m ≤ length out₀ / 2) (flag-room : room_for closed m ≤ length flags₀)
        (step : Step) (out' : List Float) (flags' : List ℕ) (t : Turned list corners settings closed m i k out flags step out' flags') where
      abbrev new : List PointF64
      new = turn_points list corners settings closed m i

      abbrev new_flags : List ℕ
      new_flags = turn_flags list corners settings closed m i

      points_fit : (k + length new) * 2 ≤ length out₀
      points_fit = omega (arith, turn_fits list corners settings m i k (length out₀ / 2) h few closed room)

      flags_fit : k + length new_flags ≤ length flags₀
      flags_fit = omega (arith, turn_fits list corners settings m i k (length flags₀) h few closed flag-room, flag_each list corners settings closed m i)

      pub turned : SoFar list corners settings closed m out₀ flags₀ (i + 1) step.k (finished && step.settled) out' flags'
      turned =
          let i-is : suc i ≡ i + 1 = sym (add-one i) in
          let at : i ≡ 0 + i = omega arith in
          let p : made.points ++ new ≡ (made_from list corners settings closed m 0 (i + 1)).points
          = ap (λ (n : ℕ). made.points ++ turn_points list corners settings closed m n) at
          ∙ sym (more_points list corners settings closed m 0 i)
          ∙ ap (λ (n : ℕ). (made_from list corners settings closed m 0 n).points) i-is in
          let f : made.flags ++ new_flags ≡ (made_from list corners settings closed m 0 (i + 1)).flags
          = ap (λ (n : ℕ). made.flags ++ turn_flags list corners settings closed m n) at
          ∙ sym (more_flags list corners settings closed m 0 i)
          ∙ ap (λ (n : ℕ). (made_from list corners settings closed m 0 n).flags) i-is in
          let g : (made.finished && turn_settled list corners settings closed m i) ≡ (made_from list corners settings closed m 0 (i + 1)).finished
          = ap (λ (n : ℕ). made.finished && turn_settled list corners settings closed m n) at
          ∙ sym (more_finished list corners settings closed m 0 i)
          ∙ ap (λ (n : ℕ). (made_from list corners settings closed m 0 n).finished) i-is in
          let flags-count : length made.flags ≡ k = flag_for_each list corners settings closed m 0 i ∙ sym so.counted in
          record {
            counted = t.counted ∙ ap (λ (n : ℕ). n + length new) so.counted ∙ sym (length-append made.points new) ∙ ap length p;
            points = t.points ∙ ap (put_points k new) so.points ∙ points_behind made.points new k out₀ (sym so.counted) points_fit
                ∙ ap (λ (l : List PointF64). over (flat_f64 l) out₀) p;
            flagged = t.flagged ∙ ap (λ (l : List ℕ). put_flags k new_flags l) so.flagged
                ∙ flags_behind made.flags new_flags k flags₀ flags-count flags_fit
                ∙ ap (λ (l : List ℕ). over l flags₀) f;
            judged = ap₂ (λ (a b : Bool). a && b) so.judged t.judged ∙ g;
          }

    -- the end
    module _ (below : i ≤ m) (over-m : m ≤ i) (is_seen : m ≡ seen (count list) closed) where
      whole : made ≡ round_of list corners settings closed
      unfolding round_of
      whole =
          let e : i ≡ m = omega arith in
          ap (made_from list corners settings closed m 0) e ∙ ap (λ (n : ℕ). made_from list corners settings closed n 0 n) is_seen

      written : (end : List PointF64) (n : ℕ) (out' : List Float) → n ≡ length (made.points ++ end) → out' ≡ over (flat_f64 (made.points ++ end)) out₀ →
          record { answer = Ok (record { points = n; finished = finished }); out = (out', flags) } ≡ rounded made end out₀ flags₀
      written end n out' e f = rw (e, f, so.flagged, so.judged)

      ends_with : (end : List PointF64) → end ≡ closing list closed → rounded made end out₀ flags₀ ≡ rounded (round_of list corners settings closed) (closing list closed) out₀ flags₀
      ends_with end e = ap₂ (λ (l : Made) (end : List PointF64). rounded l end out₀ flags₀) whole e

      pub ended : closed ≡ false →
          record { answer = Ok (record { points = k; finished = finished }); out = (out, flags) } ≡ rounded (round_of list corners settings closed) (closing list closed) out₀ flags₀
      ended c =
          let p : made.points ≡ made.points ++ [] = sym (append-nil made.points) in
          let e : [] ≡ closing list closed = rw c in
          written [] k out (so.counted ∙ ap length p) (so.points ∙ ap (λ (l : List PointF64). over (flat_f64 l) out₀) p) ∙ ends_with [] e

      module _ (c : closed ≡ true) (room : room_for closed m ≤ length out₀ / 2) where
        enough : m * 2 + 1 ≤ length out₀ / 2
        enough = rw c at room

        pub last_fits : length out ≡ length out₀ → k < length out / 2
        last_fits e = omega (arith, enough, few)

        pub closed_again : (p : PointF64) → p ≡ place_at list 0 → (out' : List Float) → out' ≡ set (set out (k * 2) p.x) (k * 2 + 1) p.y →
            record { answer = Ok (record { points = k + 1; finished = finished }); out = (out', flags) } ≡ rounded (round_of list corners settings closed) (closing list closed) out₀ flags₀
        unfolding put_points
        closed_again p e out' f =
            let end : p ∷ [] ≡ closing list closed = rw (c, e) in
            let n : k + 1 ≡ length (made.points ++ (p ∷ [])) = ap (λ (n : ℕ). n + 1) so.counted ∙ sym (length-append made.points (p ∷ [])) in
            let put : put_points k (p ∷ []) out ≡ over (flat_f64 (made.points ++ (p ∷ []))) out₀
            = ap (put_points k (p ∷ [])) so.points ∙ points_behind made.points (p ∷ []) k out₀ (sym so.counted) (omega (arith, enough, few)) in
            written (p ∷ []) (k + 1) out' n (f ∙ put) ∙ ends_with (p ∷ []) end
