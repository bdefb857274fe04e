-- What follows of the contract and of the definitions that it cites, for their readers and their callers. Assumes nothing.
use Prim.Native.Nat.{ℕ, ◌+◌, ◌*◌, ◌≤◌}
use mathlib.Core.Bool.{Bool, true, false, ◌&&◌}
use mathlib.Core.List.{List}
use mathlib.Core.Path.{◌≡◌, refl, sym, ap, subst}
use native.Mathlib.Omega.{arith}
use lib.Dec.{ltb, eqb}
use lib.IntN.{ℤ}
use lib.ListN.{length, get_or, take, drop}
use borrow.Author.Tests.{eqb-true, ltb-false, le-leb}
use Rattle.laws.proofs.Determined.{Determined, same}
use Rattle.laws.proofs.Joined.{both_true}
use Rattle.laws.proofs.Lists.{take_over_all}
use Rattle.std.specs.Prelude.{Option, Some, None, if◌then◌else◌}
use Rattle.chart.specs.Pixels.{row_bytes}
use Rattle.requests.specs.Frame.{Request, walk, simplify, reduce, numbers, no_frame, word_at, values_of, clockwise, directed, chart_in, start_in, walk_in, simplify_in, reduce_in, numbers_in, kind_in, request_in}
use Rattle.laws.specs.Outcome.{Outcome}
use Rattle.requests.specs.Asked.{asked_of}
use Rattle.requests.specs.declared.Asked.{Asked}
use Rattle.requests.proofs.Values.{length_rest}
use Rattle.requests.proofs.frame.request.Reads.{Post}

-- The contract leaves no choice: of equal arguments it allows one answer, and one last content of the buffer. `Post` is the contract itself, as
-- Rattle reads it off the source.
pub request_determined : Determined (List ℕ × List ℤ) (Outcome (Option Asked) (List ℤ)) Post (λ _ a. (a.0.now, a.1.0.now)) (λ _ r s. record { answer = r; out = s.1.0.now })
request_determined = same (λ x. asked_of (request_in x.0) x.1) (λ _ a r s p. p)

-- ---- What is handed on says what was asked for, where the buffer has room for every frame's points.

-- the request that an answer says, with what the buffer holds and the bytes of the frame
abbrev pub said : Option Asked → List ℤ → List ℕ → Request
said (Some (Asked.Walk clockwise chart start rows)) to bytes = walk clockwise chart start (drop rows bytes)
said (Some (Asked.Simplify clockwise n)) to bytes = simplify clockwise (take n to)
said (Some (Asked.Reduce tolerance n)) to bytes = reduce tolerance (take n to)
said (Some (Asked.Numbers n)) to bytes = numbers (take n to)
said None to bytes = no_frame

-- how many values it has in the buffer
abbrev pub values_in : Option Asked → ℕ
values_in (Some (Asked.Walk clockwise chart start rows)) = 0
values_in (Some (Asked.Simplify clockwise n)) = n
values_in (Some (Asked.Reduce tolerance n)) = n
values_in (Some (Asked.Numbers n)) = n
values_in None = 0

-- how many bytes of the frame stand before the rows of its chart
abbrev pub bytes_before : Option Asked → ℕ
bytes_before (Some (Asked.Walk clockwise chart start rows)) = rows
bytes_before (Some (Asked.Simplify clockwise n)) = 0
bytes_before (Some (Asked.Reduce tolerance n)) = 0
bytes_before (Some (Asked.Numbers n)) = 0
bytes_before None = 0

-- what an answer says of a request q, of the buffer, and of the bytes
pub record Told (bytes : List ℕ) (to : List ℤ) (q : Request) (o : Outcome (Option Asked) (List ℤ)) : Type 0 where
  pub asked : q ≡ said o.answer o.out bytes
  pub held : values_in o.answer ≤ length to
  pub behind : bytes_before o.answer ≤ length bytes

module _ (f : List ℕ) (to : List ℤ) where
  abbrev Tells : Request → Type 0
  Tells q = Told f to q (asked_of q to)

  told_none : Tells no_frame
  unfolding asked_of
  told_none = record { asked = refl; held = omega arith; behind = omega arith }

  -- by a test, of which one side is no frame
  told_if : (t : Bool) (q : Request) → (t ≡ true → Tells q) → Tells (if t then q else no_frame)
  told_if true q h = h refl
  told_if false q h = told_none

  told_walk : Tells (walk_in f)
  unfolding walk_in asked_of
  told_walk =
      told_if (directed f && eqb (length f) (10 + row_bytes (word_at f 2) * word_at f 4)) (walk (clockwise f) (chart_in f) (start_in f) (drop 10 f))
      (λ e. record {
        asked = refl;
        held = omega arith;
        behind =
            omega (
              arith,
              eqb-true (length f) (10 + row_bytes (word_at f 2) * word_at f 4)
                  (both_true (directed f) (eqb (length f) (10 + row_bytes (word_at f 2) * word_at f 4)) e).1,
            );
      })

  -- points that fit
  module _ (points : List ℤ) (h : length points ≤ length to) where
    told_simplify : (cw : Bool) → Tells (simplify cw points)
    unfolding asked_of
    told_simplify cw = rw (le-leb (length points) (length to) h) (record {
      asked = ap (simplify cw) (sym (take_over_all points to));
      held = h;
      behind = omega arith;
    })

    told_reduce : (t : ℕ) → Tells (reduce t points)
    unfolding asked_of
    told_reduce t = rw (le-leb (length points) (length to) h) (record {
      asked = ap (reduce t) (sym (take_over_all points to));
      held = h;
      behind = omega arith;
    })

    told_numbers : Tells (numbers points)
    unfolding asked_of
    told_numbers = rw (le-leb (length points) (length to) h) (record {
      asked = ap numbers (sym (take_over_all points to));
      held = h;
      behind = omega arith;
    })

  module _ (room : 8190 ≤ length to) (most : length f ≤ 16384) where
    told_kind : (kind : ℕ) → Tells (kind_in kind f)
    unfolding kind_in simplify_in reduce_in numbers_in
    told_kind kind = by (eqb kind 1) (eqb kind 2) (eqb kind 3) (eqb kind 4)
      where
        by : (a b c d : Bool) → Tells (if a then walk_in f else if b then simplify_in f else if c then reduce_in f else if d then numbers_in f else no_frame)
        by true b c d = told_walk
        by false true c d =
            told_if (directed f && eqb (length f) (4 + word_at f 2 * 4)) (simplify (clockwise f) (values_of (drop 4 f)))
            (λ e. told_simplify (values_of (drop 4 f)) (omega (arith, length_rest f 4)) (clockwise f))
        by false false true d =
            told_if (eqb (length f) (5 + word_at f 3 * 4)) (reduce (word_at f 1) (values_of (drop 5 f)))
            (λ e. told_reduce (values_of (drop 5 f)) (omega (arith, length_rest f 5)) (word_at f 1))
        by false false false true =
            told_if (eqb (length f) (3 + word_at f 1 * 4)) (numbers (values_of (drop 3 f)))
            (λ e. told_numbers (values_of (drop 3 f)) (omega (arith, length_rest f 3)))
        by false false false false = told_none

  told_all : 8190 ≤ length to → Tells (request_in f)
  unfolding request_in
  told_all room = by (ltb 16384 (length f)) refl
    where
      by : (t : Bool) → ltb 16384 (length f) ≡ t → Tells (if t then no_frame else kind_in (get_or f 0 0) f)
      by true e = told_none
      by false e = told_kind room (ltb-false 16384 (length f) e) (get_or f 0 0)

  pub told : 8190 ≤ length to → (o : Outcome (Option Asked) (List ℤ)) → o ≡ asked_of (request_in f) to →
      Told f to (request_in f) o
  told room o e = subst (Told f to (request_in f)) (sym e) (told_all room)
