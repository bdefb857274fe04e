-- Texts put one after the other: where there is room for both, they stand there as one text. Assumes nothing.
use Prim.Native.Nat.{ℕ, ◌+◌, ◌≤◌}
use mathlib.Core.List.{List, [], ◌++◌, append_assoc, append-nil}
use mathlib.Core.Path.{◌≡◌, sym, ap, ◌∙◌}
use native.Mathlib.Omega.{arith}
use lib.ListN.{length, take, drop, length-append, take-append-drop}
use lib.Seq.{drop-drop, length-take-le, take_at, drop-append-add}
use borrow.Author.Tests.{le-leb}
use Rattle.texts.specs.Put.{Placed, put}

-- what fits stands there
module _ (text out : List ℕ) (at : ℕ) (room : at + length text ≤ length out) where
  pub put_fits : put text out at ≡ record { answer = at + length text; out = take at out ++ text ++ drop (at + length text) out }
  unfolding put
  put_fits = rw (le-leb (at + length text) (length out) room)

pub put_nothing : (out : List ℕ) (at : ℕ) → at ≤ length out → put [] out at ≡ record { answer = at; out = out }
put_nothing out at h =
    let z : at + 0 ≡ at = omega arith in
    let r : at + length {A = ℕ} [] ≤ length out = omega arith in
    rw (put_fits [] out at r, z, append-nil, take-append-drop)

-- one text, and behind it another
module _ (a b out : List ℕ) (at : ℕ) (room : at + length (a ++ b) ≤ length out) where
  whole : length (a ++ b) ≡ length a + length b
  whole = length-append a b

  first_fits : at + length a ≤ length out
  first_fits = omega (arith, whole, room)

  front : length (take at out ++ a) ≡ at + length a
  front = length-append (take at out) a ∙ rw (length-take-le at out (omega (arith, first_fits)))

  abbrev after : List ℕ
  after = take at out ++ a ++ drop (at + length a) out

  rest : drop (at + length a + length b) after ≡ drop (at + length a + length b) out
  rest =
      ap (λ (n : ℕ). drop (n + length b) after) (sym front) ∙ drop-append-add (take at out ++ a) (drop (at + length a) out) (length b) ∙
      drop-drop (length b) (at + length a) out

  length_after : length after ≡ length out
  length_after =
      length-append (take at out ++ a) (drop (at + length a) out) ∙
      omega (arith, front, first_fits, length-append (take (at + length a) out) (drop (at + length a) out), ap length (take-append-drop (at + length a) out), length-take-le (at + length a) out first_fits)

  pub put_both : put b (put a out at).out (put a out at).answer ≡ put (a ++ b) out at
  put_both =
      let r : at + length a + length b ≤ length after = omega (arith, length_after, whole, room) in
      let e : at + length (a ++ b) ≡ at + length a + length b = omega (arith, whole) in
      let t : take (at + length a) after ≡ take at out ++ a = take_at (take at out ++ a) (drop (at + length a) out) (at + length a) front in
      let s : take at out ++ a ++ b ≡ take at out ++ (a ++ b) = append_assoc (take at out) a b in
      rw (put_fits a out at first_fits, put_fits b after (at + length a) r, put_fits (a ++ b) out at room, e, t, rest, s)

  pub second_fits : (put a out at).answer + length b ≤ length (put a out at).out
  second_fits = rw (put_fits a out at first_fits) (omega (arith, length_after, whole, room))

-- what two calls answer, one behind the other
pub put_then : (a b out mid last : List ℕ) (at m r : ℕ) → at + length (a ++ b) ≤ length out →
    record { answer = m; out = mid } ≡ put a out at → record { answer = r; out = last } ≡ put b mid m →
    record { answer = r; out = last } ≡ put (a ++ b) out at
put_then a b out mid last at m r room e f = f ∙ ap (λ (o : Placed). put b o.out o.answer) e ∙ put_both a b out at room
