-- The bytes of a line, once they are read to an array: they are the frame, or there is none. Assumes nothing.
use Prim.Native.Nat.{ℕ, ◌≤◌, ◌<◌}
use mathlib.Core.Bool.{Bool, true, false}
use mathlib.Core.List.{List}
use mathlib.Core.Path.{◌≡◌, refl, sym, ap, ◌∙◌}
use native.Mathlib.Omega.{arith}
use lib.Dec.{leb}
use lib.ListN.{length, take, replicate, length-replicate}
use borrow.Author.Tests.{leb-true, leb-false, lt-ltb}
use Rattle.std.specs.Prelude.{if◌then◌else◌, Option, Some, None}
use Rattle.laws.specs.Lists.{over}
use Rattle.laws.proofs.Lists.{take_over_all}
use Rattle.words.specs.Bytes.{Stored, bytes_of, read_into}
use Rattle.texts.specs.Put.{Placed, put}
use Rattle.requests.specs.Frame.{request_in}
use Rattle.frames.specs.Answer.{bad_reply, reply_to, bytes_reply, answer_to}

abbrev is_not : Option ℕ → ℕ
is_not (Some n) = 0
is_not None = 1

abbrev held : Option ℕ → ℕ
held (Some n) = n
held None = 0

-- of some bytes, by whether they fit an array of so many
abbrev given : List ℕ → List ℕ → Bool → Stored
given xs array t =
    if t then record { answer = Some (length xs); out = over xs array } else record { answer = None; out = array }

module _ (to array : List ℕ) (size : length array ≡ 16384) where
  -- all were read: they fit, and stand at the start of the array
  all_read : (n : ℕ) (b : Option (List ℕ)) → record { answer = Some n; out = to } ≡ read_into b array →
      (n ≤ 16384) × (b ≡ Some (take n to))
  all_read n None e = let z : ◌≡◌ {A = ℕ} 0 1 = ap (λ (o : Stored). is_not o.answer) e in absurd (omega arith)
  all_read n (Some xs) e = by (leb (length xs) (length array)) refl e
    where
      by : (t : Bool) → leb (length xs) (length array) ≡ t → record { answer = Some n; out = to } ≡ given xs array t →
          (n ≤ 16384) × (Some xs ≡ Some (take n to))
      by true h e =
          let k : n ≡ length xs = ap (λ (o : Stored). held o.answer) e in
          let l : to ≡ over xs array = ap (λ (o : Stored). o.out) e in
          (omega (arith, leb-true (length xs) (length array) h), ap Some (sym (rw (k, l) (take_over_all xs array))))
      by false h e = let z : ◌≡◌ {A = ℕ} 0 1 = ap (λ (o : Stored). is_not o.answer) e in absurd (omega arith)

  too_many : (xs : List ℕ) → 16384 < length xs → bytes_reply (Some xs) ≡ bad_reply
  unfolding bytes_reply
  too_many xs k = rw (lt-ltb 16384 (length xs) k)

  -- none were read: they are none, or too many for a frame
  none_read : (b : Option (List ℕ)) → record { answer = None; out = to } ≡ read_into b array → bytes_reply b ≡ bad_reply
  unfolding bytes_reply
  none_read None e = refl
  none_read (Some xs) e = by (leb (length xs) (length array)) refl e
    where
      by : (t : Bool) → leb (length xs) (length array) ≡ t → record { answer = None; out = to } ≡ given xs array t →
          bytes_reply (Some xs) ≡ bad_reply
      by true h e = let z : ◌≡◌ {A = ℕ} 1 0 = ap (λ (o : Stored). is_not o.answer) e in absurd (omega arith)
      by false h e = too_many xs (omega (arith, leb-false (length xs) (length array) h))

zeros : length {A = ℕ} (replicate 16384 0) ≡ 16384
zeros = length-replicate {A = ℕ} 16384 0

module _ (line to : List ℕ) (a : Option ℕ) (is : record { answer = a; out = to } ≡ read_into (bytes_of line) (replicate 16384 0)) where
  module _ (n : ℕ) (e : a ≡ Some n) where
    read : (n ≤ 16384) × (bytes_of line ≡ Some (take n to))
    read = all_read to (replicate 16384 0) zeros n (bytes_of line) (ap (λ (r : Option ℕ). record { answer = r; out = to }) (sym e) ∙ is)

    pub a_frame : (o : Placed) (out : List ℕ) (at : ℕ) → o ≡ put (reply_to (request_in (take n to))) out at → o ≡ put (answer_to line) out at
    a_frame o out at p = p ∙ ap (λ (t : List ℕ). put t out at) (sym (unfold answer_to in ap bytes_reply read.1))

  pub no_bytes : (o : Placed) (out : List ℕ) (at : ℕ) → a ≡ None → o ≡ put bad_reply out at → o ≡ put (answer_to line) out at
  no_bytes o out at e p =
      p
      ∙ ap (λ (t : List ℕ). put t out at)
      (sym (unfold answer_to in none_read to (replicate 16384 0) zeros (bytes_of line) (ap (λ (r : Option ℕ). record { answer = r; out = to }) (sym e) ∙ is)))
