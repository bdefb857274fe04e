-- A line of more than 32,768 digits is no frame, and an empty one is none. Assumes nothing.
use Prim.Native.Nat.{ℕ, suc, ◌*◌, ◌<◌}
use mathlib.Core.List.{List, [], ◌∷◌}
use mathlib.Core.Path.{◌≡◌, refl}
use native.Mathlib.Omega.{arith}
use lib.ListN.{length}
use borrow.Author.Tests.{lt-ltb}
use Rattle.std.specs.Prelude.{Option, Some, None}
use Rattle.words.specs.Bytes.{prepend, pair_of, bytes_of}
use Rattle.frames.specs.Answer.{bad_reply, bytes_reply, answer_to}

-- a byte has two digits
abbrev Digits : Option (List ℕ) → ℕ → Type 0
Digits None n = Unit {0}
Digits (Some bytes) n = n ≡ 2 * length bytes

two_more : (p : Option ℕ) (n : ℕ) (b : Option (List ℕ)) → Digits b n → Digits (prepend p b) (suc (suc n))
two_more None n b d = tt
two_more (Some p) n None d = tt
two_more (Some p) n (Some bytes) d = omega arith

digits : (line : List ℕ) → Digits (bytes_of line) (length line)
unfolding bytes_of
digits [] = refl
digits (x ∷ []) = tt
digits (x ∷ y ∷ rest) = two_more (pair_of x y) (length rest) (bytes_of rest) (digits rest)

too_many_bytes : (n : ℕ) (b : Option (List ℕ)) → Digits b n → 32768 < n → bytes_reply b ≡ bad_reply
unfolding bytes_reply
too_many_bytes n None d h = refl
too_many_bytes n (Some bytes) d h = rw (lt-ltb 16384 (length bytes) (omega arith))

pub too_long_is_no_frame : (line : List ℕ) → 32768 < length line → answer_to line ≡ bad_reply
unfolding answer_to
too_long_is_no_frame line h = too_many_bytes (length line) (bytes_of line) (digits line) h

pub empty_is_no_frame : answer_to [] ≡ bad_reply
unfolding answer_to
empty_is_no_frame = refl
