-- As many numbers as are counted are put: the buffer has so many. Assumes nothing.
use Rattle.std.proofs.Common.{rules, ◌≡◌, refl, ap, ap₂, ◌∙◌, ℕ, ◌≤◌, ℤ, List, length, take}
use lib.Ieee.{Float, binary64, of_bits}
use lib.ListN.{replicate}
use Rattle.std.specs.Prelude.{Result, Ok, Err}
use Rattle.std.specs.Result.{result_unwrap_or}
use Rattle.laws.specs.Outcome.{Outcome}
use Rattle.point.specs.Refusals.{number_of, count_of}
use Rattle.point.specs.declared.refusal.Refusal.{Refusal}
use Rattle.reduce.specs.Numbers.{numbered_of}
use Rattle.texts.specs.Put.{Placed, put}
use Rattle.frames.specs.Calls.{numbers_reply}
use Rattle.frames.specs.Replies.{numbers_text}
use Rattle.frames.specs.Room.{number_room}
use Rattle.frames.proofs.Parts.{part_length}
use Rattle.frames.proofs.Room.{numbers_room, zero_is}
use Rattle.frames.proofs.calls.put_numbered.Goals as goal

count_is : (a : Result ℕ Refusal) → result_unwrap_or a 0 ≡ count_of a
count_is (Ok n) = refl
count_is (Err r) = refl

module _ (list : List ℤ) (a : Result ℕ Refusal) (old numbers : List Float) (k : ℕ)
    (is : record { answer = a; out = numbers } ≡ numbered_of list old) (count : k ≡ result_unwrap_or a 0) where
  fits : length numbers ≡ length old → k ≤ length numbers
  fits kept = rw (count, count_is) (numbers_room list a old numbers is kept)

  part : length numbers ≡ length old → k ≡ length (take k numbers)
  part kept = part_length k numbers (fits kept)

module _ (list : List ℤ) (a : Result ℕ Refusal) (numbers : List Float) (k n : ℕ)
    (is : record { answer = a; out = numbers } ≡ numbered_of list (replicate 2047 (of_bits binary64 0))) (count : k ≡ result_unwrap_or a 0) where
  reply : n ≡ number_of a → (o : Placed) (out : List ℕ) (at : ℕ) → o ≡ put (numbers_text 4 n (take k numbers)) out at →
      o ≡ put (numbers_reply (numbered_of list number_room)) out at
  reply number o out at e =
      e ∙ ap₂ (λ (m l : ℕ). put (numbers_text 4 m (take l numbers)) out at) number (count ∙ count_is a) ∙
      ap (λ (o : Outcome (Result ℕ Refusal) (List Float)). put (numbers_reply o) out at) (is ∙ ap (λ (z : Float). numbered_of list (replicate 2047 z)) zero_is)

pub slice_bounds-numbers-end-2 : goal.slice_bounds-numbers-end-2
slice_bounds-numbers-end-2 c = search (fits, rules)

pub slice_bounds-put_numbers-end : goal.slice_bounds-put_numbers-end
slice_bounds-put_numbers-end c = search (part, rules)

pub returns-clause-put : goal.returns-clause-put
returns-clause-put c = reply _ _ _ _ _ c.numbers-answer.ensures c.unwrap_or-count.ensures c.number.ensures _ _ _ c.put_numbers.ensures.put
