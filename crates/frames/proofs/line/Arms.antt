-- The answer that is put, by what a frame asks for. Assumes nothing.
use Prim.Native.Nat.{ℕ, ◌-◌, ◌≤◌}
use mathlib.Core.Bool.{Bool}
use mathlib.Core.List.{List}
use mathlib.Core.Path.{◌≡◌, refl, sym, ap, ap₂, ◌∙◌}
use native.Mathlib.Omega.{arith}
use lib.Ieee.{Float, binary64, of_int, of_bits, div}
use lib.IntN.{ℤ, pos}
use lib.ListN.{length, take, drop, replicate, length-replicate}
use Rattle.point.specs.declared.PointI32.{PointI32}
use Rattle.chart.specs.declared.Chart.{Chart}
use Rattle.walker.specs.Walk.{walked}
use Rattle.simplify.specs.Simplify.{simplify_of}
use Rattle.reduce.specs.Numbers.{numbered_of}
use Rattle.reduce.specs.Reduce.{reduce_of}
use Rattle.texts.specs.Put.{Placed, put}
use Rattle.requests.specs.Frame.{Request, request_in}
use Rattle.requests.specs.Asked.{asked_of}
use Rattle.requests.specs.declared.Asked.{Asked}
use Rattle.std.specs.Prelude.{Option, Some, None}
use Rattle.requests.proofs.Points.{rest_is}
use Rattle.requests.proofs.Claims.{said, values_in, bytes_before, Told, told}
use Rattle.frames.specs.Room.{room, marks, number_room}
use Rattle.frames.specs.Calls.{walk_reply, simplify_reply, reduce_reply, numbers_reply}
use Rattle.frames.specs.Answer.{bad_reply, reply_to}

-- the literal 16.0 of the code
sixteen_is : of_bits binary64 0x4030000000000000 ≡ of_int binary64 (pos 16)
unfolding of_bits of_int
sixteen_is = refl

module _ (f : List ℕ) (a : Option Asked) (to : List ℤ) (is : record { answer = a; out = to } ≡ asked_of (request_in f) (replicate 8190 (pos 0))) where
  all_told : Told f (replicate 8190 (pos 0)) (request_in f) (record { answer = a; out = to })
  all_told = told f (replicate 8190 (pos 0)) (omega (arith, length-replicate 8190 (pos 0))) (record { answer = a; out = to }) is

  -- an answer put for what was asked for
  asked : (b : Option Asked) (o : Placed) (out : List ℕ) (at : ℕ) → a ≡ b → o ≡ put (reply_to (said b to f)) out at → o ≡ put (reply_to (request_in f)) out at
  asked b o out at e p =
      p ∙ ap (λ (q : Request). put (reply_to q) out at) (sym (all_told.asked ∙ ap (λ (b : Option Asked). said b to f) e))

  -- its points stand in the buffer
  few : (b : Option Asked) → a ≡ b → length to ≡ 8190 → values_in b ≤ length to
  few b e l = omega (arith, all_told.held, length-replicate 8190 (pos 0), ap values_in e)

  -- ---- kind 01

  module _ (cw : Bool) (chart : Chart) (start : PointI32) (rows : ℕ) (v : Asked) (is_some : a ≡ Some v) (w : v ≡ Asked.Walk cw chart start rows) where
    pub rows_begin : rows ≤ length f
    rows_begin = omega (arith, all_told.behind, ap bytes_before (is_some ∙ ap Some w))

    pub a_walk : (o : Placed) (out : List ℕ) (at : ℕ) → o ≡ put (walk_reply (walked chart (take (length f - rows) (drop rows f)) start cw room)) out at →
        o ≡ put (reply_to (request_in f)) out at
    a_walk o out at p =
        asked (Some (Asked.Walk cw chart start rows)) o out at (is_some ∙ ap Some w)
        (unfold reply_to in p ∙ ap (λ (bytes : List ℕ). put (walk_reply (walked chart bytes start cw room)) out at) (rest_is f rows))

  -- ---- kind 02

  module _ (cw : Bool) (n : ℕ) (v : Asked) (is_some : a ≡ Some v) (w : v ≡ Asked.Simplify cw n) where
    pub simplify_few : length to ≡ 8190 → n ≤ length to
    simplify_few l = few (Some (Asked.Simplify cw n)) (is_some ∙ ap Some w) l

    pub a_simplify : (o : Placed) (out : List ℕ) (at : ℕ) → o ≡ put (simplify_reply (simplify_of (take n to) cw room)) out at →
        o ≡ put (reply_to (request_in f)) out at
    a_simplify o out at p = asked (Some (Asked.Simplify cw n)) o out at (is_some ∙ ap Some w) (unfold reply_to in p)

  -- ---- kind 03

  module _ (t n : ℕ) (v : Asked) (is_some : a ≡ Some v) (w : v ≡ Asked.Reduce t n) where
    pub reduce_few : length to ≡ 8190 → n ≤ length to
    reduce_few l = few (Some (Asked.Reduce t n)) (is_some ∙ ap Some w) l

    pub a_reduce : (o : Placed) (out : List ℕ) (at : ℕ) (s : Float) → s ≡ of_int binary64 (pos t) →
        o ≡ put (reduce_reply (reduce_of (take n to) (div binary64 s (of_bits binary64 0x4030000000000000)) room room marks)) out at →
        o ≡ put (reply_to (request_in f)) out at
    a_reduce o out at s f p =
        asked (Some (Asked.Reduce t n)) o out at (is_some ∙ ap Some w)
        (unfold reply_to in
        p ∙ ap₂ (λ (s d : Float). put (reduce_reply (reduce_of (take n to) (div binary64 s d) room room marks)) out at) f sixteen_is)

  -- ---- kind 04

  module _ (n : ℕ) (v : Asked) (is_some : a ≡ Some v) (w : v ≡ Asked.Numbers n) where
    pub numbers_few : length to ≡ 8190 → n ≤ length to
    numbers_few l = few (Some (Asked.Numbers n)) (is_some ∙ ap Some w) l

    pub a_numbers : (o : Placed) (out : List ℕ) (at : ℕ) → o ≡ put (numbers_reply (numbered_of (take n to) number_room)) out at →
        o ≡ put (reply_to (request_in f)) out at
    a_numbers o out at p = asked (Some (Asked.Numbers n)) o out at (is_some ∙ ap Some w) (unfold reply_to in p)

  pub no_frame_is : (o : Placed) (out : List ℕ) (at : ℕ) → a ≡ None → o ≡ put bad_reply out at → o ≡ put (reply_to (request_in f)) out at
  no_frame_is o out at e p = asked None o out at e (unfold reply_to in p)
