-- What a reader holds, as lists: `c`, the bytes that were seen, and behind them `u`. `taken` hands out the line that the first newline of `u` ends;
-- where there is none, the last line, or room to read into. Assumes nothing.
use Prim.Native.Nat.{ℕ, suc, ◌+◌, ◌-◌, ◌≤◌, ◌<◌, min, max}
use mathlib.Core.Bool.{Bool, true, false, ◌||◌, or-false}
use mathlib.Core.List.{List, [], ◌∷◌, ◌++◌, append_assoc, append-nil}
use mathlib.Core.Path.{◌≡◌, refl, sym, ap, subst, ◌∙◌}
use native.Mathlib.Omega.{arith}
use lib.Dec.{ltb, eqb}
use lib.ListN.{length, take, drop, length-append, length-drop}
use lib.Seq.{length-take-le, take_at, drop_at, append_snoc}
use borrow.Author.Tests.{ltb-true, ltb-false, eqb-true, eqb-false}
use Rattle.std.proofs.lemmas.List.{nil_from_length}
use Rattle.words.specs.Line.{up_to}
use Rattle.words.proofs.Splits.{up_to_le}
use Rattle.laws.proofs.Joined.{both_false, or_second}
use Rattle.laws.proofs.If.{if_cases}
use Rattle.laws.specs.Outcome.{Outcome}
use Rattle.lines.specs.Reader.{fed_reader, in_order, past, line_ends, input_ends, count, held, newline, refill, took, taken}
use Rattle.lines.specs.declared.reader.Reader.{Reader}
use Rattle.lines.specs.declared.reader.Taken.{Taken}
use Rattle.lines.specs.declared.reader.Taken.TheVariants.{Line, More, End}
use Rattle.lines.proofs.Newlines.{Free, free_before, cut_there, free_all}
use Rattle.lines.proofs.Phases.{line_bytes}

-- a part of a list, by its ends
cut_out : (b x y z : List ℕ) (from to : ℕ) → b ≡ x ++ (y ++ z) → from ≡ length x → to ≡ length x + length y → take (to - from) (drop from b) ≡ y
cut_out b x y z from to is f t = rw (is, drop_at x (y ++ z) from (sym f), take_at y z (to - from) (omega arith))

-- in a buffer `b`, before which some are gone, and behind which others stand
pub record Holds (r : Reader) (b c u : List ℕ) (over long : Bool) : Type 0 where
  pub gone : List ℕ
  pub behind : List ℕ
  pub is : b ≡ gone ++ (c ++ (u ++ behind))
  pub starts : r.start ≡ length gone
  pub sees : r.seen ≡ length gone + length c
  pub ends : r.end ≡ length gone + length c + length u
  pub over_is : r.over ≡ over
  pub long_is : r.long ≡ long

-- what a reader answers, of a buffer `b` in which it holds `c` and behind it `u`
pub data Took (b c u : List ℕ) (over long : Bool) : Outcome Taken (List ℕ) → Type 0 where
  -- the line that the first newline ends
  found : (l rest : List ℕ) (from to : ℕ) (next : Reader) → u ≡ l ++ 10 ∷ rest → Free l → length (c ++ l) < length b →
      take (to - from) (drop from b) ≡ line_bytes long (c ++ l) → Holds next b [] rest over false →
      Took b c u over long (record { answer = Line from to next; out = b })
  -- the last line, which none ends
  last : (from to : ℕ) (next : Reader) → over ≡ true → Free u → (long ≡ false → 0 < length (c ++ u)) →
      take (to - from) (drop from b) ≡ line_bytes long (c ++ u) → Holds next b [] [] over false →
      Took b c u over long (record { answer = Line from to next; out = b })
  -- none is left
  none_left : over ≡ true → long ≡ false → c ++ u ≡ [] → Took b c u over long (record { answer = End; out = b })
  -- more is to be read, and what is held is dropped, or goes to the front
  dropped : (next : Reader) → over ≡ false → Free u → (long ≡ false → length (c ++ u) ≡ length b) → next.start ≡ 0 → Holds next b [] [] over true →
      Took b c u over long (record { answer = More 0 next; out = b })
  kept : (at : ℕ) (next : Reader) (b' : List ℕ) → over ≡ false → long ≡ false → Free u → at ≡ length (c ++ u) → at < length b → length b' ≡ length b →
      next.start ≡ 0 → Holds next b' (c ++ u) [] over false → Took b c u over long (record { answer = More at next; out = b' })

module _ (r : Reader) (b c u : List ℕ) (over long : Bool) (h : Holds r b c u over long) where
  size : length b ≡ length h.gone + (length c + (length u + length h.behind))
  size =
      ap length h.is ∙
      simp length-append

  -- the places are in order
  in_order_lem : in_order r (length b) ≡ r
  in_order_lem =
      let e : min r.end (length b) ≡ r.end = omega (arith, size, h.ends) in
      let s : min r.start r.end ≡ r.start = omega (arith, h.starts, h.ends) in
      let t : max r.start (min r.seen r.end) ≡ r.seen = omega (arith, h.starts, h.sees, h.ends) in
      rw (e, s, t)

  unseen : drop r.seen (take r.end b) ≡ u
  unseen =
      let p : b ≡ (h.gone ++ c ++ u) ++ h.behind = h.is ∙ simp append_assoc in
      let f : length (h.gone ++ c) ≡ r.seen = length-append h.gone c ∙ sym h.sees in
      let g : length (h.gone ++ c ++ u) ≡ r.end = length-append (h.gone ++ c) u ∙ omega (arith, f, h.sees, h.ends) in
      ap (λ (l : List ℕ). drop r.seen (take r.end l)) p
      ∙ ap (drop r.seen) (take_at (h.gone ++ c ++ u) h.behind r.end g)
      ∙ drop_at (h.gone ++ c) u r.seen f

  newline_is : newline r b ≡ r.seen + up_to 10 u
  newline_is = ap (λ (l : List ℕ). r.seen + up_to 10 l) unseen

  -- what is held in front of `at` is handed out
  past_it : (x y : List ℕ) (at : ℕ) → c ++ u ≡ x ++ y → at ≡ length h.gone + length x → Holds (past r at) b [] y over false
  past_it x y at e p =
      let l : length c + length u ≡ length x + length y = sym (length-append c u) ∙ ap length e ∙ length-append x y in
      record {
        gone = h.gone ++ x;
        behind = h.behind;
        is = h.is ∙ ap (λ (k : List ℕ). h.gone ++ k) (sym (append_assoc c u h.behind) ∙ ap (λ (k : List ℕ). k ++ h.behind) e ∙ append_assoc x y h.behind)
            ∙ sym (append_assoc h.gone x (y ++ h.behind));
        starts = p ∙ sym (length-append h.gone x);
        sees = omega (arith, p, length-append h.gone x);
        ends = omega (arith, h.ends, l, length-append h.gone x);
        over_is = h.over_is;
        long_is = refl;
      }

  -- a line that ends at `to` is `l`, but for one that was too long
  of_line : (P : Taken → Type 0) (to next : ℕ) (l : List ℕ) → take (to - r.start) (drop r.start b) ≡ l →
      ((from : ℕ) → take (to - from) (drop from b) ≡ line_bytes long l → P (Line from to (past r next))) → P (line_ends r to next)
  of_line P to next l e make =
      if_cases P r.long _ _
      (λ t. let z : to - to ≡ 0 = omega arith in make to (rw (sym h.long_is ∙ t, z)))
      (λ t. make r.start (rw (sym h.long_is ∙ t) e))

  at_newline : (l rest : List ℕ) (to : ℕ) → u ≡ l ++ 10 ∷ rest → Free l → to ≡ r.seen + length l →
      Took b c u over long (record { answer = line_ends r to (to + 1); out = b })
  at_newline l rest to e f p =
      let both : c ++ u ≡ c ++ l ++ 10 ∷ rest = rw (e, append_assoc c l (10 ∷ rest)) in
      let all : b ≡ h.gone ++ (c ++ l ++ 10 ∷ (rest ++ h.behind)) = h.is ∙ rw (e, append_assoc c l (10 ∷ (rest ++ h.behind)), append_assoc l (10 ∷ rest) h.behind) in
      let n : length (c ++ l) ≡ length c + length l = length-append c l in
      let u-size : length u ≡ length l + suc (length rest) = ap length e ∙ length-append l (10 ∷ rest) in
      of_line (λ (k : Taken). Took b c u over long (record { answer = k; out = b })) to (to + 1) (c ++ l)
      (cut_out b h.gone (c ++ l) (10 ∷ (rest ++ h.behind)) r.start to all h.starts (omega (arith, p, h.sees, n)))
      (λ from k. found l rest from to (past r (to + 1)) e f (omega (arith, size, n, u-size)) k
      (past_it (c ++ l ++ 10 ∷ []) rest (to + 1) (both ∙ sym (append_snoc (c ++ l) 10 rest)) (omega (arith, p, h.sees, n, length-append (c ++ l) (10 ∷ [])))))

  held_size : length (c ++ u) ≡ count r
  held_size = omega (arith, length-append c u, h.starts, h.ends)

  held_is : held r b ≡ c ++ u
  held_is =
      cut_out b h.gone (c ++ u) h.behind r.start r.end (h.is ∙ rw (append_assoc c u h.behind)) h.starts
      (omega (arith, h.ends, length-append c u))

  at_the_end : r.over ≡ true → Free u → Took b c u over long (record { answer = input_ends r; out = b })
  at_the_end o f =
      if_cases (λ (k : Taken). Took b c u over long (record { answer = k; out = b })) (r.long || ltb r.start r.end) _ _
      (λ t. of_line (λ (k : Taken). Took b c u over long (record { answer = k; out = b })) r.end r.end (c ++ u) held_is
      (λ from k. last from r.end (past r r.end) (sym h.over_is ∙ o) f
      (λ g. omega (arith, held_size, ltb-true r.start r.end (or_second r.long (ltb r.start r.end) (h.long_is ∙ g) ∙ t))) k
      (past_it (c ++ u) [] r.end (sym (append-nil (c ++ u))) (omega (arith, h.ends, length-append c u)))))
      (λ t. let both : (r.long ≡ false) × (ltb r.start r.end ≡ false) = both_false r.long (ltb r.start r.end) t in
      none_left (sym h.over_is ∙ o) (sym h.long_is ∙ both.0) (nil_from_length (c ++ u) (omega (arith, held_size, ltb-false r.start r.end both.1))))

  to_be_read : r.over ≡ false → Free u → Took b c u over long (refill r b)
  unfolding refill
  to_be_read o f =
      if_cases (λ (k : Outcome Taken (List ℕ)). Took b c u over long k) (r.long || eqb (count r) (length b)) _ _
      (λ t. dropped _ (sym h.over_is ∙ o) f
      (λ g. omega (arith, held_size, eqb-true (count r) (length b) (or_second r.long (eqb (count r) (length b)) (h.long_is ∙ g) ∙ t))) refl
      (record { gone = []; behind = b; is = refl; starts = refl; sees = refl; ends = refl; over_is = h.over_is; long_is = refl }))
      (λ t. let both : (r.long ≡ false) × (eqb (count r) (length b) ≡ false) = both_false r.long (eqb (count r) (length b)) t in
      let less : count r < length b = omega (arith, size, h.starts, h.ends, eqb-false (count r) (length b) both.1) in
      kept (count r) _ (held r b ++ drop (count r) b) (sym h.over_is ∙ o) (sym h.long_is ∙ both.0) f (sym held_size) less
      (omega (arith, length-append (held r b) (drop (count r) b), ap length held_is, held_size, length-drop (count r) b)) refl
      (record {
        gone = [];
        behind = drop (count r) b;
        is = ap (λ (k : List ℕ). k ++ drop (count r) b) held_is;
        starts = refl;
        sees = omega (arith, held_size);
        ends = omega (arith, held_size);
        over_is = h.over_is;
        long_is = refl;
      }))

  takes_itself : Took b c u over long (took r b)
  unfolding took
  takes_itself =
      if_cases (λ (k : Outcome Taken (List ℕ)). Took b c u over long k) (ltb (newline r b) r.end) _ _
      (λ t. let n : up_to 10 u < length u = omega (arith, ltb-true (newline r b) r.end t, newline_is, h.sees, h.ends) in
      at_newline (take (up_to 10 u) u) (drop (suc (up_to 10 u)) u) (newline r b) (cut_there u n) (free_before u)
      (omega (arith, newline_is, length-take-le (up_to 10 u) u (up_to_le 10 u))))
      (λ t. let f : Free u = free_all u (omega (arith, ltb-false (newline r b) r.end t, newline_is, h.sees, h.ends)) in
      if_cases (λ (k : Outcome Taken (List ℕ)). Took b c u over long k) r.over _ _ (λ o. at_the_end o f) (λ o. to_be_read o f))

  pub takes : Took b c u over long (taken r b)
  unfolding taken
  takes = subst (λ (k : Reader). Took b c u over long (took k b)) (sym in_order_lem) takes_itself

-- what is read behind bytes that stand at the front
pub fed_holds : (r : Reader) (b c got : List ℕ) (over long : Bool) (at : ℕ) → Holds r b c [] over long → over ≡ false → r.start ≡ 0 → at ≡ length c →
    at + length got ≤ length b → length b ≤ 18446744073709551615 →
    Holds (fed_reader r (length got)) (take at b ++ got ++ drop (at + length got) b) c got (eqb (length got) 0) long
fed_holds r b c got over long at h o z p room small =
    let none : h.gone ≡ [] = nil_from_length h.gone (omega (arith, z, h.starts)) in
    let front : take at b ≡ c = ap (take at) (h.is ∙ ap (λ (k : List ℕ). k ++ (c ++ h.behind)) none) ∙ take_at c h.behind at (sym p) in
    record {
      gone = [];
      behind = drop (at + length got) b;
      is = rw (front, append_assoc c got (drop (at + length got) b));
      starts = z;
      sees = omega (arith, h.sees, h.starts, z);
      ends = omega (arith, h.ends, h.starts, z, p);
      over_is = ap (λ (o : Bool). eqb (length got) 0 || o) (h.over_is ∙ o) ∙ or-false (eqb (length got) 0);
      long_is = h.long_is;
    }
