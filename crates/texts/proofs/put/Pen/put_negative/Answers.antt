use Rattle.std.proofs.Common.{rules, ◌≡◌, ℕ, ◌+◌, ◌-◌, ◌<◌, ◌≤◌, List, [], ◌∷◌, ◌++◌, length, take, drop, set, sym, ◌∙◌, add-one, append_assoc, arith}
use Rattle.std.proofs.Math.ListN.{length-set}
use Rattle.std.proofs.Math.Seq.{take-suc-set, drop-set-lt, append_snoc}
use borrow.Author.Tests.{leb-true, le-leb}
use borrow.Rule.Slice.PartMut.{mid_of, mid_len, put_mid, Post-is}
use Rattle.texts.specs.Put.{put}
use Rattle.texts.specs.Text.{low_digits, natural_text}
use Rattle.texts.proofs.Puts.{decimal_low}
use Rattle.texts.proofs.put.Pen.put_negative.Goals as goal

-- a sign, and digits behind it
signed : (out digits : List ℕ) (at e : ℕ) → at < e → e ≤ length out →
    put_mid (at + 1) (e - (at + 1)) (set out at 45) digits ≡ take at out ++ (45 ∷ digits) ++ drop e out
signed out digits at e h l =
    let a : at < length out = omega arith in
    let t : take (at + 1) (set out at 45) ≡ take at out ++ (45 ∷ []) = rw add-one (take-suc-set out at 45 a) in
    let s : at + 1 ≤ e = omega arith in
    rw (t, Post-is (at + 1) e (set out at 45) s, drop-set-lt e out at 45 h, append_snoc, append_assoc)

-- with the digits of a number
signed_text : (n k at : ℕ) (out digits : List ℕ) → k ≡ length (natural_text n) → at + (k + 1) ≤ length out →
    digits ≡ low_digits 10 (length (mid_of (at + 1) (at + (k + 1) - (at + 1)) (set out at 45))) n →
    record { answer = at + (k + 1); out = put_mid (at + 1) (at + (k + 1) - (at + 1)) (set out at 45) digits } ≡ put (45 ∷ natural_text n) out at
unfolding put
signed_text n k at out digits e l d =
    let m : at + (k + 1) - (at + 1) ≡ k = omega arith in
    let w : length (mid_of (at + 1) (at + (k + 1) - (at + 1)) (set out at 45)) ≡ k =
    mid_len (at + 1) (at + (k + 1)) (set out at 45) (rw length-set l) ∙ m in
    let t : digits ≡ natural_text n = d ∙ rw (w, e) (sym (decimal_low 20 n)) in
    let s : length (45 ∷ natural_text n) ≡ k + 1 = rw e (omega arith) in
    rw (signed out digits at (at + (k + 1)) (omega arith) l, t, s, le-leb (at + (k + 1)) (length out) l)

pub returns-then-has_room : goal.returns-then-has_room
returns-then-has_room c =
    record {
      put = signed_text _ _ _ _ _ c.places-k.ensures.0 (leb-true _ _ (sym c.has_room.ensures ∙ c.if-has_room.true)) c.spell.ensures;
      same = search rules;
    }
