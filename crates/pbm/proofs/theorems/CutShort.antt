-- The count of bytes is exact: a file that ends before the last byte of its image is refused. Assumes nothing.
use Prim.Native.Nat.{ℕ, ◌≤◌, ◌<◌}
use mathlib.Core.List.{List}
use mathlib.Core.Path.{◌≡◌, sym, ap, ◌∙◌}
use native.Mathlib.Omega.{arith}
use lib.ListN.{length, take, drop, take-append-drop}
use lib.Seq.{length-take-le}
use Rattle.point.specs.declared.refusal.Refusal.{Refusal}
use Rattle.chart.specs.declared.Chart.{Chart}
use Rattle.pbm.specs.Read.{Reading, refused, was_read, read_of}
use Rattle.pbm.proofs.theorems.Told.{Told, told_refused, told_read, told, same_read}
use Rattle.pbm.proofs.theorems.Behind.{taken_at_most, nothing_more_matters}

-- no image is read of it: the bytes that were cut off would be bytes behind that image, and the whole file gives the same one
pub cut_short : (file pixels : List ℕ) (c : Chart) (n : ℕ) → (read_of file pixels).answer ≡ was_read c n
    → (k : ℕ) → k < n → (c' : Chart) (m : ℕ) → (read_of (take k file) pixels).answer ≡ was_read c' m → ⊥
cut_short file pixels c n read k short c' m cut =
    let same : read_of file pixels ≡ read_of (take k file) pixels
    = rw take-append-drop at (nothing_more_matters (take k file) (drop k file) pixels c' m cut) in
    let counts : n ≡ m = (same_read c c' n m (sym read ∙ ap (λ (o : Reading). o.answer) same ∙ cut)).1 in
    let there : n ≤ length file = taken_at_most file pixels c n read in
    omega (arith, length-take-le k file (omega arith), taken_at_most (take k file) pixels c' m cut)

-- a file that is refused: the buffer is as lent
pub record Refuses (file pixels : List ℕ) : Type 0 where
  pub refusal : Refusal
  pub leaves : read_of file pixels ≡ refused refusal pixels

-- so it is refused
pub cut_short_is_refused : (file pixels : List ℕ) (c : Chart) (n : ℕ) → (read_of file pixels).answer ≡ was_read c n
    → (k : ℕ) → k < n → Refuses (take k file) pixels
cut_short_is_refused file pixels c n read k short = go (told (take k file) pixels)
  where
    go : Told (take k file) pixels → Refuses (take k file) pixels
    go (told_refused r e) = record { refusal = r; leaves = e }
    go (told_read m f room e) = absurd (cut_short file pixels c n read k short f.header.chart m (ap (λ (o : Reading). o.answer) e))
