-- The first two bytes pick a line of the definition.
use Prim.Native.Nat.{ℕ, ◌≤◌, ◌<◌}
use mathlib.Core.Bool.{true, false}
use mathlib.Core.List.{List, [], ◌∷◌}
use mathlib.Core.Path.{◌≡◌, refl}
use native.Mathlib.Omega.{arith}
use lib.ListN.{length, get_or, drop}
use borrow.Author.Rules.{rules}
use borrow.Author.Tests.{eq-eqb, ne_eqb}
use Rattle.std.specs.Prelude.{Option, None}
use Rattle.pbm.specs.Header.{sizes_in, header_in}
use Rattle.pbm.specs.inside.Places.{head_of}
use Rattle.pbm.specs.declared.header.Header.{Header}
use Rattle.pbm.proofs.header.read_header.Goals as goal

too_short : (file : List ℕ) → length file < 2 → None ≡ head_of file (header_in file)
unfolding header_in
too_short [] h = refl
too_short (p ∷ []) h = refl
too_short (p ∷ kind ∷ bs) h = absurd (omega arith)

no_magic : (file : List ℕ) → 2 ≤ length file → (get_or file 0 0 ≡ 80 → ⊥) → None ≡ head_of file (header_in file)
unfolding header_in
no_magic [] h e = refl
no_magic (p ∷ []) h e = refl
no_magic (p ∷ kind ∷ bs) h e = rw (ne_eqb p 80 e, header_in)

plain : (file : List ℕ) (r : Option Header) → 2 ≤ length file → get_or file 0 0 ≡ 80 → get_or file 1 0 ≡ 49
    → r ≡ head_of file (sizes_in true (drop 2 file)) → r ≡ head_of file (header_in file)
unfolding header_in
plain [] r h e f s = absurd (omega arith)
plain (p ∷ []) r h e f s = absurd (omega arith)
plain (p ∷ kind ∷ bs) r h e f s = rw (s, eq-eqb p 80 e, eq-eqb kind 49 f, header_in)

raw : (file : List ℕ) (r : Option Header) → 2 ≤ length file → get_or file 0 0 ≡ 80 → (get_or file 1 0 ≡ 49 → ⊥) → get_or file 1 0 ≡ 52
    → r ≡ head_of file (sizes_in false (drop 2 file)) → r ≡ head_of file (header_in file)
unfolding header_in
raw [] r h e n f s = absurd (omega arith)
raw (p ∷ []) r h e n f s = absurd (omega arith)
raw (p ∷ kind ∷ bs) r h e n f s = rw (s, eq-eqb p 80 e, ne_eqb kind 49 n, eq-eqb kind 52 f, header_in)

no_kind : (file : List ℕ) → 2 ≤ length file → get_or file 0 0 ≡ 80 → (get_or file 1 0 ≡ 49 → ⊥) → (get_or file 1 0 ≡ 52 → ⊥) → None ≡ head_of file (header_in file)
unfolding header_in
no_kind [] h e n m = refl
no_kind (p ∷ []) h e n m = refl
no_kind (p ∷ kind ∷ bs) h e n m = rw (eq-eqb p 80 e, ne_eqb kind 49 n, ne_eqb kind 52 m, header_in)

pub returns-in-80 : goal.returns-in-80
returns-in-80 c = search (plain, rules)

pub returns-in-80-2 : goal.returns-in-80-2
returns-in-80-2 c = search (raw, rules)

pub returns-in_default : goal.returns-in_default
returns-in_default c = search (too_short, rules)

pub returns-in_default-2 : goal.returns-in_default-2
returns-in_default-2 c = search (no_kind, rules)

pub returns-in_default-3 : goal.returns-in_default-3
returns-in_default-3 c = search (no_magic, rules)
