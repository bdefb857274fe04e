-- What the marks and the numbers of a list have in common. A pass is what is known of the splits around a span.
use Rattle.std.specs.Prelude.{ℕ, suc, ◌-◌, ◌<◌, Bool, true, false, List, ◌∷◌, ◌++◌, ◌≡◌, ℤ, Float, length, replicate, if◌then◌else◌}
use Rattle.std.specs.Float.Ieee.{lt}
use Rattle.laws.specs.Least.{least}
use Rattle.laws.specs.Outcome.{Outcome}
use Rattle.split.specs.Buffers.{laid}
use Rattle.split.specs.declared.marks.Marking.{Marking}
use Rattle.split.specs.declared.numbers.Numbering.{Numbering}
use Rattle.split.specs.Distance.{zero64}
use Rattle.split.specs.Farthest.{farthest}
use Rattle.split.specs.Tree.{Tree, node, framed, span_tree, tree, size, cut, down}
use Rattle.split.specs.Visits.{visits, nonzero, unfit}
use Rattle.split.specs.inside.Spans.{Distance, Square}

-- P is a pass, and C is what one place of the buffer holds
pub record Rules (P C : Type 0) : Type 1 where
  -- what the ends have of a span that a pass is around, and what is known of it
  pub cell : P → C
  pub Good : C → Type 0
  -- whether a span with this greatest distance is split, and what is then around its parts
  pub splits : P → Float → Bool
  pub within : P → Float → P
  -- what is around a span, by what its ends have
  pub between : P → C → C → P
  -- what each place has inside a span that is not split
  pub rest : C
  -- what the interior of a span comes to, by its tree
  pub values : P → Tree → List C

abbrev pub marking : Rules Marking ℕ
marking = record {
  cell = λ p. 1;
  Good = λ m. Unit {0};
  splits = λ p d. lt p.tolerance d;
  within = λ p d. p;
  between = λ p first last. p;
  rest = 0;
  values = λ p t. cut p.tolerance t;
}

abbrev pub numbering : Rules Numbering Float
numbering = record {
  cell = λ p. p.around;
  Good = Distance;
  splits = λ p d. nonzero d;
  within = λ p d. record { around = least p.around d };
  between = λ p first last. record { around = least first last };
  rest = zero64;
  values = λ p t. down p.around t;
}

-- what a walk of the tree asks of a pass
pub record Laws {P C : Type 0} (r : Rules P C) : Type 0 where
  -- one value for each split
  pub sized : (p : P) (t : Tree) → length (r.values p t) ≡ size t
  -- of a span that is split, and of one that is not
  pub of_split : (p : P) (k : ℕ) (d : Float) (below above : Tree) → r.splits p d ≡ true
      → r.values p (node k d below above) ≡ r.values (r.within p d) below ++ (r.cell (r.within p d) ∷ r.values (r.within p d) above)
  pub of_whole : (p : P) (points : List ℤ) (first last : ℕ) → suc first < last → r.Good (r.cell p)
      → r.splits p (farthest points first last).distance ≡ false
      → r.values p (span_tree points first last) ≡ replicate (last - suc first) r.rest
  pub within_good : (p : P) (d : Float) → Square d → r.Good (r.cell p) → r.Good (r.cell (r.within p d))
  -- the ends of a whole list have what is around it
  pub between_same : (p : P) → r.Good (r.cell p) → r.between p (r.cell p) (r.cell p) ≡ p
  pub between_good : (p : P) (x y : C) → r.Good x → r.Good y → r.Good (r.cell (r.between p x y))
  pub between_splits : (p : P) (x y : C) (d : Float) → r.splits (r.between p x y) d ≡ r.splits p d
  -- what is around a part can be read off the split and an end of the whole
  pub between_first : (p : P) (x y : C) (d : Float) → r.Good x → r.Good y → Square d
      → r.between p x (r.cell (r.within (r.between p x y) d)) ≡ r.within (r.between p x y) d
  pub between_last : (p : P) (x y : C) (d : Float) → r.Good x → r.Good y → Square d
      → r.between p (r.cell (r.within (r.between p x y) d)) y ≡ r.within (r.between p x y) d

-- what a walk asks of the pass that it begins with
pub record Lawful {P C : Type 0} (r : Rules P C) (p : P) : Type 0 where
  pub laws : Laws r
  pub good : r.Good (r.cell p)

-- what a whole list comes to
abbrev pub whole : {P C : Type 0} → Rules P C → P → List ℤ → List C
whole r p points = framed points (r.cell p) (r.values p (tree points))

-- what a pass answers that keeps spans waiting, and what it leaves in the buffer: `counted_marks` and `counted_numbers` are of this shape
unfoldable pub counted_over : {A : Type 0} → (Float → Bool) → List ℤ → List A → List A → Outcome ℕ (List A)
unfolding visits tree
counted_over splits points new old =
    if unfit points old then record { answer = 0; out = old } else
    record { answer = visits splits (tree points); out = laid points new old }
