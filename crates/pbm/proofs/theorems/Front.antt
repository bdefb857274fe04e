-- A read takes a front of a list of bytes and leaves the rest. `Front` says that, and that nothing else of the rest counts: where another
-- list stands in its place, that one is left. Assumes nothing.
use Prim.Native.Nat.{ℕ}
use mathlib.Core.Bool.{Bool, true}
use mathlib.Core.List.{List, [], ◌∷◌, ◌++◌, append_assoc}
use mathlib.Core.Path.{◌≡◌, refl, ap, ◌∙◌}

-- `read` takes a front of `bytes` and leaves `rest`; behind that front it answers `leaves other` for any other list that `fits` there
pub record Front {X : Type 0} (read leaves : List ℕ → X) (fits : List ℕ → Bool) (bytes rest : List ℕ) : Type 0 where
  pub front : List ℕ
  pub whole : front ++ rest ≡ bytes
  pub again : (other : List ℕ) → fits other ≡ true → read (front ++ other) ≡ leaves other

-- behind a front whose end does not hang on what follows
abbrev pub anything : List ℕ → Bool
anything other = true

-- nothing is taken
pub at_once : {X : Type 0} {read leaves : List ℕ → X} {fits : List ℕ → Bool} (bytes : List ℕ)
    → ((o : List ℕ) → fits o ≡ true → read o ≡ leaves o) → Front read leaves fits bytes bytes
at_once bytes same = record { front = []; whole = refl; again = same }

-- one byte more in front
pub longer : {X Y : Type 0} {read leaves : List ℕ → X} {fits : List ℕ → Bool} {bytes rest : List ℕ} (read' leaves' : List ℕ → Y) (b : ℕ)
    → Front read leaves fits bytes rest
    → ((l o : List ℕ) → read l ≡ leaves o → read' (b ∷ l) ≡ leaves' o)
    → Front read' leaves' fits (b ∷ bytes) rest
longer read' leaves' b f step = record {
  front = b ∷ f.front;
  whole = ap (λ (l : List ℕ). b ∷ l) f.whole;
  again = λ o h. step (f.front ++ o) o (f.again o h);
}

-- one read behind another: whatever the second can read fits behind the first
pub joined : {X Y Z : Type 0} {read leaves : List ℕ → X} {read' leaves' : List ℕ → Y} {fits fits' : List ℕ → Bool} {bytes rest last : List ℕ}
    (both left : List ℕ → Z)
    → Front read leaves fits bytes rest
    → Front read' leaves' fits' rest last
    → ((m o : List ℕ) → read' m ≡ leaves' o → fits m ≡ true)
    → ((l m o : List ℕ) → read l ≡ leaves m → read' m ≡ leaves' o → both l ≡ left o)
    → Front both left fits' bytes last
joined {last = last} both left f g fitting step = record {
  front = f.front ++ g.front;
  whole = append_assoc f.front g.front last ∙ ap (λ (l : List ℕ). f.front ++ l) g.whole ∙ f.whole;
  again = λ o h.
      let m = g.front ++ o in
      let second = g.again o h in
      let first = f.again m (fitting m o second) in
      ap both (append_assoc f.front g.front o) ∙ step (f.front ++ m) m o first second;
}
