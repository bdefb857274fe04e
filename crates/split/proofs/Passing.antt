-- What any pass over a list of points leaves, by its laws. What is stored over a span is what its tree comes to: where nothing is inside, where the
-- span is not split, and by the stores of the two parts; these may come in either order, since what is around a part is read off its ends.
-- Assumes nothing.
use Prim.Native.Nat.{ℕ, suc, ◌+◌, ◌-◌, ◌≤◌, ◌<◌}
use mathlib.Core.Bool.{true, false}
use mathlib.Core.List.{List, [], ◌∷◌, ◌++◌}
use mathlib.Core.Path.{◌≡◌, refl, sym, ap, ap₂, subst, ◌∙◌}
use native.Mathlib.Numerals.{add-one}
use native.Mathlib.Omega.{arith}
use lib.IntN.{ℤ}
use lib.ListN.{length, get_or, set, replicate, length-set}
use lib.Seq.{sets, length-sets, get_or-set_same, get_or-set_other}
use borrow.Rule.Slice.PartMut.{mid_of, put_mid}
use Rattle.split.specs.declared.farthest.Far.{Far}
use Rattle.split.specs.inside.Passes.{Rules, Laws, Lawful}
use Rattle.split.specs.inside.Spans.{Square, FoundInside}
use Rattle.split.specs.Tree.{leaf, span_tree, size}
use Rattle.split.proofs.Apart.{first_part_first, last_part_first, get_d_before, get_d_behind}
use Rattle.split.proofs.Signs.{reach_square}
use Rattle.split.proofs.Stores.{part_filled, spans_stored}
use Rattle.split.proofs.Trees.{span_size, split_tree, tree_none}
use Rattle.split.proofs.Turns.{worked, Parted}

none_of_length : {A : Type 0} (xs : List A) → length xs ≡ 0 → xs ≡ []
none_of_length [] e = refl
none_of_length (x ∷ xs) e = absurd (omega arith)

-- ---- what is around a span, read off its ends

module _ {P C : Type 0} (r : Rules P C) (p : P) where
  -- what stands at a place
  abbrev pub at : List C → ℕ → C
  at m i = get_or m i (r.cell p)

  abbrev pub around : List C → ℕ → ℕ → P
  around m f l = r.between p (at m f) (at m l)

  abbrev pub piece : List ℤ → List C → ℕ → ℕ → List C
  piece points m f l = r.values (around m f l) (span_tree points f l)

  -- what is known of both
  pub record Ends (m : List C) (f l : ℕ) : Type 0 where
    pub first_end : r.Good (at m f)
    pub last_end : r.Good (at m l)
    pub in_buffer : l < length m

-- ---- what is stored

module _ {P C : Type 0} (r : Rules P C) (laws : Laws r) where
  pub no_values : (p : P) → r.values p leaf ≡ []
  no_values p = none_of_length (r.values p leaf) (laws.sized p leaf ∙ (unfold size in refl))

  module _ (points : List ℤ) where
    span_values : (p : P) (first last : ℕ) → length (r.values p (span_tree points first last)) ≡ last - suc first
    span_values p first last = laws.sized p (span_tree points first last) ∙ span_size points first last

    pub nothing_put : (p : P) (first last : ℕ) (m : List C) → last ≤ first + 1 → m ≡ sets m (first + 1) (r.values p (span_tree points first last))
    nothing_put p first last m h =
        let k : last ≤ suc first = omega arith in
        ap (λ (vs : List C). sets m (first + 1) vs) (sym (ap (r.values p) (tree_none points (last - first) first last k) ∙ no_values p))

    module _ (p : P) (first last : ℕ) (far : Far) (f : FoundInside points first last far) where
      distant : Square far.distance
      distant = subst (λ (b : Far). Square b.distance) (sym f.is) (reach_square points first last)

      -- what is around the two parts
      inside_good : (q : P) → r.Good (r.cell p) → q ≡ r.within p far.distance → r.Good (r.cell q)
      inside_good q g e = subst (λ (o : P). r.Good (r.cell o)) (sym e) (laws.within_good p far.distance distant g)

      pub inside_lawful : (q : P) → r.Good (r.cell p) → q ≡ r.within p far.distance → Lawful r q
      inside_lawful q g e = record { laws = laws; good = inside_good q g e }

      module _ (o : first + 1 < last) where
        pub rest_put : (m ys : List C) → r.Good (r.cell p) → r.splits p far.distance ≡ false → ys ≡ replicate (length (mid_of (first + 1) (last - (first + 1)) m)) r.rest
            → last ≤ length m → put_mid (first + 1) (last - (first + 1)) m ys ≡ sets m (first + 1) (r.values p (span_tree points first last))
        rest_put m ys g e h n =
            let k : suc first < last = omega arith in
            part_filled m ys (first + 1) last r.rest h (omega arith) n
            ∙ ap (λ (vs : List C). sets m (first + 1) vs)
            (ap (λ (j : ℕ). replicate (last - j) r.rest) (add-one first) ∙ sym (laws.of_whole p points first last k g (subst (λ (b : Far). r.splits p b.distance ≡ false) f.is e)))

        pub both_put : (q : P) (v : C) (m m₁ m₂ : List C) → r.splits p far.distance ≡ true → q ≡ r.within p far.distance → v ≡ r.cell q
            → m₁ ≡ sets m (first + 1) (r.values q (span_tree points first far.index))
            → m₂ ≡ sets (set m₁ far.index v) (far.index + 1) (r.values q (span_tree points far.index last))
            → m₂ ≡ sets m (first + 1) (r.values p (span_tree points first last))
        both_put q v m m₁ m₂ e w c h g =
            let k : suc first < last = omega arith in
            let z : first + 1 + length (r.values q (span_tree points first far.index)) ≡ far.index = omega (arith, span_values q first far.index, f.after_first) in
            g ∙ spans_stored m m₁ (first + 1) far.index (r.values q (span_tree points first far.index)) v (r.values q (span_tree points far.index last)) h z
            ∙ ap (λ (vs : List C). sets m (first + 1) vs)
            (ap (λ (x : C). r.values q (span_tree points first far.index) ++ (x ∷ r.values q (span_tree points far.index last))) c
            ∙ ap (λ (o : P). r.values o (span_tree points first far.index) ++ (r.cell o ∷ r.values o (span_tree points far.index last))) w
            ∙ sym (laws.of_split p far.index far.distance _ _ e) ∙ ap (r.values p) (sym (split_tree points first last far k f.is)))

    -- ---- the same, with what is around a span read off its ends

    module _ (p : P) where
      pub nothing_worked : (m : List C) (f l : ℕ) → l ≤ f + 1 → m ≡ worked (piece r p points) m f l
      nothing_worked m f l h = nothing_put (around r p m f l) f l m h

      -- the ends of a list have what is around it
      module _ (m : List C) (end : ℕ) (g : r.Good (r.cell p)) (a : at r p m 0 ≡ r.cell p) (b : at r p m end ≡ r.cell p) where
        pub whole_ends : end < length m → Ends r p m 0 end
        whole_ends h = record { first_end = subst r.Good (sym a) g; last_end = subst r.Good (sym b) g; in_buffer = h }

        pub around_whole : around r p m 0 end ≡ p
        around_whole = ap₂ (r.between p) a b ∙ laws.between_same p g

      module _ (m : List C) (f l : ℕ) (g : Ends r p m f l) (far : Far) (d : FoundInside points f l far) (o : f + 1 < l) where
        pub around_good : r.Good (r.cell (around r p m f l))
        around_good = laws.between_good p (at r p m f) (at r p m l) g.first_end g.last_end

        pub whole_worked : (ys : List C) → r.splits p far.distance ≡ false → ys ≡ replicate (length (mid_of (f + 1) (l - (f + 1)) m)) r.rest
            → put_mid (f + 1) (l - (f + 1)) m ys ≡ worked (piece r p points) m f l
        whole_worked ys e h =
            rest_put (around r p m f l) f l far d o m ys around_good (laws.between_splits p (at r p m f) (at r p m l) far.distance ∙ e) h (omega (arith, g.in_buffer))

        module _ (e : r.splits p far.distance ≡ true) (v : C) (c : v ≡ r.cell (r.within (around r p m f l) far.distance)) where
          abbrev i : ℕ
          i = far.index

          abbrev x : C
          x = at r p m f

          abbrev y : C
          y = at r p m l

          -- what is around the two parts
          abbrev q : P
          q = r.within (around r p m f l) far.distance

          inside : r.Good v
          inside = subst r.Good (sym c) (laws.within_good (around r p m f l) far.distance (distant p f l far d) around_good)

          abbrev below : List C
          below = r.values q (span_tree points f i)

          abbrev above : List C
          above = r.values q (span_tree points i l)

          reaches : f + 1 + length below ≡ i
          reaches = omega (arith, span_values q f i, d.after_first)

          abbrev stored : List C
          stored = set m i v

          stored_first : at r p stored f ≡ x
          stored_first = get_or-set_other m i f v (r.cell p) (λ z. omega (arith, d.after_first))

          stored_last : at r p stored l ≡ y
          stored_last = get_or-set_other m i l v (r.cell p) (λ z. omega (arith, d.before_last))

          stored_split : at r p stored i ≡ v
          stored_split = get_or-set_same m i v (r.cell p) (omega (arith, d.before_last, g.in_buffer))

          first_around : (n : List C) → at r p n f ≡ x → at r p n i ≡ v → around r p n f i ≡ q
          first_around n a b = ap₂ (r.between p) a (b ∙ c) ∙ laws.between_first p x y far.distance g.first_end g.last_end (distant p f l far d)

          last_around : (n : List C) → at r p n i ≡ v → at r p n l ≡ y → around r p n i l ≡ q
          last_around n a b = ap₂ (r.between p) (a ∙ c) b ∙ laws.between_last p x y far.distance g.first_end g.last_end (distant p f l far d)

          first_worked : (n : List C) → at r p n f ≡ x → at r p n i ≡ v → worked (piece r p points) n f i ≡ sets n (f + 1) below
          first_worked n a b = ap (λ (o : P). sets n (f + 1) (r.values o (span_tree points f i))) (first_around n a b)

          last_worked : (n : List C) → at r p n i ≡ v → at r p n l ≡ y → worked (piece r p points) n i l ≡ sets n (i + 1) above
          last_worked n a b = ap (λ (o : P). sets n (i + 1) (r.values o (span_tree points i l))) (last_around n a b)

          both_ends : (n : List C) (a b : ℕ) (s t : C) → at r p n a ≡ s → at r p n b ≡ t → r.Good s → r.Good t → b < length n → Ends r p n a b
          both_ends n a b s t j k u w h = record { first_end = subst r.Good (sym j) u; last_end = subst r.Good (sym k) w; in_buffer = h }

          -- the part before the split first, and then the one behind it
          abbrev after_first : List C
          after_first = worked (piece r p points) stored f i

          after_first_is : after_first ≡ sets stored (f + 1) below
          after_first_is = first_worked stored stored_first stored_split

          after_first_split : at r p after_first i ≡ v
          after_first_split = ap (λ (n : List C). at r p n i) after_first_is ∙ get_d_behind stored (f + 1) below i (r.cell p) (omega (arith, reaches)) ∙ stored_split

          after_first_last : at r p after_first l ≡ y
          after_first_last = ap (λ (n : List C). at r p n l) after_first_is ∙ get_d_behind stored (f + 1) below l (r.cell p) (omega (arith, reaches, d.before_last)) ∙ stored_last

          -- the part behind the split first, and then the one before it
          abbrev after_last : List C
          after_last = worked (piece r p points) stored i l

          after_last_is : after_last ≡ sets stored (i + 1) above
          after_last_is = last_worked stored stored_split stored_last

          after_last_first : at r p after_last f ≡ x
          after_last_first = ap (λ (n : List C). at r p n f) after_last_is ∙ get_d_before stored (i + 1) above f (r.cell p) (omega (arith, d.after_first)) ∙ stored_first

          after_last_split : at r p after_last i ≡ v
          after_last_split = ap (λ (n : List C). at r p n i) after_last_is ∙ get_d_before stored (i + 1) above i (r.cell p) (omega arith) ∙ stored_split

          whole : sets (set (sets m (f + 1) below) i v) (i + 1) above ≡ worked (piece r p points) m f l
          whole = both_put (around r p m f l) f l far d o q v m _ _ (laws.between_splits p x y far.distance ∙ e) refl c refl refl

          pub parted : Parted (Ends r p) (piece r p points) m f i l v
          parted = record {
            first_good = both_ends stored f i x v stored_first stored_split g.first_end inside (simp length-set (omega (arith, d.before_last, g.in_buffer)));
            then_last_good =
                both_ends after_first i l v y after_first_split after_first_last inside g.last_end (simp (length-sets, length-set) g.in_buffer);
            first_first =
                last_worked after_first after_first_split after_first_last ∙ ap (λ (n : List C). sets n (i + 1) above) after_first_is
                ∙ first_part_first m f i below v above reaches ∙ whole;
            last_good = both_ends stored i l v y stored_split stored_last inside g.last_end (simp length-set g.in_buffer);
            then_first_good =
                both_ends after_last f i x v after_last_first after_last_split g.first_end inside (simp (length-sets, length-set) (omega (arith, d.before_last, g.in_buffer)));
            last_first =
                first_worked after_last after_last_first after_last_split ∙ ap (λ (n : List C). sets n (f + 1) below) after_last_is
                ∙ last_part_first m f i below v above reaches ∙ whole;
          }
