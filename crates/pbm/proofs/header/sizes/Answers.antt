-- The height is read at the place that the width's digits leave.
use Prim.Native.Nat.{ℕ, ◌-◌}
use mathlib.Core.Bool.{Bool}
use mathlib.Core.List.{List}
use mathlib.Core.Option.{Option as Maybe, some, none}
use mathlib.Core.Path.{◌≡◌, refl, sym, ap, ◌∙◌}
use lib.ListN.{length, drop}
use borrow.Author.Rules.{rules}
use Rattle.std.specs.Prelude.{Option, Some, None}
use Rattle.pbm.specs.Header.{Number, size_in, sizes_in}
use Rattle.pbm.specs.inside.Places.{size_at, size_of, head_of}
use Rattle.pbm.specs.declared.decimal.Size.{Size}
use Rattle.pbm.specs.declared.header.Header.{Header}
use Rattle.pbm.proofs.Left.{left_of_left, drop_left, left_place, size_left}
use Rattle.pbm.proofs.header.sizes.Goals as goal

-- a size that was read is one that stands there
record SizeFound (file : List ℕ) (o : Maybe Number) (size : Size) : Type 0 where
  number : Number
  is : o ≡ some number
  says : size ≡ size_at file number

size_found : (file : List ℕ) (o : Maybe Number) (size : Size) → Some size ≡ size_of file o → SizeFound file o size
size_found file none size e = absurd cc
size_found file (some n) size e = record { number = n; is = refl; says = cc }

missing : (file : List ℕ) (o : Maybe Number) → None ≡ size_of file o → o ≡ none
missing file none e = refl
missing file (some n) e = absurd cc

module _ (file : List ℕ) (plain : Bool) (a : Option Size) (first : a ≡ size_of file (size_in (drop 2 file))) where
  no_width : a ≡ None → (r : Option Header) → r ≡ None → r ≡ head_of file (sizes_in plain (drop 2 file))
  no_width e r f = rw (f, nothing)
    where
      nothing : sizes_in plain (drop 2 file) ≡ none
      nothing = unfold sizes_in in rw (missing file (size_in (drop 2 file)) (sym e ∙ first), sizes_in)

  module _ (width : Size) (is : a ≡ Some width) (b : Option Size) (second : b ≡ size_of file (size_in (drop width.end file))) where
    wide : SizeFound file (size_in (drop 2 file)) width
    wide = size_found file (size_in (drop 2 file)) width (sym is ∙ first)

    -- the second size is read from what is left behind the first
    then : b ≡ size_of file (size_in wide.number.rest)
    then =
        let k : drop (length file - length wide.number.rest) file ≡ wide.number.rest
        = left_place file wide.number.rest (left_of_left (drop_left 2 file) (size_left (drop 2 file) wide.number wide.is)) in
        second ∙ ap (λ (s : Size). size_of file (size_in (drop s.end file))) wide.says ∙ ap (λ (bs : List ℕ). size_of file (size_in bs)) k

    no_height : b ≡ None → (r : Option Header) → r ≡ None → r ≡ head_of file (sizes_in plain (drop 2 file))
    no_height e r f = rw (f, nothing)
      where
        nothing : sizes_in plain (drop 2 file) ≡ none
        nothing = unfold sizes_in in rw (wide.is, missing file (size_in wide.number.rest) (sym e ∙ then), sizes_in)

    both : (height : Size) → b ≡ Some height →
        ◌≡◌ {A = Option Header} (Some (record { plain = plain; chart = record { width = width.value; height = height.value }; end = height.end }))
        (head_of file (sizes_in plain (drop 2 file)))
    both height e =
        let tall : SizeFound file (size_in wide.number.rest) height = size_found file (size_in wide.number.rest) height (sym e ∙ then) in
        rw (wide.says, tall.says, found wide.number tall.number wide.is tall.is)
      where
        found : (n m : Number) → size_in (drop 2 file) ≡ some n → size_in n.rest ≡ some m →
            sizes_in plain (drop 2 file) ≡ some (record { plain = plain; chart = record { width = n.value; height = m.value }; rest = m.rest })
        found n m p q = unfold sizes_in in rw (p, q, sizes_in)

pub returns-in_err-width : goal.returns-in_err-width
returns-in_err-width c = search (no_width, rules)

pub returns-in_err-height : goal.returns-in_err-height
returns-in_err-height c = search (no_height, rules)

pub returns : goal.returns
returns c =
    both c.args.file.now c.args.plain c.read_size.result c.read_size.ensures c.in_ok-width.width c.in_ok-width.was c.read_size-2.result c.read_size-2.ensures
    c.in_ok-height.height c.in_ok-height.was
