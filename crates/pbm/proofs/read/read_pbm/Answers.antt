-- What was read of the header stands for it.
use Prim.Native.Nat.{ℕ, ◌-◌}
use mathlib.Core.List.{List}
use mathlib.Core.Option.{Option as Maybe, some, none}
use mathlib.Core.Path.{◌≡◌, refl, sym, ap, ◌∙◌}
use lib.ListN.{length, drop}
use borrow.Author.Rules.{rules}
use Rattle.std.specs.Prelude.{Option, Some, None}
use Rattle.point.specs.declared.refusal.Refusal.TheVariants.{BadPicture}
use Rattle.pbm.specs.Header.{Header, header_in}
use Rattle.pbm.specs.Read.{Reading, refused, read_behind, read_of}
use Rattle.pbm.specs.inside.Places.{cut, head_of, header_at}
use Rattle.pbm.specs.declared.header.Header as Read
use Rattle.pbm.proofs.Left.{left_place, header_left}
use Rattle.pbm.proofs.Outcomes.{no_header, a_header, cut_reads_same}
use Rattle.pbm.proofs.read.read_pbm.Goals as goal

-- the header that was read
record HeaderFound (file : List ℕ) (o : Maybe Header) (h : Read.Header) : Type 0 where
  header : Header
  is : o ≡ some header
  says : h ≡ record { plain = header.plain; chart = cut header.chart; end = length file - length header.rest }

header_found : (file : List ℕ) (o : Maybe Header) (h : Read.Header) → Some h ≡ head_of file o → HeaderFound file o h
header_found file none h e = absurd cc
header_found file (some header) h e = record { header = header; is = refl; says = cc }

missing : (file : List ℕ) (o : Maybe Header) → None ≡ head_of file o → o ≡ none
missing file none e = refl
missing file (some h) e = absurd cc

module _ (file pixels : List ℕ) (head : Option Read.Header) (says : head ≡ head_of file (header_in file)) where
  no_picture : head ≡ None → refused BadPicture pixels ≡ read_of file pixels
  no_picture e = no_header file pixels (missing file (header_in file) (sym e ∙ says))

  reads_on : (h : Read.Header) → head ≡ Some h → (o : Reading) → o ≡ read_behind file (header_at file h) pixels → o ≡ read_of file pixels
  reads_on h e o r =
      let f : HeaderFound file (header_in file) h = header_found file (header_in file) h (sym e ∙ says) in
      let k : drop (length file - length f.header.rest) file ≡ f.header.rest
      = left_place file f.header.rest (header_left file f.header f.is) in
      r
      ∙ ap (λ (g : Read.Header). read_behind file (header_at file g) pixels) f.says
      ∙ ap (λ (rest : List ℕ). read_behind file (record { plain = f.header.plain; chart = cut f.header.chart; rest = rest }) pixels) k
      ∙ cut_reads_same file pixels f.header.plain f.header.chart f.header.rest
      ∙ a_header file pixels f.header f.is

ruleset laws = (no_picture, reads_on, rules)

pub returns-in_err-head : goal.returns-in_err-head
returns-in_err-head c = search laws

pub returns : goal.returns
returns c = search laws
