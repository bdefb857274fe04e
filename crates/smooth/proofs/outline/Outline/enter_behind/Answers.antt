-- Behind a point stands the next, behind the last of a closed list the first, and behind that of an open one none.
use Rattle.std.proofs.Common.{◌≡◌, sym, ◌∙◌, ℕ, suc, ◌+◌, ◌<◌, ◌≤◌, Bool, true, false, List, arith, add-one}
use lib.Ieee.{Float}
use borrow.Author.Tests.{eq-eqb, ne_eqb}
use Rattle.std.specs.Prelude.{None}
use Rattle.smooth.specs.declared.scheme.Settings.{Settings}
use Rattle.smooth.specs.Segments.{entering, entering_behind}
use Rattle.smooth.proofs.outline.Outline.enter_behind.Goals as goal

module _ (list : List Float) (corners : List ℕ) (settings : Settings) (m i : ℕ) where
  next : (closed : Bool) → i + 1 < m → entering_behind list corners settings closed m i ≡ entering list corners settings closed m i (i + 1)
  unfolding entering_behind
  next true h = let n : suc i ≡ m → ⊥ = λ e. omega arith in rw (ne_eqb (suc i) m n, add-one i)
  next false h = let n : suc i ≡ m → ⊥ = λ e. omega arith in rw (ne_eqb (suc i) m n, add-one i)

  module _ (closed : Bool) (h : i < m) (k : m ≤ i + 1) where
    first : closed ≡ true → entering_behind list corners settings closed m i ≡ entering list corners settings closed m i 0
    unfolding entering_behind
    first c = let e : suc i ≡ m = omega arith in rw (c, eq-eqb (suc i) m e)

    last : closed ≡ false → None ≡ entering_behind list corners settings closed m i
    unfolding entering_behind
    last c = let e : suc i ≡ m = omega arith in rw (c, eq-eqb (suc i) m e)

pub returns-then-i-self : goal.returns-then-i-self
returns-then-i-self c = c.enter.ensures ∙ sym (next _ _ _ _ _ _ c.if-i-self.true)

pub returns-then-self : goal.returns-then-self
returns-then-self c = c.enter-then-self.ensures ∙ sym (first _ _ _ _ _ _ c.requires c.if-i-self.false c.if-self.true)

pub returns : goal.returns
returns c = last _ _ _ _ _ _ c.requires c.if-i-self.false c.if-self.false
