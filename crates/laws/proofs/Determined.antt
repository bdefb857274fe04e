-- A contract that is one equation leaves no choice: of equal arguments it allows one result, and one last content of every lent buffer.
use mathlib.Core.Path.{◌≡◌, sym, ap, ◌∙◌}

-- `Post` is a contract, as Rattle reads it off the source, at arguments `a`, a result `r` and parameters at exit `s`. Where it reads the same of
-- two calls' arguments, `given`, they tell the same: `told` is the result with the last contents of all that was lent.
abbrev pub Determined : {K : Type 0} {A R S : K → Type 0} (X Y : Type 0) (Post : (κs : K) → A κs → R κs → S κs → Type 0) →
    ((κs : K) → A κs → X) → ((κs : K) → R κs → S κs → Y) → Type 0
Determined {K} {A} {R} {S} X Y Post given told =
    (κs : K) (a a' : A κs) (r r' : R κs) (s s' : S κs) → Post κs a r s → Post κs a' r' s' → given κs a ≡ given κs a' → told κs r s ≡ told κs r' s'

-- a contract that says what is told by a function of what is given
pub same : {K : Type 0} {A R S : K → Type 0} {X Y : Type 0} {Post : (κs : K) → A κs → R κs → S κs → Type 0} {given : (κs : K) → A κs → X}
    {told : (κs : K) → R κs → S κs → Y} (f : X → Y) → ((κs : K) (a : A κs) (r : R κs) (s : S κs) → Post κs a r s → told κs r s ≡ f (given κs a)) →
    Determined X Y Post given told
same f is κs a a' r r' s s' p q e = is κs a r s p ∙ ap f e ∙ sym (is κs a' r' s' q)
