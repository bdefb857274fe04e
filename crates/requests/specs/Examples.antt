-- Worked examples: antt computes each, so `refl` proves it.
use Rattle.std.specs.Prelude.{[], ◌∷◌, ◌≡◌, refl, pos, negsuc, Some, None}
use Rattle.laws.specs.Lists.{over}
use Rattle.requests.specs.Frame.{request_in}
use Rattle.requests.specs.Asked.{asked_of}
use Rattle.requests.specs.declared.Asked.TheVariants.{Numbers}

-- 04 0001 0001 ffff: the numbers of (1,-1)
one_point : asked_of (request_in (4 ∷ 0 ∷ 1 ∷ 0 ∷ 1 ∷ 255 ∷ 255 ∷ [])) (pos 9 ∷ pos 9 ∷ pos 9 ∷ []) ≡
    record { answer = Some (Numbers 2); out = pos 1 ∷ negsuc 0 ∷ pos 9 ∷ [] }
unfolding asked_of request_in over
one_point = refl

-- there is no room for it
no_room : asked_of (request_in (4 ∷ 0 ∷ 1 ∷ 0 ∷ 1 ∷ 255 ∷ 255 ∷ [])) (pos 9 ∷ []) ≡
    record { answer = None; out = pos 9 ∷ [] }
unfolding asked_of request_in over
no_room = refl

-- a byte too long
excess : asked_of (request_in (4 ∷ 0 ∷ 0 ∷ 0 ∷ [])) [] ≡ record { answer = None; out = [] }
unfolding asked_of request_in
excess = refl
