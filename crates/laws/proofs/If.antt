-- A choice by a test, to be read as one.
use mathlib.Core.Bool.{Bool, true, false}
use mathlib.Core.Path.{◌≡◌, refl}
use Rattle.std.specs.Prelude.{if◌then◌else◌}

-- what holds of both sides, each where its test leads to it, holds of the choice
pub if_cases : {A : Type 0} (P : A → Type 0) (t : Bool) (a b : A) → (t ≡ true → P a) → (t ≡ false → P b) → P (if t then a else b)
if_cases P true a b p q = p refl
if_cases P false a b p q = q refl
