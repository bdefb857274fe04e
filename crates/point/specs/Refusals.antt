-- Document 01, "Numbers handed back": the refusals and their numbers, and how a call lists the tests that lead to them.
use Rattle.std.specs.Prelude.{ℕ, Bool, true, false, Result, Ok, Err}
use Rattle.std.proofs.Math.Option.{Option, some}
use Rattle.point.specs.declared.refusal.Refusal.{Refusal}
use Rattle.point.specs.declared.refusal.Refusal.TheVariants.{BadSize, TooMany, BadPoint, TooFew, BadTolerance, BadFlags, BadSettings, NoWay, Stuck, NoRoom, BadFrame, BadPicture}

-- the number of a refusal
abbrev pub refusal_number : Refusal → ℕ
refusal_number BadSize = 1
refusal_number TooMany = 2
refusal_number BadPoint = 3
refusal_number TooFew = 4
refusal_number BadTolerance = 5
refusal_number BadFlags = 6
refusal_number BadSettings = 7
refusal_number NoWay = 8
refusal_number Stuck = 9
refusal_number NoRoom = 10
refusal_number BadFrame = 11
refusal_number BadPicture = 12

-- the number of an answer: "0 Done"
abbrev pub number_of : {A : Type 0} → Result A Refusal → ℕ
number_of (Ok x) = 0
number_of (Err r) = refusal_number r

-- how many points an answer says were written: "a refusal has count 0"
abbrev pub count_of : Result ℕ Refusal → ℕ
count_of (Ok n) = n
count_of (Err r) = 0

-- "The lowest that applies is given": a call lists its tests, the lowest refusal first, and ends the list with `none`.
infixr 5 refuse◌when◌or◌
abbrev pub refuse◌when◌or◌ : Refusal → Bool → Option Refusal → Option Refusal
refuse r when true or rest = some r
refuse r when false or rest = rest
