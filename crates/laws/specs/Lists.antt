-- A list laid over the start of a lent buffer: "Places past the answer hold theirs".
use Rattle.std.specs.Prelude.{List, ◌++◌, length, drop}

module _ {ℓ} {A : Type ℓ} where
  unfoldable pub over : List A → List A → List A
  over xs old = xs ++ drop (length xs) old
