-- What follows of the contracts, for their readers and their callers. Assumes nothing.
use Prim.Native.Nat.{ℕ, ◌≤◌}
use mathlib.Core.Bool.{Bool}
use mathlib.Core.List.{List}
use Rattle.std.specs.Prelude.{Option, Some, None, ℤ}
use mathlib.Core.Path.{◌≡◌, sym, ap, ◌∙◌}
use native.Mathlib.Omega.{arith}
use lib.Dec.{leb}
use lib.ListN.{length}
use borrow.Author.Tests.{leb-true}
use Rattle.laws.proofs.Determined.{Determined, same}
use Rattle.laws.proofs.If.{if_cases}
use Rattle.words.specs.Line.{first_from, words_of, word_of}
use Rattle.words.specs.Digits.{digit_of}
use Rattle.words.specs.Hexadecimal.{hex_of, pattern_of}
use Rattle.words.specs.Decimal.{integer_of, natural_of}
use Rattle.words.specs.Bytes.{Stored, is_dash, bytes_of, pairs_of, read_into}
use Rattle.words.proofs.line.find.Reads.{Post as Find}
use Rattle.words.proofs.line.words.Reads.{Post as Words}
use Rattle.words.proofs.line.word.Reads.{Post as Word}
use Rattle.words.proofs.digits.digit.Reads.{Post as Digit}
use Rattle.words.proofs.hexadecimal.read_hex.Reads.{Post as ReadHex}
use Rattle.words.proofs.hexadecimal.read_pattern.Reads.{Post as ReadPattern}
use Rattle.words.proofs.decimal.read_natural.Reads.{Post as ReadNatural}
use Rattle.words.proofs.decimal.read_integer.Reads.{Post as ReadInteger}
use Rattle.words.proofs.bytes.is_dash.Reads.{Post as IsDash}
use Rattle.words.proofs.bytes.read_bytes.Reads.{Post as ReadBytes}
use Rattle.words.proofs.bytes.read_pairs.Reads.{Post as ReadPairs}

-- Each contract leaves no choice: of equal arguments it allows one result, and one last content of the buffer. `Post` is the contract itself, as
-- Rattle reads it off the source.

pub find_determined : Determined (List ℕ × ℕ × ℕ) ℕ Find (λ _ a. (a.0.now, a.1.0, a.1.1.0)) (λ _ r s. r)
find_determined = same (λ x. first_from x.1 x.2 x.0) (λ _ a r s p. p)

pub words_determined : Determined (List ℕ) ℕ Words (λ _ a. a.0.now) (λ _ r s. r)
words_determined = same (λ line. length (words_of line)) (λ _ a r s p. p)

pub word_determined : Determined (List ℕ × ℕ) (List ℕ) Word (λ _ a. (a.0.now, a.1.0)) (λ _ r s. r.now)
word_determined = same (λ x. word_of x.0 x.1) (λ _ a r s p. p)

pub digit_determined : Determined ℕ (Option ℕ) Digit (λ _ a. a.0) (λ _ r s. r)
digit_determined = same digit_of (λ _ a r s p. p)

pub read_hex_determined : Determined (List ℕ) (Option ℕ) ReadHex (λ _ a. a.0.now) (λ _ r s. r)
read_hex_determined = same hex_of (λ _ a r s p. p)

pub read_pattern_determined : Determined (List ℕ) (Option ℕ) ReadPattern (λ _ a. a.0.now) (λ _ r s. r)
read_pattern_determined = same pattern_of (λ _ a r s p. p)

pub read_natural_determined : Determined (List ℕ) (Option ℕ) ReadNatural (λ _ a. a.0.now) (λ _ r s. r)
read_natural_determined = same natural_of (λ _ a r s p. p)

pub read_integer_determined : Determined (List ℕ) (Option ℤ) ReadInteger (λ _ a. a.0.now) (λ _ r s. r)
read_integer_determined = same integer_of (λ _ a r s p. p)

pub is_dash_determined : Determined (List ℕ) Bool IsDash (λ _ a. a.0.now) (λ _ r s. r)
is_dash_determined = same is_dash (λ _ a r s p. p)

pub read_bytes_determined : Determined (List ℕ × List ℕ) Stored ReadBytes (λ _ a. (a.0.now, a.1.0.now)) (λ _ r s. record { answer = r; out = s.1.0.now })
read_bytes_determined = same (λ x. read_into (bytes_of x.0) x.1) (λ _ a r s p. p)

pub read_pairs_determined : Determined (List ℕ × List ℕ) Stored ReadPairs (λ _ a. (a.0.now, a.1.0.now)) (λ _ r s. record { answer = r; out = s.1.0.now })
read_pairs_determined = same (λ x. read_into (pairs_of x.0) x.1) (λ _ a r s p. p)

-- What is read fits the buffer.
fits : (xs : Option (List ℕ)) (to : List ℕ) (n : ℕ) → (read_into xs to).answer ≡ Some n → n ≤ length to
fits None to n = λ e. cc
fits (Some xs) to n =
    if_cases (λ (o : Stored). o.answer ≡ Some n → n ≤ length to) (leb (length xs) (length to)) _ _
    (λ t e. let k : n ≡ length xs = cc in omega (arith, leb-true (length xs) (length to) t))
    (λ t e. cc)

-- What is read fits the buffer, as a caller has it at hand: of the answer `r` and the buffer's last content.
pub read_fits : (xs : Option (List ℕ)) (to last : List ℕ) (r : Option ℕ) (n : ℕ) →
    record { answer = r; out = last } ≡ read_into xs to → r ≡ Some n → length last ≡ length to → n ≤ length last
read_fits xs to last r n e is kept = rw kept (fits xs to n (sym (ap (λ (o : Stored). o.answer) e) ∙ is))
