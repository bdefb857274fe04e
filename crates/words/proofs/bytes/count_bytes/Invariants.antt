-- All are digits, if those that are left are.
use Rattle.std.proofs.Common.{◌≡◌, ◌%◌, length}
use Rattle.std.specs.Option.{is_some}
use Rattle.std.specs.Slice.Iter.{chunks_exact_rest, chunks_exact_size}
use Rattle.words.specs.Bytes.{bytes_of}
use Rattle.words.proofs.bytes.count_bytes.Given as goal

abbrev pub invariant-loop-digits : goal.invariant-loop-digits
invariant-loop-digits l =
    (chunks_exact_size l.digits-iterator ≡ 2) × (length (chunks_exact_rest l.digits-iterator) % 2 ≡ 0)
    × (is_some (bytes_of l.word) ≡ is_some (bytes_of (chunks_exact_rest l.digits-iterator)))
