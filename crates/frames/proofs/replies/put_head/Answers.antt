-- Three texts, one behind the other. Assumes nothing.
use Rattle.std.proofs.Common.{◌≡◌, ℕ, ◌+◌, ◌≤◌, List, ◌++◌, length, arith}
use lib.ListN.{length-append}
use Rattle.texts.specs.Put.{put}
use Rattle.texts.specs.Text.{hex_text}
use Rattle.texts.proofs.Pieces.{put_then}
use Rattle.frames.specs.Replies.{head}
use Rattle.frames.proofs.Sizes.{length_hex, length_head}
use Rattle.frames.proofs.replies.put_head.Goals as goal

three : (kind number count k l at m n r : ℕ) (out one two last : List ℕ) → k ≡ kind → l ≡ number → at + 8 ≤ length out →
    record { answer = m; out = one } ≡ put (hex_text 2 (k + 128)) out at →
    record { answer = n; out = two } ≡ put (hex_text 2 l) one m →
    record { answer = r; out = last } ≡ put (hex_text 4 count) two n →
    record { answer = r; out = last } ≡ put (head kind number count) out at
three kind number count k l at m n r out one two last a b h e f g =
    let first = put_then (hex_text 2 (kind + 128)) (hex_text 2 number) out one two at m n
    (omega (arith, length-append (hex_text 2 (kind + 128)) (hex_text 2 number), length_hex 2 (kind + 128), length_hex 2 number))
    (rw a at e) (rw b at f) in
    put_then (hex_text 2 (kind + 128) ++ hex_text 2 number) (hex_text 4 count) out two last at n r
    (omega (arith, length_head kind number count)) first g

pub returns-clause-put : goal.returns-clause-put
returns-clause-put c =
    three _ _ _ _ _ _ _ _ _ _ _ _ _ c.from.ensures c.from-2.ensures c.requires c.put_hex.ensures.put c.put_hex-2.ensures.put c.put_hex-3.ensures.put
