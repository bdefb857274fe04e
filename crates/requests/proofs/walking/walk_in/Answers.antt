-- The rows of a chart whose sides are numbers of two bytes are few enough.
use Rattle.std.proofs.Common.{◌≡◌, ℕ, ◌*◌, ◌≤◌, ◌<◌, List, get_or, Fits, w8, w64, arith, rules}
use native.Mathlib.Nat.{mul-le-mul}
use Rattle.chart.specs.Pixels.{row_bytes}
use Rattle.chart.specs.declared.Chart.{Chart}
use Rattle.requests.specs.Frame.{word_at, chart_in}
use Rattle.requests.proofs.walking.walk_in.Goals as goal

rows_fit : (f : List ℕ) (chart : Chart) (row : ℕ) → chart ≡ chart_in f → row ≡ row_bytes chart.width →
    ((k : ℕ) → Fits w8 (get_or f k 0)) → Fits w64 (row * chart.height)
unfolding row_bytes
rows_fit f chart row is row_is small =
    let wide : word_at f 2 < 65536 = omega (arith, small 2, small 3) in
    let high : word_at f 4 ≤ 65536 = omega (arith, small 4, small 5) in
    let few : row_bytes (word_at f 2) ≤ 8192 = omega arith in
    let all : row_bytes (word_at f 2) * word_at f 4 ≤ 8192 * 65536 = mul-le-mul few high in
    rw (row_is, is) (omega (arith, all))

pub overflow_mul-row_bytes : goal.overflow_mul-row_bytes
overflow_mul-row_bytes c = search (rows_fit, rules)
