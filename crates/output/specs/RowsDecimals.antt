-- Decimals from the text to the whole output (requests L1 and L13).
use Rattle.std.specs.Prelude.{◌≡◌, refl, List, [], ◌∷◌, map}
use Rattle.words.specs.Text.{bytes}
use Rattle.output.specs.Rows.{Row, row_with, row, printed_for}

unfoldable pub decimals : List Row
unfolding row row_with
decimals =
    -- with its places, and no needless zero before the dot
    row "() 0.80"
    "accepted 0 0\n0.80\n" ∷
    row "() (quote (00.8 000.0 -0.0 012.3400 -0.5))"
    "accepted 0 0\n(quote (0.8 0.0 0.0 12.3400 -0.5))\n" ∷
    row "(f) (f -0.05 (quote 1.0))"
    "accepted 0 0\n(o0 -0.05 1.0)\n" ∷
    -- the ends of the range, without the dot
    row "() (quote (214748.3647 -214748.3648 21474836.47 -214748364.8))"
    "accepted 0 0\n(quote (214748.3647 -214748.3648 21474836.47 -214748364.8))\n" ∷
    row "() 214748.3648"
    "refused 4 0 0\n" ∷
    row "() 0.12345"
    "refused 3 0 0\n" ∷
    -- patterns match by value and places: 0.8 is not 0.80, nor 1.0 the integer 1
    row "(list) (let-syntax ((m (syntax-rules () ((_ 0.8) 1) ((_ 1) 2) ((_ 2.50) 3) ((_ x) 4)))) (list (m 0.80) (m 0.8000) (m 1.0) (m 1) (m 2.5) (m 0.08) (m 8)))"
    "accepted 7 7\n(o0 4 4 4 2 4 4 4)\n" ∷
    row "(list) (let-syntax ((m (syntax-rules () ((_ -0.0) 1) ((_ 0.8) 2) ((_ 0.80) 3) ((_ x) 4)))) (list (m 0.0) (m 00.8) (m 0.80) (m 0.800)))"
    "accepted 4 4\n(o0 1 2 3 4)\n" ∷
    row "(list) (let-syntax ((m (syntax-rules () ((_ -214748.3648) 1) ((_ x) 2)))) (list (m -214748.3648) (m -214748.3647)))"
    "accepted 2 2\n(o0 1 2)\n" ∷
    []

decimals-hold : map printed_for decimals ≡ map (λ r. bytes r.output) decimals
unfolding decimals printed_for bytes
decimals-hold = refl
