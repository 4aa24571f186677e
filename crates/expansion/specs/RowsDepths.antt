-- Known answers to request L2, D1 to D15: variables under more ellipses of the template than of the pattern. All of them were refused
-- before; the recipes of document 01 were answered as now, and the claim is tried on one.
use Rattle.std.specs.Prelude.{◌≡◌, List, [], ◌∷◌, ℕ}
use Prim.Native.String.{String}
use Rattle.words.specs.Text.{bytes}
use Rattle.recipe.specs.Table.{tree_of}
use Rattle.reading.specs.Read.{recipe_of}
use Rattle.expansion.specs.Run.{Run, core_of, ended}
use Rattle.expansion.specs.Computed.{computed}
use Rattle.expansion.specs.Row.{Row, gives, refuses, with_fuel, items_of}
use Rattle.expansion.specs.Depths.{exactly_in, are_exact, expand_before, expand_recipe_before}

unfoldable pub depths : List Row
unfolding gives refuses with_fuel
depths =
    -- D1: years beside each list of coins: of two ellipses, the inner goes along the years
    gives "(list) (let-syntax ((m (syntax-rules () ((_ (y ...) (c ...) ...) (list (list (list y c) ...) ...))))) (m (1 2) (3 4) (5 6)))"
    1 43 (8 ∷ 2 ∷ 1 ∷ 0 ∷ 8 ∷ 2 ∷ 1 ∷ 0 ∷ 8 ∷ 2 ∷ 1 ∷ 0 ∷ 2 ∷ 1 ∷ 2 ∷ 3 ∷ 8 ∷ 2 ∷ 1 ∷ 0 ∷ 2 ∷ 2 ∷ 2 ∷ 4 ∷ 8 ∷ 2 ∷ 1 ∷ 0 ∷ 8 ∷ 2 ∷ 1 ∷ 0 ∷ 2 ∷ 1 ∷ 2 ∷ 5 ∷ 8 ∷ 2 ∷ 1 ∷ 0 ∷ 2 ∷ 2 ∷ 2 ∷ 6 ∷ []) ∷
    -- D2: years repeated whole beside each coin
    gives "(list) (let-syntax ((m (syntax-rules () ((_ (y ...) c ...) (list (list c y ...) ...))))) (m (1 2) 3 4))"
    1 23 (8 ∷ 2 ∷ 1 ∷ 0 ∷ 8 ∷ 3 ∷ 1 ∷ 0 ∷ 2 ∷ 3 ∷ 2 ∷ 1 ∷ 2 ∷ 2 ∷ 8 ∷ 3 ∷ 1 ∷ 0 ∷ 2 ∷ 4 ∷ 2 ∷ 1 ∷ 2 ∷ 2 ∷ []) ∷
    -- D3: one variable at two depths in one element
    gives "(list) (let-syntax ((m (syntax-rules () ((_ y ...) (list (list y (list y ...)) ...))))) (m 1 2))"
    1 31 (8 ∷ 2 ∷ 1 ∷ 0 ∷ 8 ∷ 2 ∷ 1 ∷ 0 ∷ 2 ∷ 1 ∷ 8 ∷ 2 ∷ 1 ∷ 0 ∷ 2 ∷ 1 ∷ 2 ∷ 2 ∷ 8 ∷ 2 ∷ 1 ∷ 0 ∷ 2 ∷ 2 ∷ 8 ∷ 2 ∷ 1 ∷ 0 ∷ 2 ∷ 1 ∷ 2 ∷ 2 ∷ []) ∷
    -- D4: an ellipsis that no occurrence drives
    refuses "(list) (let-syntax ((m (syntax-rules () ((_ x ...) (list (list x ...) ...))))) (m 1 2))" 15 0 0 ∷
    -- D5: no copies, no comparison
    gives "(list) (let-syntax ((m (syntax-rules () ((_ (y ...) (z ...) (c ...) ...) (list (list (list y z c) ...) ...))))) (m (1 2) (3)))"
    1 3 (8 ∷ 0 ∷ 1 ∷ 0 ∷ []) ∷
    -- D6: one copy, compared
    refuses "(list) (let-syntax ((m (syntax-rules () ((_ (y ...) (z ...) (c ...) ...) (list (list (list y z c) ...) ...))))) (m (1 2) (3) (4 5)))" 17 0 0 ∷
    -- D7: fewer ellipses than in the pattern
    refuses "(list) (let-syntax ((m (syntax-rules () ((_ (a ...) ...) (list (list a) ...))))) (m (1)))" 15 0 0 ∷
    -- D8: two of the pattern under three: the innermost two are its own
    gives "(list) (let-syntax ((m (syntax-rules () ((_ ((a ...) ...) b ...) (list (list b (list a ...) ...) ...))))) (m ((1) (2 3)) 8 9))"
    1 43 (8 ∷ 2 ∷ 1 ∷ 0 ∷ 8 ∷ 3 ∷ 1 ∷ 0 ∷ 2 ∷ 8 ∷ 8 ∷ 1 ∷ 1 ∷ 0 ∷ 2 ∷ 1 ∷ 8 ∷ 2 ∷ 1 ∷ 0 ∷ 2 ∷ 2 ∷ 2 ∷ 3 ∷ 8 ∷ 3 ∷ 1 ∷ 0 ∷ 2 ∷ 9 ∷ 8 ∷ 1 ∷ 1 ∷ 0 ∷ 2 ∷ 1 ∷ 8 ∷ 2 ∷ 1 ∷ 0 ∷ 2 ∷ 2 ∷ 2 ∷ 3 ∷ []) ∷
    -- D9: two in succession
    refuses "(list) (let-syntax ((m (syntax-rules () ((_ (a ...) ...) (list a ... ...))))) (m (1) (2)))" 15 0 0 ∷
    -- D10: the occurrence that drives stands on the right of one that does not
    gives "(list) (let-syntax ((m (syntax-rules () ((_ x ...) (list ((list x ...) x) ...))))) (m 1 2))"
    1 27 (8 ∷ 2 ∷ 1 ∷ 0 ∷ 8 ∷ 1 ∷ 8 ∷ 2 ∷ 1 ∷ 0 ∷ 2 ∷ 1 ∷ 2 ∷ 2 ∷ 2 ∷ 1 ∷ 8 ∷ 1 ∷ 8 ∷ 2 ∷ 1 ∷ 0 ∷ 2 ∷ 1 ∷ 2 ∷ 2 ∷ 2 ∷ 2 ∷ []) ∷
    -- D11: compared at every outer index
    refuses "(list) (let-syntax ((m (syntax-rules () ((_ (y ...) (c ...) ...) (list (list (list y c) ...) ...))))) (m (1 2) (3 4) (5)))" 17 0 0 ∷
    -- D12: 17 before 18 with no fuel, however deep
    with_fuel 0 (refuses "(list) (let-syntax ((m (syntax-rules () ((_ ((a ...) ...) ((b ...) ...) c ...) (list (list (list (list a b) ...) ... c) ...))))) (m ((1) (2 3)) ((4) (5)) 6))" 17 0 0) ∷
    -- D13: the same with lists of one length
    with_fuel 0 (refuses "(list) (let-syntax ((m (syntax-rules () ((_ ((a ...) ...) ((b ...) ...) c ...) (list (list (list (list a b) ...) ... c) ...))))) (m ((1) (2 3)) ((4) (5 6)) 7))" 18 0 0) ∷
    -- D14: the same where no copy is made round them
    gives "(list) (let-syntax ((m (syntax-rules () ((_ ((a ...) ...) ((b ...) ...) c ...) (list (list (list (list a b) ...) ... c) ...))))) (m ((1) (2 3)) ((4) (5))))"
    1 3 (8 ∷ 0 ∷ 1 ∷ 0 ∷ []) ∷
    -- D15: a list repeated whole inside copies that another list drives, these inside copies that a third drives
    gives "(list) (let-syntax ((m (syntax-rules () ((_ (y ...) (b ...) c ...) (list (list c (list b y ...) ...) ...))))) (m (1 2) (3) 4))"
    1 19 (8 ∷ 1 ∷ 1 ∷ 0 ∷ 8 ∷ 2 ∷ 1 ∷ 0 ∷ 2 ∷ 4 ∷ 8 ∷ 3 ∷ 1 ∷ 0 ∷ 2 ∷ 3 ∷ 2 ∷ 1 ∷ 2 ∷ 2 ∷ []) ∷
    []

-- ---- before

unfoldable pub items_from : String → List ℕ
unfolding bytes recipe_of items_of
items_from text = items_of (recipe_of (bytes text))

unfoldable pub run_before : String → ℕ → Run
unfolding items_from exactly_in are_exact expand_before expand_recipe_before computed
run_before text fuel = ended (expand_recipe_before fuel (tree_of (items_from text)))

unfoldable pub filed_before : Row → Row
unfolding run_before
filed_before r =
    let before = run_before r.text r.fuel in
    record { text = r.text; fuel = r.fuel; outcome = before.outcome; steps = before.steps; sum = before.sum; core = core_of before }

-- the claim, of a recipe with an ellipsis inside another, with two fuels
unfoldable pub nested : String
nested = "(list) (let-syntax ((m (syntax-rules () ((_ (a b ...) ...) (list (list a (list b) ...) ...))))) (m (1) (2 3 4)))"
