-- Known recipes tried with several fuels, each in tables just long enough for its fuel: what is not 18 stays as the fuel grows.
use Rattle.std.specs.Prelude.{◌≡◌, refl, List, [], ◌∷◌, map, ◌+◌, ◌*◌}
use Rattle.words.specs.Limits.{work_rate, core_rate}
use Rattle.words.specs.Text.{bytes}
use Rattle.reading.specs.Read.{recipe_of}
use Rattle.recipe.specs.Table.{item_count}
use Rattle.expansion.specs.Run.{core_of}
use Rattle.expansion.specs.Computed.{computed}
use Rattle.expansion.specs.Row.{Row, gives, turns_back, refuses, with_fuel, items_of}

-- the row that the definitions give in such tables
unfoldable pub tried_row : Row → Row
unfolding bytes recipe_of items_of computed
tried_row r =
    let items = items_of (recipe_of (bytes r.text)) in
    let need = item_count items + r.fuel in
    let run = computed items r.fuel (work_rate * need) (core_rate * need) in
    record { text = r.text; fuel = r.fuel; outcome = run.outcome; steps = run.steps; sum = run.sum; core = core_of run }

unfoldable pub fuels : List Row
unfolding gives turns_back refuses with_fuel
fuels =
    -- F1: 18 below the sum, accepted from the sum on
    with_fuel 20 (refuses "() (let-syntax ((or2 (syntax-rules () ((_ a b) ((lambda (t) (if t t b)) a))))) (lambda (t) (or2 #f t)))" 18 0 0) ∷
    with_fuel 21 (gives "() (let-syntax ((or2 (syntax-rules () ((_ a b) ((lambda (t) (if t t b)) a))))) (lambda (t) (or2 #f t)))"
    1 21 (7 ∷ 0 ∷ 1 ∷ 11 ∷ 8 ∷ 1 ∷ 7 ∷ 1 ∷ 1 ∷ 11 ∷ 6 ∷ 0 ∷ 1 ∷ 0 ∷ 1 ∷ 0 ∷ 0 ∷ 3 ∷ 0 ∷ [])) ∷
    with_fuel 8192 (gives "() (let-syntax ((or2 (syntax-rules () ((_ a b) ((lambda (t) (if t t b)) a))))) (lambda (t) (or2 #f t)))"
    1 21 (7 ∷ 0 ∷ 1 ∷ 11 ∷ 8 ∷ 1 ∷ 7 ∷ 1 ∷ 1 ∷ 11 ∷ 6 ∷ 0 ∷ 1 ∷ 0 ∷ 1 ∷ 0 ∷ 0 ∷ 3 ∷ 0 ∷ [])) ∷
    -- F5: no step, the same at every fuel
    with_fuel 0 (gives "() (lambda (x) x)" 0 0 (7 ∷ 0 ∷ 1 ∷ 8 ∷ 0 ∷ 0 ∷ [])) ∷
    with_fuel 8192 (gives "() (lambda (x) x)" 0 0 (7 ∷ 0 ∷ 1 ∷ 8 ∷ 0 ∷ 0 ∷ [])) ∷
    -- F6: 16 with no fuel stays
    with_fuel 0 (refuses "() (let-syntax ((m (syntax-rules () ((_ 1) 1)))) (m 2))" 16 0 0) ∷
    with_fuel 1 (refuses "() (let-syntax ((m (syntax-rules () ((_ 1) 1)))) (m 2))" 16 0 0) ∷
    with_fuel 8192 (refuses "() (let-syntax ((m (syntax-rules () ((_ 1) 1)))) (m 2))" 16 0 0) ∷
    -- F7: 17 with no fuel stays
    with_fuel 0 (refuses "(list) (let-syntax ((z (syntax-rules () ((_ (a ...) (b ...)) (list (list a b) ...))))) (z (1 2) (3)))" 17 0 0) ∷
    with_fuel 8192 (refuses "(list) (let-syntax ((z (syntax-rules () ((_ (a ...) (b ...)) (list (list a b) ...))))) (z (1 2) (3)))" 17 0 0) ∷
    -- E54: 18, then 13 with the step counted
    with_fuel 0 (refuses "() (let-syntax ((m (syntax-rules () ((_) ())))) (m))" 18 0 0) ∷
    with_fuel 1 (refuses "() (let-syntax ((m (syntax-rules () ((_) ())))) (m))" 13 1 1) ∷
    with_fuel 8192 (refuses "() (let-syntax ((m (syntax-rules () ((_) ())))) (m))" 13 1 1) ∷
    -- F8: 18 at every fuel; its counts grow with the fuel
    with_fuel 8 (refuses "() (letrec-syntax ((if (syntax-rules () ((_ a b c) (if a b c))))) (if 1 2 3))" 18 0 0) ∷
    with_fuel 9 (refuses "() (letrec-syntax ((if (syntax-rules () ((_ a b c) (if a b c))))) (if 1 2 3))" 18 1 9) ∷
    with_fuel 513 (refuses "() (letrec-syntax ((if (syntax-rules () ((_ a b c) (if a b c))))) (if 1 2 3))" 18 57 513) ∷
    with_fuel 8192 (refuses "() (letrec-syntax ((if (syntax-rules () ((_ a b c) (if a b c))))) (if 1 2 3))" 18 910 8190) ∷
    -- F4: 8,192 is the last fuel
    with_fuel 8193 (turns_back "() 1" 8) ∷
    []

pub fuels-hold : map tried_row fuels ≡ fuels
unfolding tried_row fuels
fuels-hold = refl
