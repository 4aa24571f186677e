-- More recipes with known expansions: those of document 01 that E01 to E62 leave out, other fuel (F1 to F3), private names, operations.
use Rattle.std.specs.Prelude.{◌≡◌, refl, List, [], ◌∷◌, map}
use Rattle.expansion.specs.Row.{Row, gives, turns_back, refuses, with_fuel, filed}

unfoldable pub recipes : List Row
unfolding gives turns_back refuses with_fuel
recipes =
    -- List of pairs: one ellipsis over a list
    gives "(list) (let-syntax ((l (syntax-rules () ((_ (a b) ...) (list (list b a) ...))))) (l (1 2) (3 4)))"
    1 19 (8 ∷ 2 ∷ 1 ∷ 0 ∷ 8 ∷ 2 ∷ 1 ∷ 0 ∷ 2 ∷ 2 ∷ 2 ∷ 1 ∷ 8 ∷ 2 ∷ 1 ∷ 0 ∷ 2 ∷ 4 ∷ 2 ∷ 3 ∷ []) ∷
    -- List of pairs: no pair
    gives "(list) (let-syntax ((l (syntax-rules () ((_ (a b) ...) (list (list b a) ...))))) (l))" 1 3 (8 ∷ 0 ∷ 1 ∷ 0 ∷ []) ∷
    -- Else: a literal without a binding
    gives "() (let-syntax ((c (syntax-rules (else) ((_ else) 1) ((_ x) 2)))) (c else))" 1 1 (2 ∷ 1 ∷ []) ∷
    -- Else: a literal bound at the use
    gives "() (let-syntax ((c (syntax-rules (else) ((_ else) 1) ((_ x) 2)))) (lambda (else) (c else)))" 1 1 (7 ∷ 0 ∷ 1 ∷ 9 ∷ 2 ∷ 2 ∷ []) ∷
    -- F1: the sum reaches the fuel
    with_fuel 21 (gives "() (let-syntax ((or2 (syntax-rules () ((_ a b) ((lambda (t) (if t t b)) a))))) (lambda (t) (or2 #f t)))"
    1 21 (7 ∷ 0 ∷ 1 ∷ 11 ∷ 8 ∷ 1 ∷ 7 ∷ 1 ∷ 1 ∷ 11 ∷ 6 ∷ 0 ∷ 1 ∷ 0 ∷ 1 ∷ 0 ∷ 0 ∷ 3 ∷ 0 ∷ [])) ∷
    -- F1: the sum would pass it
    with_fuel 20 (refuses "() (let-syntax ((or2 (syntax-rules () ((_ a b) ((lambda (t) (if t t b)) a))))) (lambda (t) (or2 #f t)))" 18 0 0) ∷
    -- F2: 17 before 18 with no fuel
    with_fuel 0 (refuses "(list) (let-syntax ((z (syntax-rules () ((_ (a ...) (b ...)) (list (list a b) ...)) ((_ x y) 9)))) (z (1 2) (3)))" 17 0 0) ∷
    -- F3: 15 with no fuel
    with_fuel 0 (refuses "() (let-syntax ((m (syntax-rules () ((_ a ...) a)))) 1)" 15 0 0) ∷
    -- Private: an inserted name that is quoted
    gives "() (let-syntax ((m (syntax-rules () ((_) (quote x))))) (m))" 1 5 (4 ∷ 9 ∷ []) ∷
    -- Private: an inserted syntax-rules, bound
    refuses "() (let-syntax ((m (syntax-rules () ((_) (lambda (syntax-rules) (let-syntax ((k (syntax-rules () ((_) 1)))) (k))))))) (m))" 15 1 35 ∷
    -- Private: an inserted name that is a literal of its rule
    gives "() (let-syntax ((m (syntax-rules (t) ((_ t) (lambda (t) t)) ((_ x) 0)))) (m t))" 1 9 (7 ∷ 0 ∷ 1 ∷ 9 ∷ 0 ∷ 0 ∷ []) ∷
    -- Private: an inserted name that is an operation
    gives "(op) (let-syntax ((m (syntax-rules () ((_ a) (lambda (op) (op a)))))) (m op))" 1 13 (7 ∷ 0 ∷ 1 ∷ 8 ∷ 8 ∷ 1 ∷ 0 ∷ 0 ∷ 1 ∷ 0 ∷ []) ∷
    -- Private: a form that is quoted and not reached
    gives "() (quote (let-syntax ((m (syntax-rules () ((_) x)))) 1))"
    0 0 (5 ∷ 3 ∷ 4 ∷ 3 ∷ 5 ∷ 1 ∷ 5 ∷ 2 ∷ 4 ∷ 8 ∷ 5 ∷ 3 ∷ 4 ∷ 5 ∷ 5 ∷ 0 ∷ 5 ∷ 2 ∷ 5 ∷ 1 ∷ 4 ∷ 7 ∷ 4 ∷ 9 ∷ 2 ∷ 1 ∷ []) ∷
    -- Names: inserted by two steps, not the same
    gives "() (let-syntax ((k (syntax-rules () ((_ x) (lambda (t x) (t x)))))) (let-syntax ((w (syntax-rules () ((_) (k t))))) (w)))"
    2 20 (7 ∷ 0 ∷ 2 ∷ 10 ∷ 10 ∷ 8 ∷ 1 ∷ 0 ∷ 0 ∷ 0 ∷ 1 ∷ []) ∷
    -- Names: an inserted _ as a bare expression
    refuses "() (let-syntax ((m (syntax-rules () ((_) _)))) (m))" 12 1 1 ∷
    -- Names: an inserted _ matches anything, each by itself
    gives "() (let-syntax ((m (syntax-rules () ((_) (let-syntax ((n (syntax-rules () ((_ _ _) 1)))) (n 2 3)))))) (m))" 2 36 (2 ∷ 1 ∷ []) ∷
    -- Names of variables: as they are written, one for each variable
    gives "() (lambda (t u) ((lambda (t) (t u)) t))" 0 0 (7 ∷ 0 ∷ 2 ∷ 8 ∷ 9 ∷ 8 ∷ 1 ∷ 7 ∷ 2 ∷ 1 ∷ 8 ∷ 8 ∷ 1 ∷ 0 ∷ 2 ∷ 0 ∷ 1 ∷ 0 ∷ 0 ∷ []) ∷
    -- Names of variables: a formal from the use has its own name there
    gives "() (let-syntax ((k (syntax-rules () ((_ x) (lambda (x) x))))) (k y))" 1 9 (7 ∷ 0 ∷ 1 ∷ 10 ∷ 0 ∷ 0 ∷ []) ∷
    -- Names of variables: of a form, and none
    gives "() (lambda (if) (lambda () (if 1 2)))" 0 0 (7 ∷ 0 ∷ 1 ∷ 1 ∷ 7 ∷ 1 ∷ 0 ∷ 8 ∷ 2 ∷ 0 ∷ 0 ∷ 2 ∷ 1 ∷ 2 ∷ 2 ∷ []) ∷
    -- Names: a quoted name that is bound keeps its number
    gives "() (lambda (x) (quote (m x)))" 0 0 (7 ∷ 0 ∷ 1 ∷ 8 ∷ 5 ∷ 2 ∷ 4 ∷ 9 ∷ 4 ∷ 8 ∷ []) ∷
    -- Matching: variables after a list, after a constant and after _
    gives "(list) (let-syntax ((m (syntax-rules () ((_ (a b) c) (list a b c))))) (m (1 2) 3))" 1 9 (8 ∷ 3 ∷ 1 ∷ 0 ∷ 2 ∷ 1 ∷ 2 ∷ 2 ∷ 2 ∷ 3 ∷ []) ∷
    gives "(list) (let-syntax ((m (syntax-rules () ((_ 0 a _ b) (list a b))))) (m 0 1 2 3))" 1 7 (8 ∷ 2 ∷ 1 ∷ 0 ∷ 2 ∷ 1 ∷ 2 ∷ 3 ∷ []) ∷
    -- Matching: every element before ... is matched
    gives "() (let-syntax ((m (syntax-rules () ((_ 1 ...) 1) ((_ _ ...) 2)))) (m 1 2))" 1 1 (2 ∷ 2 ∷ []) ∷
    -- Driving lists: of variables on both sides of an inner ellipsis
    gives "(list) (let-syntax ((z (syntax-rules () ((_ ((a ...) ...) (b ...)) (list (list a ... b) ...))))) (z ((1 2) ()) (3 4)))"
    1 19 (8 ∷ 2 ∷ 1 ∷ 0 ∷ 8 ∷ 3 ∷ 1 ∷ 0 ∷ 2 ∷ 1 ∷ 2 ∷ 2 ∷ 2 ∷ 3 ∷ 8 ∷ 1 ∷ 1 ∷ 0 ∷ 2 ∷ 4 ∷ []) ∷
    refuses "(list) (let-syntax ((z (syntax-rules () ((_ ((a ...) ...) (b ...)) (list (list a ... b) ...))))) (z ((1) (2)) (3)))" 17 0 0 ∷
    -- Driving lists: of a later ellipsis, and of one in a list that is not the last
    refuses "(list) (let-syntax ((z (syntax-rules () ((_ (a ...) (b ...) (c ...)) (list a ... (list b c) ...))))) (z (1) (2) (3 4)))" 17 0 0 ∷
    refuses "(list) (let-syntax ((z (syntax-rules () ((_ (a ...) (b ...)) (if (list (list a b) ...) 1 2))))) (z (1) (2 3)))" 17 0 0 ∷
    -- Order: from the left: 13
    refuses "(f) (f () x)" 13 0 0 ∷
    -- Order: from the left: 11
    refuses "(f) (f x ())" 11 0 0 ∷
    -- Integers: -0 is 0
    gives "() (let-syntax ((m (syntax-rules () ((_ 0) 1)))) (m -0))" 1 1 (2 ∷ 1 ∷ []) ∷
    -- Ground 7: the first element is no list
    turns_back "1 2" 7 ∷
    -- Ground 10: an operation below 8
    turns_back "(if) 1" 10 ∷
    -- Ground 10: an operation twice
    turns_back "(a a) 1" 10 ∷
    -- Ground 10: an operation that is no name
    turns_back "(a (b)) 1" 10 ∷
    []

pub recipes-hold : map filed recipes ≡ recipes
unfolding filed recipes
recipes-hold = refl
