-- Recipes with known expansions, E01 to E62: rows of four tables, each proved by computing the definitions of reading and expansion.
use Rattle.std.specs.Prelude.{◌≡◌, refl, List, [], ◌∷◌, map}
use Rattle.expansion.specs.Row.{Row, gives, refuses, filed}

unfoldable pub E01-to-E16 : List Row
unfolding gives refuses
E01-to-E16 =
    -- E01: let-syntax names are in no rules of their form
    refuses "() (let-syntax ((a (syntax-rules () ((_) 1))) (b (syntax-rules () ((_) (a))))) (b))" 11 1 3 ∷
    -- E02: letrec-syntax names are
    gives "() (letrec-syntax ((a (syntax-rules () ((_) 1))) (b (syntax-rules () ((_) (a))))) (b))" 2 4 (2 ∷ 1 ∷ []) ∷
    -- E03: an inner macro's template means the outer macro of its name
    gives "() (let-syntax ((a (syntax-rules () ((_) 1)))) (let-syntax ((a (syntax-rules () ((_ x) (a))))) (a 2)))" 2 4 (2 ∷ 1 ∷ []) ∷
    -- E04: the head of a rules form is looked up outside a let-syntax
    gives "() (let-syntax ((syntax-rules (syntax-rules () ((_ a) a)))) (syntax-rules 5))" 1 1 (2 ∷ 5 ∷ []) ∷
    -- E05: and inside a letrec-syntax
    refuses "() (letrec-syntax ((syntax-rules (syntax-rules () ((_ a) a)))) (syntax-rules 5))" 15 0 0 ∷
    -- E06: the head of a rules form bound by a lambda is ground 15
    refuses "() (lambda (syntax-rules) (let-syntax ((m (syntax-rules () ((_) 1)))) (m)))" 15 0 0 ∷
    -- E07: literals: no binding on both sides, whatever the marks, agree
    gives "() (let-syntax ((c (syntax-rules (else) ((_ else) 1) ((_ x) 2)))) (let-syntax ((w (syntax-rules () ((_) (c else))))) (w)))"
    2 6 (2 ∷ 1 ∷ []) ∷
    -- E08: literals: an inserted name keeps the binding of its template's place
    gives "() (let-syntax ((c (syntax-rules (else) ((_ else) 1) ((_ x) 2)))) (lambda (else) (let-syntax ((w (syntax-rules () ((_) (c else))))) (w))))"
    2 6 (7 ∷ 0 ∷ 1 ∷ 9 ∷ 2 ∷ 2 ∷ []) ∷
    -- E09: literals: the same binding on both sides agrees
    gives "() (lambda (else) (let-syntax ((c (syntax-rules (else) ((_ else) 1) ((_ x) 2)))) (c else)))" 1 1 (7 ∷ 0 ∷ 1 ∷ 8 ∷ 2 ∷ 1 ∷ []) ∷
    -- E10: a literal that is the macro's own name, let-syntax
    gives "() (let-syntax ((if (syntax-rules (if) ((_ if) 1) ((_ x) 2)))) (if if))" 1 1 (2 ∷ 2 ∷ []) ∷
    -- E11: and letrec-syntax
    gives "() (letrec-syntax ((if (syntax-rules (if) ((_ if) 1) ((_ x) 2)))) (if if))" 1 1 (2 ∷ 1 ∷ []) ∷
    -- E12: a pattern's first place is neither compared nor bound
    refuses "() (let-syntax ((m (syntax-rules () ((k x) k)))) (m 1))" 11 1 1 ∷
    -- E13: a variable may be spelled like the first place
    gives "() (let-syntax ((m (syntax-rules () ((x x) x)))) (m 5))" 1 1 (2 ∷ 5 ∷ []) ∷
    -- E14: rules made by a macro; an inserted _ is known by number
    gives "() (let-syntax ((m (syntax-rules () ((_ a) (let-syntax ((n (syntax-rules () ((_ b) b)))) (n a)))))) (m 7))" 2 32 (2 ∷ 7 ∷ []) ∷
    -- E15: an outer variable in an inner pattern is replaced
    gives "() (let-syntax ((g (syntax-rules () ((_ a) (let-syntax ((bar (syntax-rules () ((_ a) 23)))) (bar 1)))))) (g 1))" 2 32 (2 ∷ 23 ∷ []) ∷
    -- E16: and then need not match
    refuses "() (let-syntax ((g (syntax-rules () ((_ a) (let-syntax ((bar (syntax-rules () ((_ a) 23)))) (bar 1)))))) (g 2))" 16 1 31 ∷
    []

pub E01-to-E16-hold : map filed E01-to-E16 ≡ E01-to-E16
unfolding filed E01-to-E16
E01-to-E16-hold = refl

unfoldable pub E17-to-E33 : List Row
unfolding gives refuses
E17-to-E33 =
    -- E17: one name of the use twice as formals: the same
    refuses "() (let-syntax ((k (syntax-rules () ((_ x) (lambda (x x) 1))))) (k t))" 14 1 11 ∷
    -- E18: two inserted names of one step, through a second macro: the same
    refuses "() (let-syntax ((k (syntax-rules () ((_ x y) (lambda (x y) (x y)))))) (let-syntax ((w (syntax-rules () ((_) (k t t))))) (w)))" 14 2 22 ∷
    -- E19: one inserted, one from the use: not the same
    gives "() (let-syntax ((k (syntax-rules () ((_ x y) (lambda (x y) (x y)))))) (let-syntax ((w (syntax-rules () ((_ z) (k z t))))) (w t)))"
    2 22 (7 ∷ 0 ∷ 2 ∷ 13 ∷ 13 ∷ 8 ∷ 1 ∷ 0 ∷ 0 ∷ 0 ∷ 1 ∷ []) ∷
    -- E20: a macro name from the use captures the use
    gives "() (let-syntax ((def (syntax-rules () ((_ n v e) (let-syntax ((n (syntax-rules () ((_) v)))) e))))) (def k 5 (k)))" 2 28 (2 ∷ 5 ∷ []) ∷
    -- E21: an inserted macro name does not
    refuses "() (let-syntax ((def (syntax-rules () ((_ e) (let-syntax ((k (syntax-rules () ((_) 5)))) e))))) (def (k)))" 11 1 27 ∷
    -- E22: the use's mark cancels: the operation t is not captured
    gives "(t) (let-syntax ((or2 (syntax-rules () ((_ a b) ((lambda (t) (if t t b)) a))))) ((lambda (if) (or2 if t)) #f))"
    1 21 (8 ∷ 1 ∷ 7 ∷ 0 ∷ 1 ∷ 1 ∷ 8 ∷ 1 ∷ 7 ∷ 1 ∷ 1 ∷ 8 ∷ 6 ∷ 0 ∷ 1 ∷ 0 ∷ 1 ∷ 1 ∷ 0 ∷ 0 ∷ 0 ∷ 3 ∷ 0 ∷ []) ∷
    -- E23: divide of document 002
    gives "(+ * /) ((lambda (/) (let-syntax ((divide (syntax-rules () ((_ a b) (/ a b))))) ((lambda (/) (divide 6 3)) *))) +)"
    1 7 (8 ∷ 1 ∷ 7 ∷ 0 ∷ 1 ∷ 10 ∷ 8 ∷ 1 ∷ 7 ∷ 1 ∷ 1 ∷ 10 ∷ 8 ∷ 2 ∷ 0 ∷ 0 ∷ 2 ∷ 6 ∷ 2 ∷ 3 ∷ 1 ∷ 1 ∷ 1 ∷ 0 ∷ []) ∷
    -- E24: or of document 002
    gives "() (letrec-syntax ((or (syntax-rules () ((_) #f) ((_ e) e) ((_ a b ...) ((lambda (t) (if t t (or b ...))) a))))) (lambda (t u) (or t u #f)))"
    3 53 (7 ∷ 0 ∷ 2 ∷ 12 ∷ 13 ∷ 8 ∷ 1 ∷ 7 ∷ 2 ∷ 1 ∷ 12 ∷ 6 ∷ 0 ∷ 2 ∷ 0 ∷ 2 ∷ 8 ∷ 1 ∷ 7 ∷ 3 ∷ 1 ∷ 12 ∷ 6 ∷ 0 ∷ 3 ∷ 0 ∷ 3 ∷ 3 ∷ 0 ∷ 0 ∷ 1 ∷ 0 ∷ 0 ∷ []) ∷
    -- E25: a binding made before a mark
    gives "() (lambda (x) (let-syntax ((m (syntax-rules () ((_) x)))) (m)))" 1 1 (7 ∷ 0 ∷ 1 ∷ 8 ∷ 0 ∷ 0 ∷ []) ∷
    -- E26: mark, binding, mark on one template name
    gives "() (let-syntax ((m (syntax-rules () ((_) (lambda (x) (let-syntax ((n (syntax-rules () ((_ y) (lambda (y) x))))) (n x))))))) (m))"
    2 56 (7 ∷ 0 ∷ 1 ∷ 9 ∷ 7 ∷ 1 ∷ 1 ∷ 9 ∷ 0 ∷ 0 ∷ []) ∷
    -- E27: one number with three sets of marks
    gives "() (letrec-syntax ((m (syntax-rules () ((_ a 0) a) ((_ a 1) (lambda (x) (m (if a x x) 0))) ((_ a 2) (lambda (x) (m (if a x x) 1)))))) (lambda (x) (m x 2)))"
    3 71 (7 ∷ 0 ∷ 1 ∷ 10 ∷ 7 ∷ 1 ∷ 1 ∷ 10 ∷ 7 ∷ 2 ∷ 1 ∷ 10 ∷ 6 ∷ 6 ∷ 0 ∷ 0 ∷ 0 ∷ 1 ∷ 0 ∷ 1 ∷ 0 ∷ 2 ∷ 0 ∷ 2 ∷ []) ∷
    -- E28: a name bound outside, and inside by the template
    gives "() (lambda (t) (let-syntax ((or2 (syntax-rules () ((_ a b) ((lambda (t) (if t t b)) a))))) (or2 #f t)))"
    1 21 (7 ∷ 0 ∷ 1 ∷ 8 ∷ 8 ∷ 1 ∷ 7 ∷ 1 ∷ 1 ∷ 8 ∷ 6 ∷ 0 ∷ 1 ∷ 0 ∷ 1 ∷ 0 ∷ 0 ∷ 3 ∷ 0 ∷ []) ∷
    -- E29: an inserted literal
    gives "() (let-syntax ((m (syntax-rules () ((_ a) (lambda (t) (let-syntax ((g (syntax-rules (t) ((_ t) 1) ((_ x) 2)))) (if (g t) (g a) 0))))))) (lambda (t) (m t)))"
    3 65 (7 ∷ 0 ∷ 1 ∷ 10 ∷ 7 ∷ 1 ∷ 1 ∷ 10 ∷ 6 ∷ 2 ∷ 1 ∷ 2 ∷ 2 ∷ 2 ∷ 0 ∷ []) ∷
    -- E30: an inserted macro name that is the macro's own
    gives "() (letrec-syntax ((loop (syntax-rules () ((_ x) (letrec-syntax ((loop (syntax-rules () ((_ y) y)))) (loop x)))))) (loop 1))"
    2 32 (2 ∷ 1 ∷ []) ∷
    -- E31: an inserted form name, bound again
    gives "() (let-syntax ((m (syntax-rules () ((_) (lambda (quote) (quote 1)))))) (m))" 1 13 (7 ∷ 0 ∷ 1 ∷ 0 ∷ 8 ∷ 1 ∷ 0 ∷ 0 ∷ 2 ∷ 1 ∷ []) ∷
    -- E32: quote strips marks and bindings; names by number
    gives "() (let-syntax ((q (syntax-rules () ((_ x) (quote x))))) (lambda (y) (q (y if #t -5))))"
    1 13 (7 ∷ 0 ∷ 1 ∷ 10 ∷ 5 ∷ 4 ∷ 4 ∷ 10 ∷ 4 ∷ 1 ∷ 3 ∷ 1 ∷ 2 ∷ 4294967291 ∷ []) ∷
    -- E33: quote bound again: an application
    gives "() (lambda (quote) (quote 1))" 0 0 (7 ∷ 0 ∷ 1 ∷ 0 ∷ 8 ∷ 1 ∷ 0 ∷ 0 ∷ 2 ∷ 1 ∷ []) ∷
    []

pub E17-to-E33-hold : map filed E17-to-E33 ≡ E17-to-E33
unfolding filed E17-to-E33
E17-to-E33-hold = refl

unfoldable pub E34-to-E48 : List Row
unfolding gives refuses
E34-to-E48 =
    -- E34: each copy is expanded anew, variables numbered through the run
    gives "() (let-syntax ((d (syntax-rules () ((_ e) (if e e e))))) (d (lambda (x) x)))"
    1 33 (6 ∷ 7 ∷ 0 ∷ 1 ∷ 10 ∷ 0 ∷ 0 ∷ 7 ∷ 1 ∷ 1 ∷ 10 ∷ 0 ∷ 1 ∷ 7 ∷ 2 ∷ 1 ∷ 10 ∷ 0 ∷ 2 ∷ []) ∷
    -- E35: a variable under no ellipsis, under one in the template
    gives "(list) (let-syntax ((p (syntax-rules () ((_ x (a ...)) (list (list x a) ...))))) (p #t (1 2 3)))"
    1 27 (8 ∷ 3 ∷ 1 ∷ 0 ∷ 8 ∷ 2 ∷ 1 ∷ 0 ∷ 3 ∷ 1 ∷ 2 ∷ 1 ∷ 8 ∷ 2 ∷ 1 ∷ 0 ∷ 3 ∷ 1 ∷ 2 ∷ 2 ∷ 8 ∷ 2 ∷ 1 ∷ 0 ∷ 3 ∷ 1 ∷ 2 ∷ 3 ∷ []) ∷
    -- E36: two ellipses, an inner one empty
    gives "(list) (let-syntax ((n (syntax-rules () ((_ (a b ...) ...) (list (list a b ...) ...))))) (n (1) (2 3 4)))"
    1 19 (8 ∷ 2 ∷ 1 ∷ 0 ∷ 8 ∷ 1 ∷ 1 ∷ 0 ∷ 2 ∷ 1 ∷ 8 ∷ 3 ∷ 1 ∷ 0 ∷ 2 ∷ 2 ∷ 2 ∷ 3 ∷ 2 ∷ 4 ∷ []) ∷
    -- E37: an ellipsis in the middle of a template's list
    gives "() (let-syntax ((m (syntax-rules () ((_ a b ...) (b ... a))))) (m 1 (lambda (x) x)))" 1 13 (8 ∷ 1 ∷ 7 ∷ 0 ∷ 1 ∷ 11 ∷ 0 ∷ 0 ∷ 2 ∷ 1 ∷ []) ∷
    -- E38: inner driving lists that differ
    refuses "(list) (let-syntax ((z (syntax-rules () ((_ ((a ...) ...) ((b ...) ...)) (list (list (list a b) ...) ...))))) (z ((1 2) (3)) ((4 5) (6 7))))"
    17 0 0 ∷
    -- E39: nothing to compare where there are no copies
    gives "(list) (let-syntax ((z (syntax-rules () ((_ ((a ...) ...) ((b ...) ...)) (list (list (list a b) ...) ...))))) (z () ()))"
    1 3 (8 ∷ 0 ∷ 1 ∷ 0 ∷ []) ∷
    -- E40: 17 does not try the next rule
    refuses "(list) (let-syntax ((z (syntax-rules () ((_ (a ...) (b ...)) (list (list a b) ...)) ((_ x y) 9)))) (z (1 2) (3)))" 17 0 0 ∷
    -- E41: 17 before 18
    refuses "(list) (let-syntax ((z (syntax-rules () ((_ q (a ...) (b ...)) (list q q q q q q q q q q q q (list a b) ...))))) (z (list 1 1 1 1 1 1 1 1 1 1 1 1 1 1 1 1 1 1 1 1) (1 2) (3)))"
    17 0 0 ∷
    -- E42: the same with equal lists
    refuses "(list) (let-syntax ((z (syntax-rules () ((_ q (a ...) (b ...)) (list q q q q q q q q q q q q (list a b) ...))))) (z (list 1 1 1 1 1 1 1 1 1 1 1 1 1 1 1 1 1 1 1 1) (1 2) (3 4)))"
    18 0 0 ∷
    -- E43: each step costs its whole result
    refuses "() (letrec-syntax ((m (syntax-rules () ((_ x) (m (x x)))))) (m 1))" 18 6 510 ∷
    -- E44: depth first: 18 before the 13 to its right
    refuses "(f) (letrec-syntax ((m (syntax-rules () ((_) (m))))) (f (m) ()))" 18 170 510 ∷
    -- E45: and the 13 to its left first
    refuses "(f) (letrec-syntax ((m (syntax-rules () ((_) (m))))) (f () (m)))" 13 0 0 ∷
    -- E46: a head that expands to a form name makes no form
    refuses "() (let-syntax ((m (syntax-rules () ((_) if)))) ((m) 1 2 3))" 12 1 1 ∷
    -- E47: constants by kind and value; () as a pattern
    gives "() (let-syntax ((m (syntax-rules () ((_ 1) 10) ((_ #t) 20) ((_ ()) 30) ((_ x) 40)))) (if (m 001) (m #t) ((m ()) (m #f))))"
    4 4 (6 ∷ 2 ∷ 10 ∷ 2 ∷ 20 ∷ 8 ∷ 1 ∷ 2 ∷ 30 ∷ 2 ∷ 40 ∷ []) ∷
    -- E48: a constant may lie under three ellipses
    gives "() (let-syntax ((m (syntax-rules () ((_ (((1 ...) ...) ...)) 1)))) (m (((1 1) ()) ())))" 1 1 (2 ∷ 1 ∷ []) ∷
    []

pub E34-to-E48-hold : map filed E34-to-E48 ≡ E34-to-E48
unfolding filed E34-to-E48
E34-to-E48-hold = refl

unfoldable pub E49-to-E62 : List Row
unfolding gives refuses
E49-to-E62 =
    -- E49: a variable may not
    refuses "() (let-syntax ((m (syntax-rules () ((_ (((a ...) ...) ...)) 1)))) 1)" 15 0 0 ∷
    -- E50: rules are checked unused: a variable under too few ellipses
    refuses "() (let-syntax ((m (syntax-rules () ((_ a ...) a)))) 1)" 15 0 0 ∷
    -- E51: an ellipsis over a variable under none
    refuses "() (let-syntax ((m (syntax-rules () ((_ x) (x ...))))) 1)" 15 0 0 ∷
    -- E52: an ellipsis that nothing drives
    refuses "() (let-syntax ((m (syntax-rules () ((_ x ...) ((x ...) ...))))) 1)" 15 0 0 ∷
    -- E53: a literal may stand twice in a pattern
    gives "() (let-syntax ((m (syntax-rules (x) ((_ x x) 1)))) (m x x))" 1 1 (2 ∷ 1 ∷ []) ∷
    -- E54: the result is refused, its step counted
    refuses "() (let-syntax ((m (syntax-rules () ((_) ())))) (m))" 13 1 1 ∷
    -- E55: an inserted _ as a bound name
    refuses "() (let-syntax ((m (syntax-rules () ((_) (lambda (_) 1))))) (m))" 13 1 9 ∷
    -- E56: 13 before 14
    refuses "() (lambda (t t _) 1)" 13 0 0 ∷
    -- E57: 14 before 15
    refuses "() (let-syntax ((m 1) (m 2)) 1)" 14 0 0 ∷
    -- E58: a later macro's shape before an earlier one's rules
    refuses "() (let-syntax ((m (syntax-rules)) (5 1)) 1)" 13 0 0 ∷
    -- E59: a macro name as a bare expression
    refuses "() (let-syntax ((m (syntax-rules () ((_) 1)))) m)" 12 0 0 ∷
    -- E60: a macro name bound again by lambda
    gives "() (let-syntax ((m (syntax-rules () ((_) 1)))) (lambda (m) (m)))" 0 0 (7 ∷ 0 ∷ 1 ∷ 8 ∷ 8 ∷ 0 ∷ 0 ∷ 0 ∷ []) ∷
    -- E61: an integer as head, an empty quoted list, the least integer
    gives "() (lambda () ((quote ()) (1 -2147483648)))" 0 0 (7 ∷ 0 ∷ 0 ∷ 8 ∷ 1 ∷ 5 ∷ 0 ∷ 8 ∷ 1 ∷ 2 ∷ 1 ∷ 2 ∷ 2147483648 ∷ []) ∷
    -- E62: no ellipsis can be inserted
    refuses "() (let-syntax ((m (syntax-rules () ((_) (let-syntax ((n (syntax-rules () ((_ x ...) 1)))) (n)))))) 1)" 15 0 0 ∷
    []

pub E49-to-E62-hold : map filed E49-to-E62 ≡ E49-to-E62
unfolding filed E49-to-E62
E49-to-E62-hold = refl
