-- Known answers to request L3, E63 to E117: elements after an ellipsis, an ellipsis of the author's choice, and the escape.
use Rattle.std.specs.Prelude.{◌≡◌, refl, List, [], ◌∷◌, map}
use Rattle.expansion.specs.Row.{Row, gives, refuses, filed}

unfoldable pub E63-to-E77 : List Row
unfolding gives refuses
E63-to-E77 =
    -- E63: elements after the ellipsis
    gives "(list) (let-syntax ((m (syntax-rules () ((_ a ... b c) (list c b a ...))))) (m 1 2 3 4))" 1 11 (8 ∷ 4 ∷ 1 ∷ 0 ∷ 2 ∷ 4 ∷ 2 ∷ 3 ∷ 2 ∷ 1 ∷ 2 ∷ 2 ∷ []) ∷
    -- E64: it takes none
    gives "(list) (let-syntax ((m (syntax-rules () ((_ a ... b c) (list c b a ...))))) (m 1 2))" 1 7 (8 ∷ 2 ∷ 1 ∷ 0 ∷ 2 ∷ 2 ∷ 2 ∷ 1 ∷ []) ∷
    -- E65: too few elements
    refuses "(list) (let-syntax ((m (syntax-rules () ((_ a ... b c) (list c b a ...))))) (m 1))" 16 0 0 ∷
    -- E66: one ellipsis a list
    refuses "(list) (let-syntax ((m (syntax-rules () ((_ a ... b ...) 1)))) (m))" 15 0 0 ∷
    -- E67: but one in each
    gives "(list) (let-syntax ((m (syntax-rules () ((_ (a ... b) ... c) (list c (list b a ...) ...))))) (m (1 2) (3) 4))"
    1 19 (8 ∷ 3 ∷ 1 ∷ 0 ∷ 2 ∷ 4 ∷ 8 ∷ 2 ∷ 1 ∷ 0 ∷ 2 ∷ 2 ∷ 2 ∷ 1 ∷ 8 ∷ 1 ∷ 1 ∷ 0 ∷ 2 ∷ 3 ∷ []) ∷
    -- E68: not after the first place
    refuses "(list) (let-syntax ((m (syntax-rules () ((_ ... b) 1)))) (m 1))" 15 0 0 ∷
    -- E69: what follows is compared from the end
    gives "() (let-syntax ((m (syntax-rules () ((_ 1 ... 2 3) 4) ((_ _ ...) 5)))) (if (m 1 1 2 3) (m 2 3) (m 1 2)))" 3 3 (6 ∷ 2 ∷ 4 ∷ 2 ∷ 4 ∷ 2 ∷ 5 ∷ []) ∷
    -- E70: what the ellipsis takes is matched, what follows it too
    gives "() (let-syntax ((m (syntax-rules () ((_ 1 ... 2 3) 4) ((_ _ ...) 5)))) (if (m 1 0 2 3) (m 1 2 2) (m 1 1 3)))" 3 3 (6 ∷ 2 ∷ 5 ∷ 2 ∷ 5 ∷ 2 ∷ 5 ∷ []) ∷
    -- E71: an ellipsis in what follows, in a list of its own
    gives "(list) (let-syntax ((m (syntax-rules () ((_ a ... (b ... c)) (list c b ... a ...))))) (m 1 2 (3 4 5)))"
    1 13 (8 ∷ 5 ∷ 1 ∷ 0 ∷ 2 ∷ 5 ∷ 2 ∷ 3 ∷ 2 ∷ 4 ∷ 2 ∷ 1 ∷ 2 ∷ 2 ∷ []) ∷
    -- E72: variables under one ellipsis and under two, with something after each
    gives "(list) (let-syntax ((m (syntax-rules () ((_ ((1 ... b) ... c) ... d) (list d c ... (list b ...) ...))))) (m ((1 2) (3) 4) (5) 6))"
    1 21 (8 ∷ 5 ∷ 1 ∷ 0 ∷ 2 ∷ 6 ∷ 2 ∷ 4 ∷ 2 ∷ 5 ∷ 8 ∷ 2 ∷ 1 ∷ 0 ∷ 2 ∷ 2 ∷ 2 ∷ 3 ∷ 8 ∷ 0 ∷ 1 ∷ 0 ∷ []) ∷
    -- E73: lists that drive one ellipsis go by what the pattern's ellipses take
    gives "(list) (let-syntax ((m (syntax-rules () ((_ (a ...) (b ... c)) (list (list a b) ...))))) (m (1 2) (3 4 5)))"
    1 19 (8 ∷ 2 ∷ 1 ∷ 0 ∷ 8 ∷ 2 ∷ 1 ∷ 0 ∷ 2 ∷ 1 ∷ 2 ∷ 3 ∷ 8 ∷ 2 ∷ 1 ∷ 0 ∷ 2 ∷ 2 ∷ 2 ∷ 4 ∷ []) ∷
    -- E74: and differ where these do
    refuses "(list) (let-syntax ((m (syntax-rules () ((_ (a ...) (b ... c)) (list (list a b) ...))))) (m (1 2 3) (3 4 5)))" 17 0 0 ∷
    -- E75: under more than two, with elements after each
    refuses "(list) (let-syntax ((m (syntax-rules () ((_ ((a ... 1) ... 2) ... 3) 4)))) (m 3))" 15 0 0 ∷
    -- E76: a second ellipsis after other elements
    refuses "(list) (let-syntax ((m (syntax-rules () ((_ a ... b c ... d) 1)))) (m 1 2))" 15 0 0 ∷
    -- E77: a variable twice, before and after
    refuses "(list) (let-syntax ((m (syntax-rules () ((_ a ... a) 1)))) (m 1 2))" 15 0 0 ∷
    []

pub E63-to-E77-hold : map filed E63-to-E77 ≡ E63-to-E77
unfolding filed E63-to-E77
E63-to-E77-hold = refl

unfoldable pub E78-to-E96 : List Row
unfolding gives refuses
E78-to-E96 =
    -- E78: a chosen ellipsis
    gives "(list) (let-syntax ((m (syntax-rules dots () ((_ a dots) (list a dots 0))))) (m 1 2))" 1 9 (8 ∷ 3 ∷ 1 ∷ 0 ∷ 2 ∷ 1 ∷ 2 ∷ 2 ∷ 2 ∷ 0 ∷ []) ∷
    -- E79: beside it ... is a variable
    gives "(list) (let-syntax ((m (syntax-rules e () ((_ ...) (list ...))))) (m 7))" 1 5 (8 ∷ 1 ∷ 1 ∷ 0 ∷ 2 ∷ 7 ∷ []) ∷
    -- E80: a literal
    gives "(list) (let-syntax ((m (syntax-rules e (...) ((_ ...) 1) ((_ x) 2)))) (list (m ...) (m _)))" 2 2 (8 ∷ 2 ∷ 1 ∷ 0 ∷ 2 ∷ 1 ∷ 2 ∷ 2 ∷ []) ∷
    -- E81: a first place, and inserted
    gives "() (let-syntax ((m (syntax-rules e () ((... x) (quote (x ...)))))) (m 1))" 1 9 (5 ∷ 2 ∷ 2 ∷ 1 ∷ 4 ∷ 6 ∷ []) ∷
    -- E82: _ is the wildcard still
    gives "() (let-syntax ((m (syntax-rules e () ((_ _ e) 1)))) (m 2 3))" 1 1 (2 ∷ 1 ∷ []) ∷
    -- E83: ... is no literal without one
    refuses "(list) (let-syntax ((m (syntax-rules (...) ((_ x) 1)))) (m 1))" 15 0 0 ∷
    -- E84: ... may not be chosen
    refuses "(list) (let-syntax ((m (syntax-rules ... () ((_ x ...) 1)))) (m 1))" 15 0 0 ∷
    -- E85: nor _
    refuses "(list) (let-syntax ((m (syntax-rules _ () ((m x) 1)))) (m 1))" 15 0 0 ∷
    -- E86: nor a listed literal
    refuses "(list) (let-syntax ((m (syntax-rules e (e) ((_ x) 1)))) (m 1))" 15 0 0 ∷
    -- E87: the chosen one is no first place
    refuses "(list) (let-syntax ((m (syntax-rules e () ((e x) 1)))) (m 1))" 15 0 0 ∷
    -- E88: is not the whole template
    refuses "(list) (let-syntax ((m (syntax-rules e () ((_ x e) e)))) (m 1))" 15 0 0 ∷
    -- E89: is not doubled
    refuses "(list) (let-syntax ((m (syntax-rules e () ((_ (x e) e) (list x e e))))) (m 1))" 15 0 0 ∷
    -- E90: a name after syntax-rules is the ellipsis, whatever follows
    refuses "() (let-syntax ((m (syntax-rules e))) 1)" 15 0 0 ∷
    -- E91: a form name may be chosen
    gives "(list) (let-syntax ((m (syntax-rules if () ((_ a if) (list a if))))) (m 1 2))" 1 7 (8 ∷ 2 ∷ 1 ∷ 0 ∷ 2 ∷ 1 ∷ 2 ∷ 2 ∷ []) ∷
    -- E92: the macro's own name
    gives "(list) (letrec-syntax ((m (syntax-rules m () ((_ a m) (list a m))))) (m 1 2))" 1 7 (8 ∷ 2 ∷ 1 ∷ 0 ∷ 2 ∷ 1 ∷ 2 ∷ 2 ∷ []) ∷
    -- E93: one that is bound outside
    gives "(list) (lambda (e) (let-syntax ((m (syntax-rules e () ((_ a e) (list a e))))) (m 1 e)))" 1 7 (7 ∷ 0 ∷ 1 ∷ 9 ∷ 8 ∷ 2 ∷ 1 ∷ 0 ∷ 2 ∷ 1 ∷ 0 ∷ 0 ∷ []) ∷
    -- E94: one that a macro inserted
    gives "(list) (let-syntax ((w (syntax-rules () ((_ x) (let-syntax ((n (syntax-rules e () ((_ a e) (list a e))))) (n x 2)))))) (w 1))"
    2 50 (8 ∷ 2 ∷ 1 ∷ 0 ∷ 2 ∷ 1 ∷ 2 ∷ 2 ∷ []) ∷
    -- E95: a namesake with other marks is no ellipsis
    gives "(list) (let-syntax ((w (syntax-rules () ((_ x) (let-syntax ((n (syntax-rules e () ((_ a x) (list x a))))) (n 1 2)))))) (w e))"
    2 50 (8 ∷ 2 ∷ 1 ∷ 0 ∷ 2 ∷ 2 ∷ 2 ∷ 1 ∷ []) ∷
    -- E96: forms cannot bind ... beside a chosen one either
    refuses "() (let-syntax ((m (syntax-rules e () ((_) (lambda (...) 1))))) (m))" 13 1 9 ∷
    []

pub E78-to-E96-hold : map filed E78-to-E96 ≡ E78-to-E96
unfolding filed E78-to-E96
E78-to-E96-hold = refl

unfoldable pub E97-to-E109 : List Row
unfolding gives refuses
E97-to-E109 =
    -- E97: the escape inserts the ellipsis
    gives "(list) (let-syntax ((m (syntax-rules () ((_ a) (quote (a (... ...))))))) (m 1))" 1 9 (5 ∷ 2 ∷ 2 ∷ 1 ∷ 4 ∷ 6 ∷ []) ∷
    -- E98: in an escaped template variables are replaced, ellipses are not, and an escape is a list
    gives "(list) (let-syntax ((m (syntax-rules () ((_ a) (quote (... (a ... (... a)))))))) (m 1))" 1 15 (5 ∷ 3 ∷ 2 ∷ 1 ∷ 4 ∷ 6 ∷ 5 ∷ 2 ∷ 4 ∷ 6 ∷ 2 ∷ 1 ∷ []) ∷
    -- E99: a macro that makes a macro with an ellipsis
    gives "(list) (let-syntax ((m (syntax-rules () ((_ n) (let-syntax ((n (syntax-rules () ((_ x (... ...)) (list x (... ...)))))) (n 1 2 3)))))) (m k))"
    2 52 (8 ∷ 3 ∷ 1 ∷ 0 ∷ 2 ∷ 1 ∷ 2 ∷ 2 ∷ 2 ∷ 3 ∷ []) ∷
    -- E100: an escape has two elements
    refuses "(list) (let-syntax ((m (syntax-rules () ((_ a ...) (... a ...))))) (m 1))" 15 0 0 ∷
    -- E101: not one
    refuses "(list) (let-syntax ((m (syntax-rules () ((_ a) (list (...)))))) (m 1))" 15 0 0 ∷
    -- E102: it may be followed by an ellipsis, which its variables drive
    gives "(list) (let-syntax ((m (syntax-rules () ((_ a ...) (list (... (list a)) ...))))) (m 1 2))" 1 15 (8 ∷ 2 ∷ 1 ∷ 0 ∷ 8 ∷ 1 ∷ 1 ∷ 0 ∷ 2 ∷ 1 ∷ 8 ∷ 1 ∷ 1 ∷ 0 ∷ 2 ∷ 2 ∷ []) ∷
    -- E103: ellipses inside do not drive
    refuses "(list) (let-syntax ((m (syntax-rules () ((_ a ...) (list (... (a ...))))))) (m 1 2))" 15 0 0 ∷
    -- E104: the whole template may be an escape
    refuses "() (let-syntax ((m (syntax-rules () ((_) (... ...))))) (m))" 12 1 1 ∷
    -- E105: it costs its template alone
    gives "() (let-syntax ((m (syntax-rules () ((_ a) (... a))))) (m 1))" 1 1 (2 ∷ 1 ∷ []) ∷
    -- E106: beside a chosen one it is a list of two names
    gives "() (let-syntax ((m (syntax-rules e () ((_) (quote (... ...)))))) (m))" 1 9 (5 ∷ 2 ∷ 4 ∷ 6 ∷ 4 ∷ 6 ∷ []) ∷
    -- E107: and the chosen one is escaped
    gives "() (let-syntax ((m (syntax-rules e () ((_ a) (quote (a (e e))))))) (m 1))" 1 9 (5 ∷ 2 ∷ 2 ∷ 1 ∷ 4 ∷ 9 ∷ []) ∷
    -- E108: after an element there is no escape
    refuses "(list) (let-syntax ((m (syntax-rules () ((_ a ...) (list a ... ... 1))))) (m 1))" 15 0 0 ∷
    -- E109: nor in a pattern
    refuses "(list) (let-syntax ((m (syntax-rules () ((_ (... a)) 1)))) (m (1)))" 15 0 0 ∷
    []

pub E97-to-E109-hold : map filed E97-to-E109 ≡ E97-to-E109
unfolding filed E97-to-E109
E97-to-E109-hold = refl

unfoldable pub E110-to-E117 : List Row
unfolding gives refuses
E110-to-E117 =
    -- E110: an escape has not three elements either, though none of them be followed by the ellipsis
    refuses "() (let-syntax ((m (syntax-rules () ((_ a) (... a a))))) (m 1))" 15 0 0 ∷
    -- E111: beside a chosen one _ is no variable, and may stand twice
    gives "() (let-syntax ((m (syntax-rules e () ((_ _ _ e) 1)))) (m 2 3))" 1 1 (2 ∷ 1 ∷ []) ∷
    -- E112: nor a literal
    refuses "() (let-syntax ((m (syntax-rules e (_) ((_) 1)))) (m))" 15 0 0 ∷
    -- E113: eight literals behind a chosen one
    gives "() (let-syntax ((m (syntax-rules e (a b c d f g h i) ((_) 1)))) (m))" 1 1 (2 ∷ 1 ∷ []) ∷
    -- E114: and nine
    refuses "() (let-syntax ((m (syntax-rules e (a b c d f g h i j) ((_) 1)))) (m))" 15 0 0 ∷
    -- E115: sixteen rules behind a chosen one
    gives "() (let-syntax ((m (syntax-rules e () ((_) 1) ((_) 1) ((_) 1) ((_) 1) ((_) 1) ((_) 1) ((_) 1) ((_) 1) ((_) 1) ((_) 1) ((_) 1) ((_) 1) ((_) 1) ((_) 1) ((_) 1) ((_) 1)))) (m))" 1 1 (2 ∷ 1 ∷ []) ∷
    -- E116: and seventeen
    refuses "() (let-syntax ((m (syntax-rules e () ((_) 1) ((_) 1) ((_) 1) ((_) 1) ((_) 1) ((_) 1) ((_) 1) ((_) 1) ((_) 1) ((_) 1) ((_) 1) ((_) 1) ((_) 1) ((_) 1) ((_) 1) ((_) 1) ((_) 1)))) (m))" 15 0 0 ∷
    -- E117: a literal of the chosen one's number is a literal where its marks differ
    gives "() (let-syntax ((w (syntax-rules () ((_ x) (let-syntax ((n (syntax-rules e (x) ((_ x) 1) ((_ y e) 2)))) (n e)))))) (w e))" 2 48 (2 ∷ 1 ∷ []) ∷
    []

pub E110-to-E117-hold : map filed E110-to-E117 ≡ E110-to-E117
unfolding filed E110-to-E117
E110-to-E117-hold = refl
