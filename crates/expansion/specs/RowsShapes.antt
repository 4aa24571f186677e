-- Known answers to the shapes of forms (grounds 11 to 13) and of rules (ground 15), each with its limits; no macro is used. And forms
-- with a limit of macros of their own.
use Rattle.std.specs.Prelude.{◌≡◌, refl, List, [], ◌∷◌, map, ℕ, ◌+◌}
use Prim.Native.String.{String}
use Rattle.words.specs.Limits.{filing_fuel}
use Rattle.words.specs.Text.{bytes}
use Rattle.words.specs.Tables.{begun}
use Rattle.recipe.specs.Tree.{size, element}
use Rattle.recipe.specs.Table.{tree_of}
use Rattle.reading.specs.Read.{recipe_of}
use Rattle.expansion.specs.Computation.{start}
use Rattle.expansion.specs.Forms.{expand_within}
use Rattle.expansion.specs.Run.{Outcome, accepted, refused_on, ended}
use Rattle.expansion.specs.Computed.{computed}
use Rattle.expansion.specs.Row.{Row, gives, refuses, items_of, filed}

unfoldable pub shapes : List Row
unfolding gives refuses
shapes =
    -- bare names that are no variables and no operations
    refuses "() x" 11 0 0 ∷
    refuses "() if" 12 0 0 ∷
    refuses "() syntax-rules" 12 0 0 ∷
    refuses "() ..." 12 0 0 ∷
    refuses "() _" 12 0 0 ∷
    -- heads that make no expression
    refuses "() (syntax-rules 1)" 12 0 0 ∷
    refuses "() (... 1)" 12 0 0 ∷
    refuses "() (_ 1)" 12 0 0 ∷
    -- quote and if
    refuses "() (quote)" 13 0 0 ∷
    refuses "() (quote 1 2)" 13 0 0 ∷
    refuses "() (if 1 2)" 13 0 0 ∷
    refuses "() (if 1 2 3 4)" 13 0 0 ∷
    -- lambda: three parts, and a list of at most 8 names other than ... and _
    refuses "() (lambda (x))" 13 0 0 ∷
    refuses "() (lambda (x) 1 2)" 13 0 0 ∷
    refuses "() (lambda x 1)" 13 0 0 ∷
    refuses "() (lambda (1) 1)" 13 0 0 ∷
    refuses "() (lambda (...) 1)" 13 0 0 ∷
    gives "() (lambda (a b c d e f g h) 1)" 0 0 (7 ∷ 0 ∷ 8 ∷ 8 ∷ 9 ∷ 10 ∷ 11 ∷ 12 ∷ 13 ∷ 14 ∷ 15 ∷ 2 ∷ 1 ∷ []) ∷
    refuses "() (lambda (a b c d e f g h i) 1)" 13 0 0 ∷
    -- let-syntax: three parts, and a list of 1 to 16 pairs of a name and rules
    refuses "() (let-syntax ((m 1)))" 13 0 0 ∷
    refuses "() (let-syntax m 1)" 13 0 0 ∷
    refuses "() (let-syntax () 1)" 13 0 0 ∷
    refuses "() (let-syntax (m) 1)" 13 0 0 ∷
    refuses "() (let-syntax ((m)) 1)" 13 0 0 ∷
    refuses "() (let-syntax ((m 1 2)) 1)" 13 0 0 ∷
    refuses "() (let-syntax ((1 1)) 1)" 13 0 0 ∷
    refuses "() (letrec-syntax ((_ 1)) 1)" 13 0 0 ∷
    refuses "() (let-syntax ((a 1) (b 1) (c 1) (d 1) (e 1) (f 1) (g 1) (h 1) (i 1) (j 1) (k 1) (l 1) (m 1) (n 1) (o 1) (p 1)) 1)" 15 0 0 ∷
    refuses "() (let-syntax ((a 1) (b 1) (c 1) (d 1) (e 1) (f 1) (g 1) (h 1) (i 1) (j 1) (k 1) (l 1) (m 1) (n 1) (o 1) (p 1) (q 1)) 1)" 13 0 0 ∷
    []

pub shapes-hold : map filed shapes ≡ shapes
unfolding filed shapes
shapes-hold = refl

unfoldable pub rules : List Row
unfolding gives refuses
rules =
    -- what is no rules form
    refuses "() (let-syntax ((m 1)) 1)" 15 0 0 ∷
    refuses "() (let-syntax ((m ())) 1)" 15 0 0 ∷
    refuses "() (let-syntax ((m (quote ()))) 1)" 15 0 0 ∷
    refuses "() (let-syntax ((m (syntax-rules))) 1)" 15 0 0 ∷
    -- literals: a list of at most 8 names other than ... and _, which may be form names or stand twice
    refuses "() (let-syntax ((m (syntax-rules x ((_) 1)))) 1)" 15 0 0 ∷
    refuses "() (let-syntax ((m (syntax-rules (1) ((_) 1)))) 1)" 15 0 0 ∷
    refuses "() (let-syntax ((m (syntax-rules (_) ((_) 1)))) 1)" 15 0 0 ∷
    refuses "() (let-syntax ((m (syntax-rules (...) ((_) 1)))) 1)" 15 0 0 ∷
    gives "() (let-syntax ((m (syntax-rules (if if) ((_) 1)))) 1)" 0 0 (2 ∷ 1 ∷ []) ∷
    gives "() (let-syntax ((m (syntax-rules (a b c d e f g h) ((_) 1)))) 1)" 0 0 (2 ∷ 1 ∷ []) ∷
    refuses "() (let-syntax ((m (syntax-rules (a b c d e f g h i) ((_) 1)))) 1)" 15 0 0 ∷
    -- 1 to 16 rules, each of two parts
    refuses "() (let-syntax ((m (syntax-rules ()))) 1)" 15 0 0 ∷
    refuses "() (let-syntax ((m (syntax-rules () ((_))))) 1)" 15 0 0 ∷
    refuses "() (let-syntax ((m (syntax-rules () ((_) 1 2)))) 1)" 15 0 0 ∷
    refuses "() (let-syntax ((m (syntax-rules () 1))) 1)" 15 0 0 ∷
    gives "() (let-syntax ((m (syntax-rules () ((_) 1) ((_) 1) ((_) 1) ((_) 1) ((_) 1) ((_) 1) ((_) 1) ((_) 1) ((_) 1) ((_) 1) ((_) 1) ((_) 1) ((_) 1) ((_) 1) ((_) 1) ((_) 1)))) 1)" 0 0 (2 ∷ 1 ∷ []) ∷
    refuses "() (let-syntax ((m (syntax-rules () ((_) 1) ((_) 1) ((_) 1) ((_) 1) ((_) 1) ((_) 1) ((_) 1) ((_) 1) ((_) 1) ((_) 1) ((_) 1) ((_) 1) ((_) 1) ((_) 1) ((_) 1) ((_) 1) ((_) 1)))) 1)" 15 0 0 ∷
    -- a pattern is a list whose first place is a name other than ...
    refuses "() (let-syntax ((m (syntax-rules () (_ 1)))) 1)" 15 0 0 ∷
    refuses "() (let-syntax ((m (syntax-rules () (() 1)))) 1)" 15 0 0 ∷
    refuses "() (let-syntax ((m (syntax-rules () ((1) 1)))) 1)" 15 0 0 ∷
    refuses "() (let-syntax ((m (syntax-rules () ((... a) 1)))) 1)" 15 0 0 ∷
    -- ... stands once in a list, after an element other than that first place
    refuses "() (let-syntax ((m (syntax-rules () ((_ ...) 1)))) 1)" 15 0 0 ∷
    refuses "() (let-syntax ((m (syntax-rules () ((_ (... a)) 1)))) 1)" 15 0 0 ∷
    refuses "() (let-syntax ((m (syntax-rules () ((_ (...)) 1)))) 1)" 15 0 0 ∷
    gives "() (let-syntax ((m (syntax-rules () ((_ a ... b) 1)))) 1)" 0 0 (2 ∷ 1 ∷ []) ∷
    refuses "() (let-syntax ((m (syntax-rules () ((_ a ... ...) 1)))) 1)" 15 0 0 ∷
    gives "() (let-syntax ((m (syntax-rules () ((_ _ (1 ...) ...) 1)))) 1)" 0 0 (2 ∷ 1 ∷ []) ∷
    -- at most 16 variables, no two the same
    gives "() (let-syntax ((m (syntax-rules () ((_ a b c d e f g h i j k l m n o p) 1)))) 1)" 0 0 (2 ∷ 1 ∷ []) ∷
    refuses "() (let-syntax ((m (syntax-rules () ((_ a b c d e f g h i j k l m n o p q) 1)))) 1)" 15 0 0 ∷
    refuses "() (let-syntax ((m (syntax-rules () ((_ a (a)) 1)))) 1)" 15 0 0 ∷
    -- a variable under one ellipsis, and under two in the template
    gives "() (let-syntax ((m (syntax-rules () ((_ (a ...) ((b ...) ...)) (((a b) ...) ...))))) 1)" 0 0 (2 ∷ 1 ∷ []) ∷
    -- a template is not ..., has no ... first in a list but for an escape, and no two in succession
    refuses "() (let-syntax ((m (syntax-rules () ((_ a ...) ...)))) 1)" 15 0 0 ∷
    refuses "() (let-syntax ((m (syntax-rules () ((_ a ...) (... a))))) 1)" 15 0 0 ∷
    refuses "() (let-syntax ((m (syntax-rules () ((_ a ...) (a ... ...))))) 1)" 15 0 0 ∷
    refuses "() (let-syntax ((m (syntax-rules () ((_ (a ...) ...) (a ... ...))))) 1)" 15 0 0 ∷
    gives "() (let-syntax ((m (syntax-rules () ((_ (a ...) ...) ((a ...) ... _ if))))) 1)" 0 0 (2 ∷ 1 ∷ []) ∷
    []

pub rules-hold : map filed rules ≡ rules
unfolding filed rules
rules-hold = refl

-- ---- limits of macros

-- what comes of a recipe's expression with these limits, of the form at hand and of those inside it
unfoldable pub limited : (limit inner : ℕ) → String → Outcome
unfolding bytes recipe_of items_of computed
limited limit inner text =
    let t = tree_of (items_of (recipe_of (bytes text))) in
    (ended (expand_within limit inner [] filing_fuel (size t + filing_fuel) (element 1 t) start)).outcome

-- two macros at hand, and inside a form with one
abbrev two : String
two = "() (let-syntax ((a (syntax-rules () ((_) 1))) (b (syntax-rules () ((_) 1)))) 1)"

abbrev inside : String
inside = "() (let-syntax ((a (syntax-rules () ((_) 1)))) (if 1 (let-syntax ((a (syntax-rules () ((_) 1))) (b (syntax-rules () ((_) 1)))) 1) 2))"

pub limits-hold : limited 1 2 two ∷ limited 2 1 two ∷ limited 1 2 inside ∷ limited 2 1 inside ∷ [] ≡ refused_on begun 13 ∷ accepted ∷ accepted ∷ refused_on begun 13 ∷ []
unfolding limited
limits-hold = refl
