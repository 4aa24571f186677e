-- Demand 3 computed on recipes: where its hypotheses hold the two runs have equal answers, but for the name words where copies stand,
-- with lookups of copies among what they show;
-- and for each hypothesis there is a recipe where that one alone fails, and the answers differ. Labels such as E28 are those of the
-- recipes with known expansions (crate expansion).
use Rattle.std.specs.Prelude.{◌≡◌, refl, Bool, true, false, cond, List, [], ◌∷◌, map, ℕ, suc}
use Prim.Native.String.{String}
use Rattle.words.specs.Limits.{filing_fuel, filing_work, filing_core}
use Rattle.words.specs.Text.{bytes}
use Rattle.words.specs.Tables.{testing, begun}
use Rattle.recipe.specs.Table.{tree_of}
use Rattle.reading.specs.Elements.{got, refused_for}
use Rattle.reading.specs.Read.{recipe_of, item_words}
use Rattle.expansion.specs.Rules.{has_variable}
use Rattle.expansion.specs.Computation.{looked, quoted, reached, binds, Events}
use Rattle.expansion.specs.Run.{accepted, refused_on, Run}
use Rattle.expansion.specs.Computed.{computed}
use Rattle.private_names.specs.Statement.{Choice, is_old_item, is_copy, renamed, hypotheses, parts, first_with, has_head, form_at, rules_at, rule_at, template_at, is_variable_at, is_private, is_new, renumber, is_reached_at, binds_copy, is_owned_by_copy, quotes_no_copy, finds_own, Answer, answer_of, formal_number, core_with, answer_with}

-- the items of a recipe's text
unfoldable pub items_of : String → List ℕ
unfolding bytes recipe_of item_words
items_of text = elim (recipe_of (bytes text)) [ got r ↦ item_words r | refused_for stage g ↦ [] ]

-- how many lookups of copies a run shows
unfoldable pub copy_lookups : (C : ℕ → Bool) → Events → ℕ
copy_lookups C [] = 0
copy_lookups C (looked x ∷ l) = let later = copy_lookups C l in cond (is_copy C x) (suc later) later
copy_lookups C (quoted x ∷ l) = copy_lookups C l
copy_lookups C (reached x ∷ l) = copy_lookups C l
copy_lookups C (binds b x ∷ l) = copy_lookups C l

-- ---- trials and findings

-- what is tried: a recipe's items; the form's item, its macro, the rule, the old name and the new one (1,000 if not told)
pub record Trial : Type 0 where
  pub items : List ℕ
  pub choice : Choice

-- what comes of it: whether each hypothesis holds, how many lookups of copies the first run shows, and the answers of the two runs
pub record Finding : Type 0 where
  pub hold : List Bool
  pub lookups : ℕ
  pub first : Answer
  pub second : Answer

unfoldable pub trial_of : List ℕ → (form macro rule old new : ℕ) → Trial
trial_of items form macro rule old new = record { items = items; choice = record { form = form; macro = macro; rule = rule; old = old; new = new } }

unfoldable pub trial_to : (new : ℕ) → String → (form macro rule old : ℕ) → Trial
unfolding items_of trial_of
trial_to new text form macro rule old = trial_of (items_of text) form macro rule old new

unfoldable pub trial : String → (form macro rule old : ℕ) → Trial
unfolding trial_to
trial = trial_to 1000

-- an accepted run: steps, sum, core words
unfoldable pub gives : (steps sum : ℕ) → List ℕ → Answer
gives steps sum core = record { outcome = accepted; steps = steps; sum = sum; core = core }

-- one that is turned back by ground 7
unfoldable pub turned_back : Answer
turned_back = record { outcome = refused_on testing 7; steps = 0; sum = 0; core = [] }

-- a refused one: ground, steps, sum
unfoldable pub refuses : (ground_number steps sum : ℕ) → Answer
refuses ground_number steps sum = record { outcome = refused_on begun ground_number; steps = steps; sum = sum; core = [] }

unfoldable pub finding : List Bool → ℕ → Answer → Answer → Finding
finding hold lookups first second = record { hold = hold; lookups = lookups; first = first; second = second }

-- all hypotheses hold, and the two answers are equal
unfoldable pub equal : ℕ → Answer → Finding
equal lookups answer = finding (true ∷ true ∷ true ∷ true ∷ true ∷ []) lookups answer answer

-- all hypotheses hold, and two accepted runs differ in name words alone
unfoldable pub renames : (lookups steps sum : ℕ) → (first second : List ℕ) → Finding
unfolding gives finding
renames lookups steps sum first second = finding (true ∷ true ∷ true ∷ true ∷ true ∷ []) lookups (gives steps sum first) (gives steps sum second)

-- the second run, beside the first
unfoldable pub compared : List ℕ → Choice → Run → Finding
compared ws c r =
    finding (hypotheses ws c r.events) (copy_lookups (is_old_item (tree_of ws) c) r.events) (answer_of r)
    (answer_of (computed (renamed ws c) filing_fuel filing_work filing_core))

-- in the filing program's fuel and tables
unfoldable pub found : Trial → Finding
unfolding
    finding compared copy_lookups computed hypotheses parts first_with has_head form_at rules_at rule_at template_at has_variable is_variable_at
    is_old_item is_private is_new renumber renamed is_reached_at is_copy binds_copy is_owned_by_copy quotes_no_copy finds_own answer_of
found t = compared t.items t.choice (computed t.items filing_fuel filing_work filing_core)

-- ---- the hypotheses hold

-- the items of () (let-syntax ((m (syntax-rules () ((_) (lambda (t) t))))) (m)), a pair's tail before its head
unfoldable pub permuted : List ℕ
permuted = 4 ∷ 2 ∷ 1 ∷ 4 ∷ 4 ∷ 3 ∷ 0 ∷ 0 ∷ 0 ∷ 0 ∷ 0 ∷ 0 ∷ 4 ∷ 6 ∷ 5 ∷ 4 ∷ 8 ∷ 7 ∷ 3 ∷ 3 ∷ 0 ∷ 4 ∷ 10 ∷ 9 ∷ 4 ∷ 12 ∷ 11 ∷ 0 ∷ 0 ∷ 0 ∷ 4 ∷ 14 ∷ 13 ∷ 0 ∷ 0 ∷ 0 ∷ 4 ∷ 16 ∷ 15 ∷ 0 ∷ 0 ∷ 0 ∷ 3 ∷ 8 ∷ 0 ∷ 4 ∷ 18 ∷ 17 ∷ 3 ∷ 8 ∷ 0 ∷ 0 ∷ 0 ∷ 0 ∷ 4 ∷ 20 ∷ 19 ∷ 4 ∷ 22 ∷ 21 ∷ 3 ∷ 5 ∷ 0 ∷ 4 ∷ 24 ∷ 23 ∷ 0 ∷ 0 ∷ 0 ∷ 0 ∷ 0 ∷ 0 ∷ 4 ∷ 26 ∷ 25 ∷ 4 ∷ 28 ∷ 27 ∷ 4 ∷ 30 ∷ 29 ∷ 0 ∷ 0 ∷ 0 ∷ 4 ∷ 32 ∷ 31 ∷ 0 ∷ 0 ∷ 0 ∷ 3 ∷ 7 ∷ 0 ∷ 4 ∷ 34 ∷ 33 ∷ 3 ∷ 2 ∷ 0 ∷ 4 ∷ 36 ∷ 35 ∷ 4 ∷ 38 ∷ 37 ∷ 0 ∷ 0 ∷ 0 ∷ 3 ∷ 9 ∷ 0 ∷ 0 ∷ 0 ∷ 0 ∷ 3 ∷ 9 ∷ 0 ∷ []

unfoldable pub holding : List (Trial × Finding)
unfolding trial trial_to trial_of permuted gives refuses equal renames finding
holding =
    -- E28: bound outside by the name's number, and again inside the template
    (
      trial "() (lambda (t) (let-syntax ((or2 (syntax-rules () ((_ a b) ((lambda (t) (if t t b)) a))))) (or2 #f t)))" 11 0 0 8,
      renames 2 1 21 (7 ∷ 0 ∷ 1 ∷ 8 ∷ 8 ∷ 1 ∷ 7 ∷ 1 ∷ 1 ∷ 8 ∷ 6 ∷ 0 ∷ 1 ∷ 0 ∷ 1 ∷ 0 ∷ 0 ∷ 3 ∷ 0 ∷ []) (7 ∷ 0 ∷ 1 ∷ 8 ∷ 8 ∷ 1 ∷ 7 ∷ 1 ∷ 1 ∷ 1000 ∷ 6 ∷ 0 ∷ 1 ∷ 0 ∷ 1 ∷ 0 ∷ 0 ∷ 3 ∷ 0 ∷ []),
    ) ∷
    -- E22: an operation of that number
    (
      trial "(t) (let-syntax ((or2 (syntax-rules () ((_ a b) ((lambda (t) (if t t b)) a))))) ((lambda (if) (or2 if t)) #f))" 6 0 0 8,
      renames 2 1 21 (8 ∷ 1 ∷ 7 ∷ 0 ∷ 1 ∷ 1 ∷ 8 ∷ 1 ∷ 7 ∷ 1 ∷ 1 ∷ 8 ∷ 6 ∷ 0 ∷ 1 ∷ 0 ∷ 1 ∷ 1 ∷ 0 ∷ 0 ∷ 0 ∷ 3 ∷ 0 ∷ []) (8 ∷ 1 ∷ 7 ∷ 0 ∷ 1 ∷ 1 ∷ 8 ∷ 1 ∷ 7 ∷ 1 ∷ 1 ∷ 1000 ∷ 6 ∷ 0 ∷ 1 ∷ 0 ∷ 1 ∷ 1 ∷ 0 ∷ 0 ∷ 0 ∷ 3 ∷ 0 ∷ []),
    ) ∷
    -- E29: a literal of rules that the template makes
    (
      trial "() (let-syntax ((m (syntax-rules () ((_ a) (lambda (t) (let-syntax ((g (syntax-rules (t) ((_ t) 1) ((_ x) 2)))) (if (g t) (g a) 0))))))) (lambda (t) (m t)))" 4 0 0 10,
      renames 3 3 65 (7 ∷ 0 ∷ 1 ∷ 10 ∷ 7 ∷ 1 ∷ 1 ∷ 10 ∷ 6 ∷ 2 ∷ 1 ∷ 2 ∷ 2 ∷ 2 ∷ 0 ∷ []) (7 ∷ 0 ∷ 1 ∷ 10 ∷ 7 ∷ 1 ∷ 1 ∷ 1000 ∷ 6 ∷ 2 ∷ 1 ∷ 2 ∷ 2 ∷ 2 ∷ 0 ∷ []),
    ) ∷
    -- E30: the macro's own name, bound again
    (
      trial "() (letrec-syntax ((loop (syntax-rules () ((_ x) (letrec-syntax ((loop (syntax-rules () ((_ y) y)))) (loop x)))))) (loop 1))" 4 0 0 8,
      equal 1 (gives 2 32 (2 ∷ 1 ∷ [])),
    ) ∷
    -- E31: a form's name, bound again
    (
      trial "() (let-syntax ((m (syntax-rules () ((_) (lambda (quote) (quote 1)))))) (m))" 4 0 0 0,
      renames 1 1 13 (7 ∷ 0 ∷ 1 ∷ 0 ∷ 8 ∷ 1 ∷ 0 ∷ 0 ∷ 2 ∷ 1 ∷ []) (7 ∷ 0 ∷ 1 ∷ 1000 ∷ 8 ∷ 1 ∷ 0 ∷ 0 ∷ 2 ∷ 1 ∷ []),
    ) ∷
    -- E24: the third rule of letrec-syntax, used twice
    (
      trial "() (letrec-syntax ((or (syntax-rules () ((_) #f) ((_ e) e) ((_ a b ...) ((lambda (t) (if t t (or b ...))) a))))) (lambda (t u) (or t u #f)))" 4 0 2 12,
      renames 4 3 53 (7 ∷ 0 ∷ 2 ∷ 12 ∷ 13 ∷ 8 ∷ 1 ∷ 7 ∷ 2 ∷ 1 ∷ 12 ∷ 6 ∷ 0 ∷ 2 ∷ 0 ∷ 2 ∷ 8 ∷ 1 ∷ 7 ∷ 3 ∷ 1 ∷ 12 ∷ 6 ∷ 0 ∷ 3 ∷ 0 ∷ 3 ∷ 3 ∷ 0 ∷ 0 ∷ 1 ∷ 0 ∷ 0 ∷ []) (7 ∷ 0 ∷ 2 ∷ 12 ∷ 13 ∷ 8 ∷ 1 ∷ 7 ∷ 2 ∷ 1 ∷ 1000 ∷ 6 ∷ 0 ∷ 2 ∷ 0 ∷ 2 ∷ 8 ∷ 1 ∷ 7 ∷ 3 ∷ 1 ∷ 1000 ∷ 6 ∷ 0 ∷ 3 ∷ 0 ∷ 3 ∷ 3 ∷ 0 ∷ 0 ∷ 1 ∷ 0 ∷ 0 ∷ []),
    ) ∷
    -- E14: a variable of rules that the template makes
    (
      trial "() (let-syntax ((m (syntax-rules () ((_ a) (let-syntax ((n (syntax-rules () ((_ b) b)))) (n a)))))) (m 7))" 4 0 0 11,
      equal 0 (gives 2 32 (2 ∷ 7 ∷ [])),
    ) ∷
    -- E14: a macro that the template makes
    (
      trial "() (let-syntax ((m (syntax-rules () ((_ a) (let-syntax ((n (syntax-rules () ((_ b) b)))) (n a)))))) (m 7))" 4 0 0 10,
      equal 1 (gives 2 32 (2 ∷ 7 ∷ [])),
    ) ∷
    -- E26: through a macro that the template makes
    (
      trial "() (let-syntax ((m (syntax-rules () ((_) (lambda (x) (let-syntax ((n (syntax-rules () ((_ y) (lambda (y) x))))) (n x))))))) (m))" 4 0 0 9,
      renames 1 2 56 (7 ∷ 0 ∷ 1 ∷ 9 ∷ 7 ∷ 1 ∷ 1 ∷ 9 ∷ 0 ∷ 0 ∷ []) (7 ∷ 0 ∷ 1 ∷ 1000 ∷ 7 ∷ 1 ∷ 1 ∷ 1000 ∷ 0 ∷ 0 ∷ []),
    ) ∷
    -- refused in both runs: syntax-rules bound, then heading rules
    (
      trial "() (let-syntax ((m (syntax-rules () ((_) (lambda (syntax-rules) (let-syntax ((k (syntax-rules () ((_) 1)))) (k))))))) (m))" 4 0 0 5,
      equal 1 (refuses 15 1 35),
    ) ∷
    -- a literal of its own rules
    (
      trial "() (let-syntax ((m (syntax-rules (t) ((_ t) (lambda (t) t)) ((_ x) 0)))) (m t))" 4 0 0 9,
      renames 1 1 9 (7 ∷ 0 ∷ 1 ∷ 9 ∷ 0 ∷ 0 ∷ []) (7 ∷ 0 ∷ 1 ∷ 1000 ∷ 0 ∷ 0 ∷ []),
    ) ∷
    -- an operation's name, bound
    (
      trial "(op) (let-syntax ((m (syntax-rules () ((_ a) (lambda (op) (op a)))))) (m op))" 6 0 0 8,
      renames 1 1 13 (7 ∷ 0 ∷ 1 ∷ 8 ∷ 8 ∷ 1 ∷ 0 ∷ 0 ∷ 1 ∷ 0 ∷ []) (7 ∷ 0 ∷ 1 ∷ 1000 ∷ 8 ∷ 1 ∷ 0 ∷ 0 ∷ 1 ∷ 0 ∷ []),
    ) ∷
    -- the second rule of the second macro
    (
      trial "() (lambda (z) (let-syntax ((k (syntax-rules () ((_) 1))) (m (syntax-rules () ((_ a) 0) ((_ a b) ((lambda (t) (t b)) a))))) ((m z z) (k))))" 11 1 1 13,
      renames 1 2 18 (7 ∷ 0 ∷ 1 ∷ 8 ∷ 8 ∷ 1 ∷ 8 ∷ 1 ∷ 7 ∷ 1 ∷ 1 ∷ 13 ∷ 8 ∷ 1 ∷ 0 ∷ 1 ∷ 0 ∷ 0 ∷ 0 ∷ 0 ∷ 2 ∷ 1 ∷ []) (7 ∷ 0 ∷ 1 ∷ 8 ∷ 8 ∷ 1 ∷ 8 ∷ 1 ∷ 7 ∷ 1 ∷ 1 ∷ 1000 ∷ 8 ∷ 1 ∷ 0 ∷ 1 ∷ 0 ∷ 0 ∷ 0 ∷ 0 ∷ 2 ∷ 1 ∷ []),
    ) ∷
    -- the pattern's first place
    (
      trial "() (letrec-syntax ((m (syntax-rules () ((m x) (lambda (m) (m x)))))) (m 1))" 4 0 0 8,
      renames 1 1 13 (7 ∷ 0 ∷ 1 ∷ 8 ∷ 8 ∷ 1 ∷ 0 ∷ 0 ∷ 2 ∷ 1 ∷ []) (7 ∷ 0 ∷ 1 ∷ 1000 ∷ 8 ∷ 1 ∷ 0 ∷ 0 ∷ 2 ∷ 1 ∷ []),
    ) ∷
    -- the form is refused by its shape
    (
      trial "() (let-syntax ((m (syntax-rules () ((_) t)))))" 4 0 0 9,
      equal 0 (refuses 13 0 0),
    ) ∷
    -- by its names
    (
      trial "() (let-syntax ((m (syntax-rules () ((_) t))) (m (syntax-rules () ((_) t)))) 1)" 4 1 0 9,
      equal 0 (refuses 14 0 0),
    ) ∷
    -- by the rule itself
    (
      trial "() (let-syntax ((m (syntax-rules () ((_ a ...) (t a))))) 1)" 4 0 0 10,
      equal 0 (refuses 15 0 0),
    ) ∷
    -- by the head of the rules
    (
      trial "() (let-syntax ((m (foo () ((_) t)))) 1)" 4 0 0 10,
      equal 0 (refuses 15 0 0),
    ) ∷
    -- copies bound twice by one form
    (
      trial "() (let-syntax ((m (syntax-rules () ((_ a) (lambda (t t) a))))) (m 1))" 4 0 0 10,
      equal 0 (refuses 14 1 11),
    ) ∷
    -- a quote of copies that has another shape
    (
      trial "() (let-syntax ((m (syntax-rules () ((_ a) (lambda (t) (quote t t)))))) (m 1))" 4 0 0 10,
      equal 0 (refuses 13 1 15),
    ) ∷
    -- copies under an ellipsis, through another macro
    (
      trial "() (if 1 2 (lambda (q) (q (let-syntax ((m (syntax-rules () ((_ (a b) ...) (lambda (t) (t (a t) ...)))))) (let-syntax ((n (syntax-rules () ((_ x) (m (x x) (x x)))))) (n q))))))" 21 0 0 12,
      renames 3 2 38 (6 ∷ 2 ∷ 1 ∷ 2 ∷ 2 ∷ 7 ∷ 0 ∷ 1 ∷ 8 ∷ 8 ∷ 1 ∷ 0 ∷ 0 ∷ 7 ∷ 1 ∷ 1 ∷ 12 ∷ 8 ∷ 2 ∷ 0 ∷ 1 ∷ 8 ∷ 1 ∷ 0 ∷ 0 ∷ 0 ∷ 1 ∷ 8 ∷ 1 ∷ 0 ∷ 0 ∷ 0 ∷ 1 ∷ []) (6 ∷ 2 ∷ 1 ∷ 2 ∷ 2 ∷ 7 ∷ 0 ∷ 1 ∷ 8 ∷ 8 ∷ 1 ∷ 0 ∷ 0 ∷ 7 ∷ 1 ∷ 1 ∷ 1000 ∷ 8 ∷ 2 ∷ 0 ∷ 1 ∷ 8 ∷ 1 ∷ 0 ∷ 0 ∷ 0 ∷ 1 ∷ 8 ∷ 1 ∷ 0 ∷ 0 ∷ 0 ∷ 1 ∷ []),
    ) ∷
    -- beside an ellipsis of the author's choice
    (
      trial "() (let-syntax ((m (syntax-rules e () ((_ a e) (lambda (t) (t a e)))))) (m 1 2))" 4 0 0 11,
      renames 1 1 15 (7 ∷ 0 ∷ 1 ∷ 11 ∷ 8 ∷ 2 ∷ 0 ∷ 0 ∷ 2 ∷ 1 ∷ 2 ∷ 2 ∷ []) (7 ∷ 0 ∷ 1 ∷ 1000 ∷ 8 ∷ 2 ∷ 0 ∷ 0 ∷ 2 ∷ 1 ∷ 2 ∷ 2 ∷ []),
    ) ∷
    -- E94: the ellipsis of rules that the template makes
    (
      trial "(list) (let-syntax ((w (syntax-rules () ((_ x) (let-syntax ((n (syntax-rules e () ((_ a e) (list a e))))) (n x 2)))))) (w 1))" 6 0 0 12,
      equal 0 (gives 2 50 (8 ∷ 2 ∷ 1 ∷ 0 ∷ 2 ∷ 1 ∷ 2 ∷ 2 ∷ [])),
    ) ∷
    -- in an escaped template
    (
      trial "() (let-syntax ((m (syntax-rules () ((_ a) (... (lambda (t) (t a))))))) (m 1))" 4 0 0 10,
      renames 1 1 13 (7 ∷ 0 ∷ 1 ∷ 10 ∷ 8 ∷ 1 ∷ 0 ∷ 0 ∷ 2 ∷ 1 ∷ []) (7 ∷ 0 ∷ 1 ∷ 1000 ∷ 8 ∷ 1 ∷ 0 ∷ 0 ∷ 2 ∷ 1 ∷ []),
    ) ∷
    -- a use with too few elements for what follows an ellipsis: nothing is looked up before the second rule
    (
      trial "() (let-syntax ((n (syntax-rules (else) ((_ a ... else b) 1) ((_ x) (lambda (x) x))))) (let-syntax ((m (syntax-rules () ((_) (n t))))) (m)))" 55 0 0 14,
      renames 1 2 14 (7 ∷ 0 ∷ 1 ∷ 14 ∷ 0 ∷ 0 ∷ []) (7 ∷ 0 ∷ 1 ∷ 1000 ∷ 0 ∷ 0 ∷ []),
    ) ∷
    -- a macro without end that the template makes
    (
      trial "() (let-syntax ((m (syntax-rules () ((_) (letrec-syntax ((t (syntax-rules () ((_) (t))))) (t)))))) (m))" 4 0 0 9,
      equal 162 (refuses 18 162 512),
    ) ∷
    -- the fourth rule of the third macro, beside decimals, three operations and a quotation of what the use brings; the new name is the next one
    (
      trial_to 18 "(list near far) (let-syntax ((a (syntax-rules () ((_) 0.8))) (b (syntax-rules () ((_) 1))) (m (syntax-rules () ((_) 1) ((_ x) x) ((_ x y) y) ((_ x y z) (lambda (t) (list t (quote x) (near y z 0.80))))))) (m t 0.90 (a)))" 10 2 3 17,
      renames 1 2 32 (7 ∷ 0 ∷ 1 ∷ 17 ∷ 8 ∷ 3 ∷ 1 ∷ 0 ∷ 0 ∷ 0 ∷ 4 ∷ 17 ∷ 8 ∷ 3 ∷ 1 ∷ 1 ∷ 9 ∷ 90 ∷ 2 ∷ 9 ∷ 8 ∷ 1 ∷ 9 ∷ 80 ∷ 2 ∷ []) (7 ∷ 0 ∷ 1 ∷ 18 ∷ 8 ∷ 3 ∷ 1 ∷ 0 ∷ 0 ∷ 0 ∷ 4 ∷ 17 ∷ 8 ∷ 3 ∷ 1 ∷ 1 ∷ 9 ∷ 90 ∷ 2 ∷ 9 ∷ 8 ∷ 1 ∷ 9 ∷ 80 ∷ 2 ∷ []),
    ) ∷
    -- items in another order than reading's
    (trial_of permuted 6 0 0 9 1000, renames 1 1 9 (7 ∷ 0 ∷ 1 ∷ 9 ∷ 0 ∷ 0 ∷ []) (7 ∷ 0 ∷ 1 ∷ 1000 ∷ 0 ∷ 0 ∷ [])) ∷
    []

pub hypotheses-hold : map (λ r. found r.0) holding ≡ map (λ r. r.1) holding
unfolding found holding
hypotheses-hold = refl

-- what the claim says of the two answers, by the first run alone
unfoldable pub claimed : Trial → Answer × Answer
unfolding computed parts first_with has_head form_at rules_at rule_at template_at is_old_item is_copy formal_number core_with answer_with
claimed t =
    let C = is_old_item (tree_of t.items) t.choice in
    let r = computed t.items filing_fuel filing_work filing_core in
    (answer_with C t.choice.old r, answer_with C t.choice.new r)

pub claims-hold : map (λ r. claimed r.0) holding ≡ map (λ r. (r.1.first, r.1.second)) holding
unfolding claimed holding
claims-hold = refl

-- ---- one hypothesis fails, and the answers differ

unfoldable pub failing : List (Trial × Finding)
unfolding trial trial_to gives refuses turned_back finding
failing =
    -- E25: a lookup of a copy finds a binding whose own name is none
    (
      trial "() (lambda (x) (let-syntax ((m (syntax-rules () ((_) x)))) (m)))" 11 0 0 8,
      finding (true ∷ true ∷ true ∷ true ∷ false ∷ []) 1 (gives 1 1 (7 ∷ 0 ∷ 1 ∷ 8 ∷ 0 ∷ 0 ∷ [])) (refuses 11 1 1),
    ) ∷
    -- E24: a lookup of a copy finds the macro itself
    (
      trial "() (letrec-syntax ((or (syntax-rules () ((_) #f) ((_ e) e) ((_ a b ...) ((lambda (t) (if t t (or b ...))) a))))) (lambda (t u) (or t u #f)))" 4 0 2 8,
      finding (true ∷ true ∷ true ∷ true ∷ false ∷ []) 2 (gives 3 53 (7 ∷ 0 ∷ 2 ∷ 12 ∷ 13 ∷ 8 ∷ 1 ∷ 7 ∷ 2 ∷ 1 ∷ 12 ∷ 6 ∷ 0 ∷ 2 ∷ 0 ∷ 2 ∷ 8 ∷ 1 ∷ 7 ∷ 3 ∷ 1 ∷ 12 ∷ 6 ∷ 0 ∷ 3 ∷ 0 ∷ 3 ∷ 3 ∷ 0 ∷ 0 ∷ 1 ∷ 0 ∷ 0 ∷ [])) (refuses 11 1 27),
    ) ∷
    -- E22: a lookup of a copy finds a form
    (
      trial "(t) (let-syntax ((or2 (syntax-rules () ((_ a b) ((lambda (t) (if t t b)) a))))) ((lambda (if) (or2 if t)) #f))" 6 0 0 1,
      finding (true ∷ true ∷ true ∷ true ∷ false ∷ []) 1 (gives 1 21 (8 ∷ 1 ∷ 7 ∷ 0 ∷ 1 ∷ 1 ∷ 8 ∷ 1 ∷ 7 ∷ 1 ∷ 1 ∷ 8 ∷ 6 ∷ 0 ∷ 1 ∷ 0 ∷ 1 ∷ 1 ∷ 0 ∷ 0 ∷ 0 ∷ 3 ∷ 0 ∷ [])) (refuses 11 1 21),
    ) ∷
    -- E14: the head of a rules form
    (
      trial "() (let-syntax ((m (syntax-rules () ((_ a) (let-syntax ((n (syntax-rules () ((_ b) b)))) (n a)))))) (m 7))" 4 0 0 5,
      finding (true ∷ true ∷ true ∷ true ∷ false ∷ []) 1 (gives 2 32 (2 ∷ 7 ∷ [])) (refuses 15 1 31),
    ) ∷
    -- E07: a copy compared with a literal finds nothing
    (
      trial "() (let-syntax ((c (syntax-rules (else) ((_ else) 1) ((_ x) 2)))) (let-syntax ((w (syntax-rules () ((_) (c else))))) (w)))" 41 0 0 9,
      finding (true ∷ true ∷ true ∷ true ∷ false ∷ []) 1 (gives 2 6 (2 ∷ 1 ∷ [])) (gives 2 6 (2 ∷ 2 ∷ [])),
    ) ∷
    -- a copy is quoted
    (
      trial "() (let-syntax ((m (syntax-rules () ((_) (quote x))))) (m))" 4 0 0 9,
      finding (true ∷ true ∷ true ∷ false ∷ true ∷ []) 0 (gives 1 5 (4 ∷ 9 ∷ [])) (gives 1 5 (4 ∷ 1000 ∷ [])),
    ) ∷
    -- a copy is quoted by a later step
    (
      trial "() (let-syntax ((q (syntax-rules () ((_ x) (quote x))))) (let-syntax ((m (syntax-rules () ((_) (lambda (t) (q t)))))) (m)))" 33 0 0 11,
      finding (true ∷ true ∷ true ∷ false ∷ true ∷ []) 0 (gives 2 18 (7 ∷ 0 ∷ 1 ∷ 11 ∷ 4 ∷ 11 ∷ [])) (gives 2 18 (7 ∷ 0 ∷ 1 ∷ 1000 ∷ 4 ∷ 1000 ∷ [])),
    ) ∷
    -- the form is reached through a macro's result alone, where its template's name is the outer rule's variable
    (
      trial "() (let-syntax ((m (syntax-rules () ((_ x) (let-syntax ((n (syntax-rules () ((_) x)))) (n)))))) (m 5))" 23 0 0 9,
      finding (false ∷ true ∷ true ∷ true ∷ true ∷ []) 0 (gives 2 28 (2 ∷ 5 ∷ [])) (refuses 11 2 28),
    ) ∷
    -- the form is quoted, and never reached
    (
      trial "() (quote (let-syntax ((m (syntax-rules () ((_) x)))) 1))" 7 0 0 9,
      finding (false ∷ true ∷ true ∷ true ∷ true ∷ []) 0 (gives 0 0 (5 ∷ 3 ∷ 4 ∷ 3 ∷ 5 ∷ 1 ∷ 5 ∷ 2 ∷ 4 ∷ 8 ∷ 5 ∷ 3 ∷ 4 ∷ 5 ∷ 5 ∷ 0 ∷ 5 ∷ 2 ∷ 5 ∷ 1 ∷ 4 ∷ 7 ∷ 4 ∷ 9 ∷ 2 ∷ 1 ∷ [])) (gives 0 0 (5 ∷ 3 ∷ 4 ∷ 3 ∷ 5 ∷ 1 ∷ 5 ∷ 2 ∷ 4 ∷ 8 ∷ 5 ∷ 3 ∷ 4 ∷ 5 ∷ 5 ∷ 0 ∷ 5 ∷ 2 ∷ 5 ∷ 1 ∷ 4 ∷ 7 ∷ 4 ∷ 1000 ∷ 2 ∷ 1 ∷ [])),
    ) ∷
    -- the new name is one that the template has: it becomes the lambda's
    (
      trial_to 8 "(a) (let-syntax ((m (syntax-rules () ((_) (lambda (t) a))))) (m))" 6 0 0 10,
      finding (true ∷ true ∷ false ∷ true ∷ true ∷ []) 0 (gives 1 9 (7 ∷ 0 ∷ 1 ∷ 10 ∷ 1 ∷ 0 ∷ [])) (gives 1 9 (7 ∷ 0 ∷ 1 ∷ 8 ∷ 0 ∷ 0 ∷ [])),
    ) ∷
    -- a variable of the rule
    (
      trial "() (let-syntax ((m (syntax-rules () ((_ a) a)))) (m 7))" 4 0 0 9,
      finding (true ∷ false ∷ true ∷ true ∷ true ∷ []) 0 (gives 1 1 (2 ∷ 7 ∷ [])) (refuses 11 1 1),
    ) ∷
    -- the old name is `...`
    (
      trial "(list) (let-syntax ((l (syntax-rules () ((_ a ...) (list a ...))))) (l 1 2))" 6 0 0 6,
      finding (true ∷ false ∷ true ∷ true ∷ true ∷ []) 0 (gives 1 7 (8 ∷ 2 ∷ 1 ∷ 0 ∷ 2 ∷ 1 ∷ 2 ∷ 2 ∷ [])) (refuses 15 0 0),
    ) ∷
    -- the old name is `...` beside an ellipsis of the author's choice, where it is an ordinary name that no form can bind
    (
      trial "() (let-syntax ((m (syntax-rules e () ((_) (lambda (...) 1))))) (m))" 4 0 0 6,
      finding (true ∷ false ∷ true ∷ true ∷ true ∷ []) 0 (refuses 13 1 9) (gives 1 9 (7 ∷ 0 ∷ 1 ∷ 1000 ∷ 2 ∷ 1 ∷ [])),
    ) ∷
    -- the old name is the ellipsis of the author's choice
    (
      trial "(list) (let-syntax ((l (syntax-rules e () ((_ a e) (list a e))))) (l 1 2))" 6 0 0 10,
      finding (true ∷ false ∷ true ∷ true ∷ true ∷ []) 0 (gives 1 7 (8 ∷ 2 ∷ 1 ∷ 0 ∷ 2 ∷ 1 ∷ 2 ∷ 2 ∷ [])) (refuses 15 0 0),
    ) ∷
    -- the old name is `_`
    (
      trial "() (let-syntax ((m (syntax-rules () ((_) (let-syntax ((n (syntax-rules () ((n _ _) 5)))) (n 1 2)))))) (m))" 4 0 0 7,
      finding (true ∷ false ∷ true ∷ true ∷ true ∷ []) 0 (gives 2 36 (2 ∷ 5 ∷ [])) (refuses 15 1 35),
    ) ∷
    -- the new name is a base form's: `...` binds nothing
    (
      trial_to 6 "() (let-syntax ((m (syntax-rules () ((_) (lambda (t) t))))) (m))" 4 0 0 9,
      finding (true ∷ true ∷ false ∷ true ∷ true ∷ []) 1 (gives 1 9 (7 ∷ 0 ∷ 1 ∷ 9 ∷ 0 ∷ 0 ∷ [])) (refuses 15 0 0),
    ) ∷
    -- the new name is past the last number: the table has no layout
    (
      trial_to 1024 "() (let-syntax ((m (syntax-rules () ((_) (lambda (t) t))))) (m))" 4 0 0 9,
      finding (true ∷ true ∷ false ∷ true ∷ true ∷ []) 1 (gives 1 9 (7 ∷ 0 ∷ 1 ∷ 9 ∷ 0 ∷ 0 ∷ [])) turned_back,
    ) ∷
    []

pub hypothesis-fails : map (λ r. found r.0) failing ≡ map (λ r. r.1) failing
unfolding found failing
hypothesis-fails = refl
