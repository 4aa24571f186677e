-- Forms (document 01, the section of that title): the expansion of an expression, from the left, outside in (grounds 11 to 18).
use Rattle.std.specs.Prelude.{Bool, true, false, ◌&&◌, cond, List, [], ◌∷◌, ◌++◌, map, ℕ, zero, suc, ◌+◌, leb, length, get_or}
use Rattle.words.specs.Limits.{formals_most}
use Rattle.words.specs.Lists.{within, all_of}
use Rattle.datum.specs.Datum.{constant_d}
use Rattle.recipe.specs.Name.{Binding, variable, macro, Name, distinct}
use Rattle.recipe.specs.Tree.{Tree, empty, constant, name, pair, size, names, strip, on_name, is_ordinary_name, is_list, is_list_of, elements, element, tail, mark, produce, bind_all}
use Rattle.core_term.specs.Term.{Term, variable_c, operation_c, datum_c, if_c, lambda_c, application_c, Terms, none_c, more_c}
use Rattle.expansion.specs.Lookup.{quote, if, lambda, let-syntax, letrec-syntax, auxiliary, Found, bound, form, operation, nothing, lookup}
use Rattle.expansion.specs.Rules.{Rule, rules_of}
use Rattle.expansion.specs.Match.{first_fit}
use Rattle.expansion.specs.Transcribe.{equal_lengths, transcribe}
use Rattle.expansion.specs.Computation.{Events, looked, quoted, reached, binds, starved, M, ◌>>=◌, ◌>>◌, give, refuse, show, test, or_refuse, get, add_variables, add_macros, add_step}

-- ---- shapes (ground 13) and what a form binds

-- (lambda (name ...) body)
unfoldable pub is_lambda : Tree → Bool
is_lambda t = is_list_of 3 t && (is_list (element 1 t) && (all_of is_ordinary_name (elements (element 1 t)) && leb (length (elements (element 1 t))) formals_most))

unfoldable pub formals : Tree → List Name
formals t = names (element 1 t)

-- (name rules)
unfoldable pub is_macro : Tree → Bool
is_macro c = is_list_of 2 c && is_ordinary_name (element 0 c)

-- (let-syntax ((name rules) ...) body)
unfoldable pub is_macros : ℕ → Tree → Bool
is_macros limit t = is_list_of 3 t && (is_list (element 1 t) && (all_of is_macro (elements (element 1 t)) && within 1 limit (length (elements (element 1 t)))))

-- the names of the macros, and their rules forms
unfoldable pub first_names : List Tree → List Name
first_names [] = []
first_names (c ∷ cs) = names (element 0 c) ++ first_names cs

unfoldable pub keywords : Tree → List Name
keywords t = first_names (elements (element 1 t))

unfoldable pub rules_forms : Tree → List Tree
rules_forms t = map (element 1) (elements (element 1 t))

-- the rules form of macro b
abbrev pub rules_form_of : ℕ → Tree → Tree
rules_form_of b t = element 1 (element b (element 1 t))

-- a form binds these names, numbered from k
unfoldable pub bindings : (ℕ → Binding) → ℕ → List Name → Events
bindings f k [] = []
bindings f k (x ∷ xs) = binds (f k) x ∷ bindings f (suc k) xs

-- ---- rules

-- all rules of a form, from the left: each head is looked up; rules that break their rules are ground 15
unfoldable pub read_rules : List Tree → M (List (List Rule))
read_rules [] = give []
read_rules (r ∷ rs) = do
  show (on_name (λ x. looked x ∷ []) [] (element 0 r))
  first ← or_refuse 15 (rules_of r)
  later ← read_rules rs
  give (first ∷ later)

-- ---- forms. `limit` is that of macros in the form at hand, `expand` expands an expression inside it

module _ (limit : ℕ) (operations : List ℕ) (fuel : ℕ) (expand : Tree → M (Term Name)) where
  -- the elements of a list, from the left
  unfoldable pub expand_all : Tree → M (Terms Name)
  expand_all empty = give none_c
  expand_all (constant a) = give none_c
  expand_all (name x) = give none_c
  expand_all (pair h t) = do
    first ← expand h
    later ← expand_all t
    give (more_c first later)

  -- (quote d) gives d without marks and bindings
  unfoldable pub expand_quote : Tree → M (Term Name)
  expand_quote t = do
    test 13 (is_list_of 2 t)
    show (map quoted (names (element 1 t)))
    give (datum_c (strip (element 1 t)))

  -- (if a b c)
  unfoldable pub expand_if : Tree → M (Term Name)
  expand_if t = do
    test 13 (is_list_of 4 t)
    a ← expand (element 1 t)
    b ← expand (element 2 t)
    c ← expand (element 3 t)
    give (if_c a b c)

  -- variables are numbered from 0 through the run
  unfoldable pub expand_lambda : Tree → M (Term Name)
  expand_lambda t = do
    test 13 (is_lambda t)
    test 14 (distinct (formals t))
    s ← get
    show (bindings variable s.variables (formals t))
    add_variables (length (formals t))
    body ← expand (bind_all variable s.variables (formals t) (element 2 t))
    give (lambda_c s.variables (formals t) body)

  -- all names are bound in the body; with letrec-syntax (`inside`) in the rules too
  unfoldable pub expand_macros : (inside : Bool) → Name → Tree → M (Term Name)
  expand_macros inside x t = do
    show (reached x ∷ [])
    test 13 (is_macros limit t)
    test 14 (distinct (keywords t))
    s ← get
    let scoped = bind_all macro (length s.macros) (keywords t)
    show (bindings macro (length s.macros) (keywords t))
    rules ← read_rules (map (cond inside scoped (λ r. r)) (rules_forms t))
    add_macros rules
    expand (scoped (element 2 t))

  -- macro step m marks the use with m, transcribes, then marks the result with m (grounds 16 to 18)
  unfoldable pub expand_use : ℕ → Tree → M (Term Name)
  expand_use n t = do
    s ← get
    let m = suc s.steps
    let used = tail (mark m t)
    let found = first_fit (get_or s.macros n []) used
    show (map looked found.0)
    r ← or_refuse 16 found.1
    test 17 (equal_lengths r.pattern used [] r.template)
    let result = transcribe r.pattern used [] r.template
    test 18 (leb (s.sum + size result) fuel)
    add_step (size result)
    expand (produce (mark m result))

  -- an application, after its head
  unfoldable pub expand_operands : Term Name → Tree → M (Term Name)
  expand_operands head t = do
    operands ← expand_all t
    give (application_c head operands)

  -- a list with head x, by what x finds
  unfoldable pub expand_list : Found → Name → Tree → M (Term Name)
  expand_list (bound (variable n)) x t = expand_operands (variable_c n) (tail t)
  expand_list (bound (macro n)) x t = expand_use n t
  expand_list (form quote) x t = expand_quote t
  expand_list (form if) x t = expand_if t
  expand_list (form lambda) x t = expand_lambda t
  expand_list (form let-syntax) x t = expand_macros false x t
  expand_list (form letrec-syntax) x t = expand_macros true x t
  expand_list (form auxiliary) x t = refuse 12
  expand_list (operation p) x t = expand_operands (operation_c p) (tail t)
  expand_list nothing x t = refuse 11

  -- a bare name, by what it finds
  unfoldable pub expand_name : Found → M (Term Name)
  expand_name (bound (variable n)) = give (variable_c n)
  expand_name (bound (macro n)) = refuse 12
  expand_name (form f) = refuse 12
  expand_name (operation p) = give (operation_c p)
  expand_name nothing = refuse 11

  -- an application whose head is no name
  unfoldable pub expand_application : Tree → Tree → M (Term Name)
  expand_application h t = do
    head ← expand h
    expand_operands head t

  unfoldable pub expand_pair : Tree → Tree → M (Term Name)
  expand_pair empty t = expand_application empty t
  expand_pair (constant a) t = expand_application (constant a) t
  expand_pair (name x) t = do
    show (looked x ∷ [])
    expand_list (lookup operations x) x (pair (name x) t)
  expand_pair (pair a b) t = expand_application (pair a b) t

  -- an expression
  unfoldable pub expand_tree : Tree → M (Term Name)
  expand_tree empty = refuse 13
  expand_tree (constant a) = give (datum_c (constant_d a))
  expand_tree (name x) = do
    show (looked x ∷ [])
    expand_name (lookup operations x)
  expand_tree (pair h t) = expand_pair h t

-- one limit of macros for the form at hand, another for those inside it; gas bounds the depth, and the items and the fuel together are
-- enough (Gas)
unfoldable pub expand_within : (limit inner : ℕ) → List ℕ → (fuel gas : ℕ) → Tree → M (Term Name)
expand_within limit inner operations fuel zero t = λ s. starved []
expand_within limit inner operations fuel (suc gas) t = expand_tree limit operations fuel (expand_within inner inner operations fuel gas) t

-- one limit for all
abbrev pub expand : (limit : ℕ) → List ℕ → (fuel gas : ℕ) → Tree → M (Term Name)
expand limit = expand_within limit limit
