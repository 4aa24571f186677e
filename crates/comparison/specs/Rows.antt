-- Request L4's known answers, computed from the definitions.
use Rattle.std.specs.Prelude.{◌≡◌, refl, List, [], ◌∷◌, ◌++◌, map, ℕ, set, replicate, drop}
use Prim.Native.String as S
use Rattle.words.specs.Lists as Lists
use Rattle.words.specs.Options as Options
use Rattle.words.specs.Tables as Tables
use Rattle.words.specs.Limits.{item_words_least, name_bytes_least, filing_fuel, filing_work, filing_core}
use Rattle.words.specs.Text.{bytes}
use Rattle.datum.specs.Constant.{matches}
use Rattle.datum.specs.NameTable as NameTable
use Rattle.reading.specs.Elements.{Answer, got, refused_for}
use Rattle.reading.specs.Read.{Recipe, elements_of, read_elements, item_words, name_bytes}
use Rattle.core_term.specs.Check.{term_of}
use Rattle.expansion.specs.Run.{core_of}
use Rattle.expansion.specs.Computed.{computed}
use Rattle.comparison.specs.Grammar as Grammar
use Rattle.comparison.specs.Closed as Closed
use Rattle.comparison.specs.Agrees as Agrees
use Rattle.comparison.specs.Compare as Compare
use Rattle.comparison.specs.Compare.{Verdict, yes, no, refused_on}

-- the call, opened for computing
unfoldable pub called : (items names words text : List ℕ) (text_items text_names : ℕ) → Compare.Reply
unfolding
    Lists.within Lists.all_of Lists.any_of Lists.equal Options.only_if Options.map_some Options.map_both
    NameTable.slot NameTable.length_at NameTable.name_at NameTable.has_name read_elements item_words name_bytes term_of computed
    Grammar.is_free Grammar.distinct Grammar.are_formals Grammar.the_one Grammar.first Grammar.names Grammar.after Grammar.quoted
    Grammar.conditional Grammar.formals Grammar.with_body Grammar.applied Grammar.headed Grammar.expression_of
    Closed.inside Closed.closed
    Agrees.meant Agrees.bind Agrees.on_variable Agrees.on_operation Agrees.on_datum Agrees.on_if Agrees.on_lambda Agrees.on_application
    matches Agrees.same_datum Agrees.same_name Agrees.agrees
    Compare.decided Compare.held Compare.require Compare.spelled_operations Compare.our_term Compare.with_term Compare.comparison Compare.compare
called = Compare.compare

unfoldable pub compared : (items names words text : List ℕ) (text_items text_names : ℕ) → Verdict
unfolding called
compared items names words text text_items text_names = (called items names words text text_items text_names).verdict

unfoldable pub of : {A : Type 0} → (Recipe → List A) → Answer Recipe → List A
of f (got r) = f r
of f (refused_for stage g) = []

unfoldable pub items_of : S.String → List ℕ
unfolding bytes of item_words elements_of
items_of recipe = of item_words (elements_of 2 (bytes recipe))

unfoldable pub names_of : S.String → List ℕ
unfolding bytes of NameTable.slot name_bytes elements_of
names_of recipe = of name_bytes (elements_of 2 (bytes recipe))

-- ---- our term is the recipe's expansion

-- a recipe, a supplier's text and the answer
pub record Row : Type 0 where
  pub recipe : S.String
  pub text : S.String
  pub answer : Verdict

unfoldable pub row : S.String → S.String → Verdict → Row
row recipe text answer = record { recipe = recipe; text = text; answer = answer }

unfoldable pub answered : S.String → S.String → Verdict
unfolding bytes items_of names_of compared computed
answered recipe text =
    let items = items_of recipe in
    let words = core_of (computed items filing_fuel filing_work filing_core) in
    compared items (names_of recipe) words (bytes text) item_words_least name_bytes_least

unfoldable pub or2 : S.String
or2 = "() (let-syntax ((or2 (syntax-rules () ((_ a b) ((lambda (t) (if t t b)) a))))) (lambda (t) (or2 #f t)))"

unfoldable pub lists : S.String
lists = "(list) (lambda (t) (list t (quote (t list))))"

unfoldable pub rows : List Row
unfolding row or2 lists
rows =
    row or2 "(lambda (t) ((lambda (t.1) (if t.1 t.1 t)) #f))" yes ∷
    row or2 "(lambda (t) ((lambda (t) (if t t t)) #f))" no ∷
    row "() (lambda (x) (lambda (y) y))" "(lambda (a) (lambda (a) a))" yes ∷
    row "() (lambda (x) (lambda (y) x))" "(lambda (a) (lambda (a) a))" no ∷
    row lists "(lambda (x) (list x (quote (t list))))" yes ∷
    row lists "(lambda (x) (list x (quote (x list))))" no ∷
    row lists "(lambda (list) (list list (quote (t list))))" no ∷
    row lists "(lambda (x) (o0 x (quote (t list))))" (refused_on 22) ∷
    row "() 5" "(quote 5)" (refused_on 21) ∷
    row "() (quote ())" "(quote ())" yes ∷
    row "() 5" "()" (refused_on 21) ∷
    row "() 5" "5 5" (refused_on 5) ∷
    row "() 5" "5 5 $" (refused_on 5) ∷
    row "() 5" "" (refused_on 5) ∷
    row "() 5" "if" (refused_on 21) ∷
    row "() 5" "(z ())" (refused_on 21) ∷
    row "() (lambda (x) x)" "(lambda (_) _)" yes ∷
    row "() 5" "_" (refused_on 22) ∷
    row "() 5" "((lambda (x) x) x)" (refused_on 22) ∷
    row "() 5" "(lambda (x x) x)" (refused_on 21) ∷
    row "() 5" "(lambda (a b c d e f g h i) 5)" (refused_on 21) ∷
    row "() 5" "(lambda (if) 5)" (refused_on 21) ∷
    row "() 5" "(if 1 2)" (refused_on 21) ∷
    row "() 5" "(quote a b)" (refused_on 21) ∷
    row "() 5" "((quote a) 5)" no ∷
    row "() 5" "(quote 0.80)" (refused_on 21) ∷
    row "() 0.80" "0.80" yes ∷
    row "() 0.80" "0.8" no ∷
    row "() (quote (0.80 1))" "(quote (0.80 1))" yes ∷
    row "() (quote (a b))" "(quote (a))" no ∷
    row "() (quote a)" "(quote (a))" no ∷
    row "() 1" "#t" no ∷
    row "() (lambda (x) x)" "(lambda (let-syntax) let-syntax)" yes ∷
    []

pub rows-hold : map (λ r. answered r.recipe r.text) rows ≡ map (λ r. r.answer) rows
unfolding rows answered
rows-hold = refl

-- ---- words and tables that no expansion gives

-- every operation's slot, though the term uses none; the recipe's operation count; the text's own tables; 7, 10, and 19 before 1;
-- name words are tested, then not heeded
pub others-hold : (
    compared (items_of "(f g) 5") (set (names_of "(f g) 5") 576 0) (2 ∷ 5 ∷ []) (bytes "5") item_words_least name_bytes_least
    ∷ compared (items_of "(f) 5") (names_of "(f) 5") (1 ∷ 1 ∷ []) (bytes "f") item_words_least name_bytes_least
    ∷ compared (items_of "() 5") (names_of "() 5") (2 ∷ 5 ∷ []) (bytes "5") 12287 name_bytes_least
    ∷ compared (items_of "() 5") (names_of "() 5") (2 ∷ 5 ∷ []) (replicate 65536 32) item_words_least name_bytes_least
    ∷ compared (items_of "1 5") (names_of "1 5") (2 ∷ 5 ∷ []) (bytes "5") item_words_least name_bytes_least
    ∷ compared (items_of "(if) 5") (names_of "(if) 5") [] (bytes "5") item_words_least name_bytes_least
    ∷ compared (items_of "() 5") (names_of "() 5") [] (bytes "5") 0 0
    ∷ compared (items_of "(if) 5" ++ (0 ∷ [])) (names_of "(if) 5") [] (bytes "5") 0 0
    ∷ compared (items_of "() (quote t)") (names_of "() (quote t)") (7 ∷ 0 ∷ 1 ∷ 8 ∷ 0 ∷ 0 ∷ []) (bytes "(lambda (x) x)") item_words_least name_bytes_least
    ∷ compared (items_of "() 5") (names_of "() 5") (7 ∷ 0 ∷ 1 ∷ 8 ∷ 0 ∷ 0 ∷ []) (bytes "(lambda (x) x)") item_words_least name_bytes_least
    ∷ []
    ) ≡ refused_on 19 ∷ refused_on 19 ∷ refused_on 1 ∷ refused_on 2 ∷ refused_on 7 ∷ refused_on 10 ∷ refused_on 19 ∷ refused_on 7 ∷ yes ∷ refused_on 19 ∷ []
unfolding bytes items_of names_of compared
others-hold = refl

-- where a spoiled table spells two operations alike, both agree; the form wins over an operation that is spelled `if`
pub spoiled-hold : (
    compared (items_of "(f g) g") (set (names_of "(f g) g") 577 102) (1 ∷ 1 ∷ []) (bytes "f") item_words_least name_bytes_least
    ∷ compared (items_of "(i g) i") (set (set (names_of "(i g) i") 512 2) 514 102) (1 ∷ 0 ∷ []) (bytes "if") item_words_least name_bytes_least
    ∷ []
    ) ≡ yes ∷ refused_on 21 ∷ []
unfolding bytes items_of names_of compared
spoiled-hold = refl

-- ---- tables

-- what a call with our term 5 leaves of the text's items, which held nines
unfoldable pub leaves : S.String → S.String → ℕ → List ℕ → List ℕ
unfolding bytes items_of names_of called Tables.filled Compare.left_by Compare.read_words Compare.items_left
leaves recipe text text_items table =
    Compare.items_left (called (items_of recipe) (names_of recipe) (2 ∷ 5 ∷ []) (bytes text) text_items name_bytes_least) (read_elements 1 (bytes text) text_items name_bytes_least) table

-- after yes, the last names after no, and after 21, 1, 3 and 7
pub tables-hold : (
    leaves "() 5" "5" item_words_least (replicate 12 9)
    ∷ drop 448 (Compare.names_left (record { stage = Tables.begun; verdict = no }) (elements_of 1 (bytes "x")) (replicate 577 9))
    ∷ leaves "() 5" "()" item_words_least (replicate 3 9)
    ∷ leaves "() 5" "5" 12287 (replicate 3 9)
    ∷ leaves "() 5" "A" item_words_least (replicate 3 9)
    ∷ leaves "1 5" "5" item_words_least (replicate 3 9)
    ∷ []
    ) ≡ (4 ∷ 1 ∷ 2 ∷ 1 ∷ 5 ∷ 0 ∷ replicate 6 0) ∷ (NameTable.slot (bytes "_") ++ NameTable.slot (bytes "x") ++ (0 ∷ [])) ∷ replicate 3 0 ∷ replicate 3 9 ∷ replicate 3 0 ∷ replicate 3 9 ∷ []
unfolding leaves bytes elements_of Tables.filled name_bytes NameTable.slot Compare.left_by Compare.read_words Compare.names_left
tables-hold = refl
