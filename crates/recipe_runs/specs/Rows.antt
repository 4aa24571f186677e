-- Recipes run, from the text to the outcome, computed from the definition; and the claim at one of them.
use Rattle.std.specs.Prelude.{◌≡◌, refl, true, false, List, [], ◌∷◌, map, ℕ, ◌+◌, ◌*◌, ℤ, pos, negsuc}
use Rattle.std.proofs.Common.{◌∙◌}
use Rattle.std.proofs.Math.Option.{Option, none, some}
use Prim.Native.String.{String}
use Rattle.words.specs.Limits.{work_rate, core_rate}
use Rattle.words.specs.Text.{bytes}
use Rattle.reading.specs.Read.{recipe_of}
use Rattle.recipe.specs.Name.{Name}
use Rattle.recipe.specs.Table.{item_count}
use Rattle.core_term.specs.Term.{Term, variable_c}
use Rattle.expansion.specs.Run as X
use Rattle.expansion.specs.Run.{told}
use Rattle.expansion.specs.Computed as Expanded
use Rattle.expansion.specs.Row.{items_of}
use Rattle.evaluation.specs.Rows as E
use Rattle.evaluation.specs.Run.{Result, number, boolean, datum, closure, operation, Outcome, unfit, refused_on, accepted}
use Rattle.recipe_runs.specs.RecipeRun.{after_expansion, recipe_run, term_run}
use Rattle.recipe_runs.specs.Statement.{RunsAsTerm}

-- a recipe's text, the fuel, the budget, and the outcome in tables just long enough
record Row : Type 0 where
  text : String
  fuel : ℕ
  budget : ℕ
  is : Outcome (Result ℤ)

unfoldable row : String → (fuel budget : ℕ) → Outcome (Result ℤ) → Row
row text fuel budget is = record { text = text; fuel = fuel; budget = budget; is = is }

-- the definition opened for computing
unfoldable pub computed : (items : List ℕ) (fuel work core budget table : ℕ) → Outcome (Result ℤ)
unfolding Expanded.computed E.computed after_expansion recipe_run
computed = recipe_run

-- the items of a recipe's text
unfoldable pub recipe : String → List ℕ
unfolding bytes recipe_of items_of
recipe text = items_of (recipe_of (bytes text))

unfoldable outcome_for : Row → Outcome (Result ℤ)
unfolding recipe computed
outcome_for r =
    let need = item_count (recipe r.text) + r.fuel in
    computed (recipe r.text) r.fuel (work_rate * need) (core_rate * need) r.budget (16 * (r.budget + 1))

-- `(sum t t)` of a private t
abbrev pub twice : String
twice = "(sum) (let-syntax ((twice (syntax-rules () ((_ x) ((lambda (t) (sum t t)) x))))) (twice 21))"

unfoldable rows : List Row
unfolding row
rows =
    -- a private name of the macro is a variable of the term
    row twice 19 7 (accepted (number (pos 42)) 7) ∷
    row twice 512 6 (refused_on 27) ∷
    -- a datum behind a lambda whose name word counts
    row "() (let-syntax ((or2 (syntax-rules () ((_ a b) ((lambda (t) (if t t b)) a))))) (or2 #f (quote (obverse reverse))))" 512 6 (accepted (datum 11) 6) ∷
    -- two years nearer than a threshold
    row "(sum difference less equal) (let-syntax ((near (syntax-rules () ((_ a b most) (less (difference b a) most))))) (near 405 410 6))" 512 99 (accepted (boolean true) 7) ∷
    row "(sum difference less equal) (let-syntax ((near (syntax-rules () ((_ a b most) (less (difference b a) most))))) (near 405 410 5))" 512 99 (accepted (boolean false) 7) ∷
    row "() (lambda (x) x)" 0 65535 (accepted closure 1) ∷
    -- the place alone says what an operation is; one beyond the four is refused when it is evaluated
    row "(equal less difference sum) (less 3 10)" 0 9 (accepted (number (negsuc 6)) 4) ∷
    row "(a b c d e) (if #f e 7)" 0 9 (accepted (number (pos 7)) 3) ∷
    row "(a b c d e) (e 1 2)" 0 9 (refused_on 25) ∷
    -- refused by expansion, before it begins and after
    row "1 5" 512 9 (unfit 7) ∷
    row "() 5" 8193 9 (unfit 8) ∷
    row "() (f 1)" 512 9 (unfit 11) ∷
    row "() 5" 512 65536 (unfit 8) ∷
    []

rows-hold : map outcome_for rows ≡ map (λ (r : Row). r.is) rows
unfolding rows row outcome_for
rows-hold = refl

-- ---- the claim at a recipe: its expansion runs as the term that the run keeps

abbrev kept : Option (Term Name) → Term Name
kept none = variable_c 0
kept (some t) = t

abbrev expanded : X.Run
expanded = X.run (recipe twice) 19 4000 500

keeps : expanded.term ≡ some (kept expanded.term)
unfolding recipe Expanded.computed
keeps = refl

is-42 : term_run (told (kept expanded.term)) 7 128 ≡ accepted (number (pos 42)) 7
unfolding recipe computed term_run
is-42 = refl

pub twice-runs : RunsAsTerm → recipe_run (recipe twice) 19 4000 500 7 128 ≡ accepted (number (pos 42)) 7
unfolding RunsAsTerm
twice-runs claim = claim (recipe twice) 19 4000 500 (kept expanded.term) keeps 7 128 ∙ is-42
