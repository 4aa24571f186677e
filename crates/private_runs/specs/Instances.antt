-- What the claim says of recipes: each row is an instance of `PrivateRuns` itself, in tables just long enough for its fuel and budget. The
-- hypotheses hold by computing, and so the second recipe's outcome is the one that the row has. A claim that says less, or that asks for
-- more, gives no such row.
use Rattle.std.specs.Prelude.{◌≡◌, Bool, ℕ, ◌+◌, ◌*◌, ℤ, pos}
use Rattle.std.proofs.Common.{◌∙◌}
use mathlib.Core.List.{List, [], ◌∷◌}
use Prim.Native.String.{String}
use Rattle.words.specs.Limits.{work_rate, core_rate}
use Rattle.words.specs.Lists.{all_of}
use Rattle.recipe.specs.Table.{item_count}
use Rattle.expansion.specs.Run as X
use Rattle.private_names.specs.Statement.{Choice, renamed, hypotheses}
use Rattle.private_names.specs.Witnesses.{items_of}
use Rattle.evaluation.specs.Run.{Result, number, datum, Outcome, unfit, refused_on, accepted}
use Rattle.recipe_runs.specs.RecipeRun.{recipe_run}

-- a recipe's items, the fuel, the choice, the budget, and the outcome of both
pub record Row : Type 0 where
  pub items : List ℕ
  pub fuel : ℕ
  pub choice : Choice
  pub budget : ℕ
  pub is : Outcome (Result ℤ)

unfoldable pub row : String → (fuel form old new budget : ℕ) → Outcome (Result ℤ) → Row
unfolding items_of
row text fuel form old new budget is = record {
  items = items_of text;
  fuel = fuel;
  choice = record { form = form; macro = 0; rule = 0; old = old; new = new };
  budget = budget;
  is = is;
}

abbrev pub needed : Row → ℕ → ℕ
needed r rate = rate * (item_count r.items + r.fuel)

-- a recipe of a row, expanded and run
unfoldable pub run_by : Row → List ℕ → Outcome (Result ℤ)
run_by r items = recipe_run items r.fuel (needed r work_rate) (needed r core_rate) r.budget (16 * (r.budget + 1))

-- what the claim says of it
abbrev pub Says : Row → Type 0
Says r = run_by r (renamed r.items r.choice) ≡ r.is

-- whether the hypotheses hold, and the outcome of the first recipe
unfoldable pub claimed : Row → Bool × Outcome (Result ℤ)
claimed r = (all_of (λ h. h) (hypotheses r.items r.choice (X.run r.items r.fuel (needed r work_rate) (needed r core_rate)).events), run_by r r.items)

-- ---- rows

unfoldable pub rows : List Row
unfolding row
rows =
    -- a number, with a new name that is the next one
    row "(sum) (let-syntax ((twice (syntax-rules () ((_ x) ((lambda (t) (sum t t)) x))))) (twice 21))" 19 6 11 12 7 (accepted (number (pos 42)) 7) ∷
    -- a datum, by its place behind the name word; the highest number that may be new
    row "() (let-syntax ((or2 (syntax-rules () ((_ a b) ((lambda (t) (if t t b)) a))))) (or2 #f (quote (obverse reverse))))" 8192 4 11 1023 65535 (accepted (datum 11) 6) ∷
    -- 27 for one unit less
    row "() (let-syntax ((or2 (syntax-rules () ((_ a b) ((lambda (t) (if t t b)) a))))) (or2 #f (quote (obverse reverse))))" 512 4 11 14 5 (refused_on 27) ∷
    -- the fifth operation, and a wrong number of operands
    row "(a b c d e) (let-syntax ((m (syntax-rules () ((_ x) ((lambda (t) (e t t)) x))))) (m 1))" 512 14 15 500 99 (refused_on 25) ∷
    row "() (let-syntax ((m (syntax-rules () ((_ x) ((lambda (t u) t) x))))) (m 1))" 512 4 11 12 99 (refused_on 26) ∷
    -- refused by expansion, behind the lookups of copies
    row "() (let-syntax ((m (syntax-rules () ((_) (lambda (t) (t nowhere)))))) (m))" 512 4 9 11 99 (unfit 11) ∷
    []
