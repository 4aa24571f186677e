-- A run (document 01, 'Runs, copies and private names'): what the definition gives for one item table, fuel and lengths of lent tables.
use Rattle.std.specs.Prelude.{Bool, true, false, ◌&&◌, List, [], map, ℕ, ◌+◌, ◌*◌, ltb, leb, length}
use Rattle.std.proofs.Math.Option.{Option, none, some}
use Rattle.words.specs.Limits.{fuel_most, work_rate, core_rate, operations_most, macros_most}
use Rattle.words.specs.Lists.{all_of}
use Rattle.words.specs.Tables.{Stage, testing, begun}
use Rattle.recipe.specs.Name.{Name, distinct}
use Rattle.recipe.specs.Tree.{Tree, size, names, is_name, elements, element}
use Rattle.recipe.specs.Table.{item_count, is_layout, tree_of}
use Rattle.core_term.specs.Term.{Term, Terms, Plain, Plains, on_formals, on_formals_all}
use Rattle.core_term.specs.Words.{encode, encode_all}
use Rattle.expansion.specs.Computation.{start, Events, Out, done, refused, starved}
use Rattle.expansion.specs.Forms.{expand_within}

-- accepted; or refused, at a stage and on a ground; no run is unfinished (Gas)
pub data Outcome : Type 0 where
  accepted : Outcome
  refused_on : (stage : Stage) (ground_number : ℕ) → Outcome
  unfinished : Outcome

-- a run that ends in any other way than at a test has begun
unfoldable pub stage_of : Outcome → Stage
stage_of accepted = begun
stage_of (refused_on stage g) = stage
stage_of unfinished = begun

-- outcome, the two counts, the accepted term (none where it is refused), and what the run shows
pub record Run : Type 0 where
  pub outcome : Outcome
  pub steps : ℕ
  pub sum : ℕ
  pub term : Option (Term Name)
  pub events : Events

-- a term as its words tell it: of each formal its own number, marks dropped
abbrev pub told : Term Name → Plain
told = on_formals (λ x. x.number)

abbrev pub told_all : Terms Name → Plains
told_all = on_formals_all (λ x. x.number)

abbrev pub words_of : Term Name → List ℕ
words_of t = encode (told t)

abbrev pub words_of_all : Terms Name → List ℕ
words_of_all ts = encode_all (told_all ts)

-- its core term, the words of the accepted term
abbrev pub term_words : Option (Term Name) → List ℕ
term_words none = []
term_words (some t) = words_of t

abbrev pub core_of : Run → List ℕ
core_of r = term_words r.term

-- the end of an expansion: the run has begun
unfoldable pub ended : Out (Term Name) → Run
ended (done t s l) = record { outcome = accepted; steps = s.steps; sum = s.sum; term = some t; events = l }
ended (refused g s l) = record { outcome = refused_on begun g; steps = s.steps; sum = s.sum; term = none; events = l }
ended (starved l) = record { outcome = unfinished; steps = 0; sum = 0; term = none; events = l }

-- refused on ground g before it begins
unfoldable pub unbegun : (ground_number : ℕ) → Run
unbegun g = record { outcome = refused_on testing g; steps = 0; sum = 0; term = none; events = [] }

-- the rest of the run, where the test of ground g passes
unfoldable pub require : (ground_number : ℕ) → Bool → Run → Run
unfolding unbegun
require g true run = run
require g false run = unbegun g

-- the recipe's operations, by number
unfoldable pub operation_numbers : Tree → List ℕ
operation_numbers t = map (λ x. x.number) (names (element 0 t))

-- ground 10: at most 256 distinct names above 7
unfoldable pub are_operations : Tree → Bool
are_operations t =
    all_of is_name (elements (element 0 t)) && (leb (length (operation_numbers t)) operations_most
    && (all_of (ltb 7) (operation_numbers t) && distinct (names (element 0 t))))

-- the expansion of a recipe's expression, from the start; its outermost form has a limit of macros of its own
unfoldable pub expand_recipe : (limit fuel : ℕ) → Tree → Out (Term Name)
expand_recipe limit fuel t = expand_within limit macros_most (operation_numbers t) fuel (size t + fuel) (element 1 t) start

-- four tests of what is lent, and past them the expansion
unfoldable pub run : (items : List ℕ) (fuel work core : ℕ) → Run
run items fuel work core =
    let need = item_count items + fuel in
    require 7 (is_layout items)
    (require 8 (leb fuel fuel_most)
    (require 9 (leb (work_rate * need) work && leb (core_rate * need) core)
    (require 10 (are_operations (tree_of items))
    (ended (expand_recipe macros_most fuel (tree_of items))))))
