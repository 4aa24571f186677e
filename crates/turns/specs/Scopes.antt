-- What the turns of forms leave, by words alone: the law of each form makes a turn of it.
use Rattle.std.specs.Prelude.{◌≡◌, true, false, List, [], ◌∷◌, map, ℕ, ◌+◌, ◌*◌, ◌≤◌, length, take, Ok, Err}
use Rattle.words.specs.Limits.{core_rate}
use Rattle.recipe.specs.Name.{variable, Name, distinct}
use Rattle.recipe.specs.Tree.{Tree, size, strip, is_list_of, element, bind_all}
use Rattle.core_term.specs.Node.{if_code, lambda_code}
use Rattle.core_term.specs.Term.{Term, datum_c}
use Rattle.expansion.specs.Computation.{State}
use Rattle.expansion.specs.Forms.{is_lambda, formals}
use Rattle.arena.specs.Arena.{tree_at}
use Rattle.forms.specs.Quotes.{Written}
use Rattle.turns.specs.declared.answers.Reached.{Reached}
use Rattle.turns.specs.declared.answers.Refused.{Refused}
use Rattle.turns.specs.declared.answers.Turn.{Turn}
use Rattle.turns.specs.declared.answers.Turn.TheVariants.{Again, Operands, Over}
use Rattle.turns.specs.Answers.{Ended, TurnEnd, Refuses}
use Rattle.turns.specs.Ends.{End, finished, refused_end, needs}
use Rattle.turns.specs.Numbers.{widened}
use Rattle.turns.specs.Memory.{item_rate, number_most, Moved, Proper, Placed}
use Rattle.turns.specs.Leaves.{Leaf}

-- what is at hand, and room for it
pub record Roomy (work core : List ℕ) (node w : ℕ) (r : Reached) : Type 0 where
  pub placed : Placed work r.top node w
  pub fits : r.top + item_rate * size (tree_at work node w) ≤ length work
  pub small : r.top + item_rate * size (tree_at work node w) ≤ number_most
  pub core-fits : r.at + core_rate * size (tree_at work node w) ≤ length core
  pub core-small : r.at + core_rate * size (tree_at work node w) ≤ number_most
  pub few : r.variables + size (tree_at work node w) ≤ number_most

-- ---- quote

-- data without what waits on them, and room for their words
pub record QuoteRoom (work core : List ℕ) (node : ℕ) (r : Reached) : Type 0 where
  pub proper : Proper (tree_at work node 0)
  pub fits : r.at + core_rate * size (tree_at work node 0) ≤ length core
  pub small : r.at + core_rate * size (tree_at work node 0) ≤ number_most

unfoldable pub quote_end : Tree → State → End (Term Name)
quote_end t s = needs 13 (is_list_of 2 t) s (finished (datum_c (strip (element 1 t))) s)

abbrev pub QuoteLeft : (work : List ℕ) (node : ℕ) (r : Reached) (core core' : List ℕ) → Ended → Type 0
QuoteLeft work node r core core' a = (w : ℕ) → Leaf (quote_end (tree_at work node w)) (core_rate * size (tree_at work node w)) r core core' a

-- ---- if

abbrev pub IfLeft : (work : List ℕ) (node tail w : ℕ) (r : Reached) (core core' : List ℕ) → TurnEnd → Type 0
IfLeft work node tail w r core core' (Ok (Again n v q)) = ⊥
IfLeft work node tail w r core core' (Ok (Over q)) = ⊥
IfLeft work node tail w r core core' (Ok (Operands l v q)) = (l ≡ tail) × (v ≡ w) × ((u : ℕ) → is_list_of 4 (tree_at work node u) ≡ true) × Moved (if_code ∷ []) r core core' q
IfLeft work node tail w r core core' (Err x) = ((u : ℕ) → is_list_of 4 (tree_at work node u) ≡ false) × Refuses 13 r x

-- ---- lambda

-- a lambda's own words: its code, first number and count, and its names' numbers
abbrev pub lambda_words : ℕ → List Name → List ℕ
lambda_words first xs = lambda_code ∷ first ∷ length (map (λ x. x.number) xs) ∷ map (λ x. x.number) xs

-- the lambda's names are bound in its body
pub record Bound (tree : Tree) (r : Reached) (work work' core core' : List ℕ) (node w : ℕ) (q : Reached) : Type 0 where
  pub body_is : tree_at work' node w ≡ bind_all variable r.variables (formals tree) (element 2 tree)
  pub body_below : node ≤ r.top
  pub wrap-below : w ≤ q.top
  pub numbers : q ≡ widened (r.top + item_rate * length (formals tree)) q.at (length (formals tree)) r
  pub put : Written (lambda_words r.variables (formals tree)) core core' r.at q.at
  pub kept : take r.top work' ≡ take r.top work

abbrev pub BoundLeft : (tree : Tree) (r : Reached) (work work' core core' : List ℕ) → Turn → Type 0
BoundLeft tree r work work' core core' (Again n w q) = Bound tree r work work' core core' n w q
BoundLeft tree r work work' core core' (Operands l w q) = ⊥
BoundLeft tree r work work' core core' (Over q) = ⊥

pub record LambdaBound (tree : Tree) (r : Reached) (work work' core core' : List ℕ) (node w : ℕ) (q : Reached) : Type 0 where
  pub shape : is_lambda tree ≡ true
  pub apart : distinct (formals tree) ≡ true
  pub bound : Bound tree r work work' core core' node w q

pub record LambdaRefused (tree : Tree) (r : Reached) (x : Refused) : Type 0 where
  pub ground_number : ℕ
  pub is : (e : End (Term Name)) (s : State) → needs 13 (is_lambda tree) s (needs 14 (distinct (formals tree)) s e) ≡ refused_end ground_number s
  pub refuses : Refuses ground_number r x

abbrev pub LambdaLeft : (tree : Tree) (r : Reached) (work work' core core' : List ℕ) → TurnEnd → Type 0
LambdaLeft tree r work work' core core' (Ok (Again n w q)) = LambdaBound tree r work work' core core' n w q
LambdaLeft tree r work work' core core' (Ok (Operands l w q)) = ⊥
LambdaLeft tree r work work' core core' (Ok (Over q)) = ⊥
LambdaLeft tree r work work' core core' (Err x) = LambdaRefused tree r x
