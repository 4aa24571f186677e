-- What the turn of let-syntax and letrec-syntax needs and leaves, by words alone.
use Rattle.std.specs.Prelude.{◌≡◌, Bool, true, false, cond, List, ◌++◌, map, ℕ, ◌+◌, ◌*◌, ◌≤◌, ◌<◌, length, take, Ok, Err}
use Rattle.std.proofs.Math.Option.{none, some}
use Rattle.words.specs.Options.{traverse}
use Rattle.recipe.specs.Name.{macro, Name, distinct}
use Rattle.recipe.specs.Tree.{Tree, size, element, bind_all}
use Rattle.core_term.specs.Term.{Term}
use Rattle.expansion.specs.Rules.{Rule, rules_of}
use Rattle.expansion.specs.Computation.{State}
use Rattle.expansion.specs.Forms.{is_macros, keywords, rules_forms}
use Rattle.arena.specs.Arena.{tree_at}
use Rattle.turns.specs.declared.answers.Reached.{Reached}
use Rattle.turns.specs.declared.answers.Refused.{Refused}
use Rattle.turns.specs.declared.answers.Turn.TheVariants.{Again, Operands, Over}
use Rattle.turns.specs.Ends.{End, refused_end, needs, given}
use Rattle.turns.specs.Numbers.{grown}
use Rattle.turns.specs.Memory.{item_rate, macros_at, number_most, Placed}
use Rattle.turns.specs.declared.macros.RulesStand.{RulesStand}
use Rattle.turns.specs.declared.macros.RulesStand.TheVariants.{Outside, Inside}
use Rattle.turns.specs.Answers.{TurnEnd, Refuses}
use Rattle.turns.specs.MacroRules.{Below}

-- the most words of the work table that the binders and the rules of a form's macros take
abbrev pub macro_words : Tree → ℕ
macro_words t = item_rate * length (keywords t) + 5 * size (element 1 t)

-- room for a form's macros: those words and one more, and a word for each macro
pub record MacroSpace (tree : Tree) (work macros : List ℕ) (r : Reached) : Type 0 where
  pub fits : r.top + macro_words tree < length work
  pub small : r.top + macro_words tree < number_most
  pub slots : r.macros + length (keywords tree) ≤ length macros
  pub few : r.macros + length (keywords tree) ≤ number_most

-- what is at hand, and room for its macros where it has the shape of a form of macros, whatever the limit
pub record MacroRoom (work macros : List ℕ) (node w : ℕ) (r : Reached) : Type 0 where
  pub placed : Placed work r.top node w
  pub below : Below macros r.macros r.top
  pub space : (limit : ℕ) → is_macros limit (tree_at work node w) ≡ true → MacroSpace (tree_at work node w) work macros r

-- whether the rules stand inside the scope of their names
abbrev pub is_inside : RulesStand → Bool
is_inside Outside = false
is_inside Inside = true

-- the rules forms of a tree whose names are macros from k on; inside their scope or not
unfoldable pub forms_of : (inside : Bool) → Tree → ℕ → List Tree
forms_of inside t k = map (cond inside (bind_all macro k (keywords t)) (λ r. r)) (rules_forms t)

-- the macros' names are bound in the body, and their rules are known
pub record Known (tree : Tree) (inside : Bool) (r : Reached) (work work' macros macros' : List ℕ) (node w : ℕ) (q : Reached) : Type 0 where
  pub rules : List (List Rule)
  pub is : traverse rules_of (forms_of inside tree r.macros) ≡ some rules
  pub means : macros_at work' macros' q.macros ≡ macros_at work macros r.macros ++ rules
  pub below : Below macros' q.macros q.top
  pub body_is : tree_at work' node w ≡ bind_all macro r.macros (keywords tree) (element 2 tree)
  pub body_below : node ≤ r.top
  pub wrap-below : w ≤ q.top
  pub numbers : q ≡ grown q.top (length (keywords tree)) r
  pub up : r.top ≤ q.top
  pub words : q.top ≤ r.top + macro_words tree
  pub kept : take r.top work' ≡ take r.top work
  pub known : take r.macros macros' ≡ take r.macros macros

abbrev pub KnownLeft : (tree : Tree) (inside : Bool) (r : Reached) (work work' macros macros' : List ℕ) → TurnEnd → Type 0
KnownLeft tree inside r work work' macros macros' (Ok (Again n w q)) = Known tree inside r work work' macros macros' n w q
KnownLeft tree inside r work work' macros macros' (Ok (Operands l w q)) = ⊥
KnownLeft tree inside r work work' macros macros' (Ok (Over q)) = ⊥
KnownLeft tree inside r work work' macros macros' (Err x) = (traverse rules_of (forms_of inside tree r.macros) ≡ none) × Refuses 15 r x

-- ---- with the tests before; `limit` is that of macros in the form

pub record MacrosKnown (limit : ℕ) (tree : Tree) (inside : Bool) (r : Reached) (work work' macros macros' : List ℕ) (node w : ℕ) (q : Reached) : Type 0 where
  pub shape : is_macros limit tree ≡ true
  pub apart : distinct (keywords tree) ≡ true
  pub knows : Known tree inside r work work' macros macros' node w q

pub record MacrosRefused (limit : ℕ) (tree : Tree) (inside : Bool) (r : Reached) (x : Refused) : Type 0 where
  pub ground_number : ℕ
  pub is : (f : List (List Rule) → End (Term Name)) (s : State)
      → needs 13 (is_macros limit tree) s (needs 14 (distinct (keywords tree)) s (given 15 s f (traverse rules_of (forms_of inside tree r.macros)))) ≡ refused_end ground_number s
  pub refuses : Refuses ground_number r x

abbrev pub MacrosLeft : (limit : ℕ) (tree : Tree) (inside : Bool) (r : Reached) (work work' macros macros' : List ℕ) → TurnEnd → Type 0
MacrosLeft limit tree inside r work work' macros macros' (Ok (Again n w q)) = MacrosKnown limit tree inside r work work' macros macros' n w q
MacrosLeft limit tree inside r work work' macros macros' (Ok (Operands l w q)) = ⊥
MacrosLeft limit tree inside r work work' macros macros' (Ok (Over q)) = ⊥
MacrosLeft limit tree inside r work work' macros macros' (Err x) = MacrosRefused limit tree inside r x
