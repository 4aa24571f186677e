-- What a macro use's turn needs and leaves, by words alone.
use Rattle.std.specs.Prelude.{◌≡◌, cond, List, [], ℕ, suc, ◌+◌, ◌*◌, ◌-◌, ◌≤◌, ltb, length, get_or, take, Ok, Err}
use Rattle.words.specs.Limits.{fuel_most}
use Rattle.recipe.specs.Tree.{Tree, size, tail, mark, produce}
use Rattle.expansion.specs.Rules.{Rule}
use Rattle.expansion.specs.Match.{first_fit}
use Rattle.arena.specs.Arena.{tree_at}
use Rattle.steps.specs.Apply.{Outcome, refused, result, step_of}
use Rattle.turns.specs.declared.answers.Reached.{Reached}
use Rattle.turns.specs.declared.answers.Refused.{Refused}
use Rattle.turns.specs.declared.answers.Turn.TheVariants.{Again, Operands, Over}
use Rattle.turns.specs.Numbers.{stepped}
use Rattle.turns.specs.Memory.{tables, number_most, Macros, Placed}
use Rattle.turns.specs.Answers.{TurnEnd, Refuses}

-- the reference to the rules of macro n, of so many
unfoldable pub rules_word : (macros : List ℕ) (count n : ℕ) → ℕ
rules_word macros count n = cond (ltb n count) (get_or macros n 0) 0

-- a use, marked, without its first place
unfoldable pub used_of : Tree → Reached → Tree
used_of t r = tail (mark (suc r.steps) t)

-- grounds 16 to 18, or the result
unfoldable pub outcome_of : (rules : List (List Rule)) (n fuel : ℕ) → Tree → Reached → Outcome
outcome_of rules n fuel t r = step_of (fuel - r.sum) (used_of t r) (first_fit (get_or rules n []) (used_of t r)).1

pub record UseRoom (work macros : List ℕ) (fuel node w : ℕ) (r : Reached) : Type 0 where
  pub placed : Placed work r.top node w
  pub fuelled : fuel ≤ fuel_most
  pub spent : r.sum ≤ fuel
  pub stepped : r.steps ≤ r.sum
  pub fits : r.top + 6 + 6 * (fuel - r.sum) ≤ length work
  pub small : r.top + 6 + 6 * (fuel - r.sum) ≤ number_most
  pub counted : r.macros ≤ length macros
  pub macros-are : Macros r (tables work [] macros)

pub record Used (o : Outcome) (fuel : ℕ) (r : Reached) (work work' : List ℕ) (node w : ℕ) (q : Reached) : Type 0 where
  pub tree : Tree
  pub is : o ≡ result tree
  pub means : tree_at work' node w ≡ produce (mark (suc r.steps) tree)
  pub paid : size tree ≤ fuel - r.sum
  pub numbers : q ≡ stepped w (size tree) r
  pub node-below : node ≤ w
  pub up : r.top ≤ w
  pub most : w ≤ r.top + 6 + 6 * size tree
  pub kept : take r.top work' ≡ take r.top work

pub record Unused (o : Outcome) (r : Reached) (x : Refused) : Type 0 where
  pub ground_number : ℕ
  pub is : o ≡ refused ground_number
  pub refuses : Refuses ground_number r x

abbrev pub UseLeft : (o : Outcome) (fuel : ℕ) (r : Reached) (work work' : List ℕ) → TurnEnd → Type 0
UseLeft o fuel r work work' (Ok (Again n w q)) = Used o fuel r work work' n w q
UseLeft o fuel r work work' (Ok (Operands l w q)) = ⊥
UseLeft o fuel r work work' (Ok (Over q)) = ⊥
UseLeft o fuel r work work' (Err x) = Unused o r x
