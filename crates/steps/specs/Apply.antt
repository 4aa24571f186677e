-- One macro step on cells: the first rule that fits, then grounds 16 to 18 or the result (document 01, 'Forms').
use Rattle.std.specs.Prelude.{◌≡◌, Ok, Err, cond, List, [], ℕ, ◌+◌, ◌*◌, ◌≤◌, leb, take}
use Rattle.std.specs.declared.result.Result.{Result}
use Rattle.std.proofs.Math.Option.{Option, none, some}
use Rattle.words.specs.Code.Ground.{number_of}
use Rattle.words.specs.declared.ground.Ground.{Ground}
use Rattle.words.specs.Each.{Each}
use Rattle.recipe.specs.Tree.{Tree, size, produce}
use Rattle.expansion.specs.Rules.{Rule}
use Rattle.expansion.specs.Match.{first_fit}
use Rattle.expansion.specs.Transcribe.{equal_lengths, transcribe}
use Rattle.arena.specs.Arena.{tree_at}
use Rattle.arena.specs.Cells.{Room}
use Rattle.rule_cells.specs.Cells.{template_at, rules_at}
use Rattle.environments.specs.Sound.{Plain, SoundRule}
use Rattle.environments.specs.Environment.{agree_by, result_by}
use Rattle.environments.specs.Entries.{environment_at, Under}
use Rattle.steps.specs.Build.{node_words}
use Rattle.steps.specs.declared.apply.Applied.{Applied}

-- refused on a ground, or the transcribed tree
pub data Outcome : Type 0 where
  refused : ℕ → Outcome
  result : Tree → Outcome

-- a rule and the use that it matches, with so much fuel left
unfoldable pub applied : ℕ → Tree → Rule → Outcome
applied limit used r =
    let t = transcribe r.pattern used [] r.template in
    cond (equal_lengths r.pattern used [] r.template) (cond (leb (size t) limit) (result t) (refused 18)) (refused 17)

unfoldable pub step_of : ℕ → Tree → Option Rule → Outcome
step_of limit used none = refused 16
step_of limit used (some r) = applied limit used r

-- what the code's answer stands for: the ground, or the cost and the root of the result
unfoldable pub Answers : List ℕ → ℕ → Outcome → Result Applied Ground → Type 0
Answers new top (refused g) (Err why) = g ≡ number_of why
Answers new top (refused g) (Ok a) = ⊥
Answers new top (result t) (Err why) = ⊥
Answers new top (result t) (Ok a) = (a.cost ≡ size t) × (tree_at new a.root 0 ≡ produce t) × (top ≤ a.root) × (a.root ≤ top + node_words * a.cost)

-- a template in an environment, with so much fuel left
unfoldable pub outcome_at : (work env : List ℕ) (w t limit : ℕ) → Outcome
outcome_at work env w t limit =
    let v = environment_at work env w in
    let r = result_by v (template_at work t) in
    cond (agree_by v (template_at work t)) (cond (leb (size r) limit) (result r) (refused 18)) (refused 17)

pub record Transcribed (old new : List ℕ) (top : ℕ) (env : List ℕ) (w t limit : ℕ) (r : Result Applied Ground) : Type 0 where
  pub is : Answers new top (outcome_at old env w t limit) r
  pub kept : take top new ≡ take top old

pub record Transcribing (work : List ℕ) (top : ℕ) (env : List ℕ) (w t limit : ℕ) : Type 0 where
  pub plain : Plain (template_at work t)
  pub under : Under env top
  pub wrap-below : w ≤ top
  pub template-below : t ≤ top
  pub room : Room work top (node_words * limit)

pub record Stepped (old new : List ℕ) (top rules u w limit : ℕ) (r : Result Applied Ground) : Type 0 where
  pub is : Answers new top (step_of limit (tree_at old u w) (first_fit (rules_at old rules) (tree_at old u w)).1) r
  pub kept : take top new ≡ take top old

-- sound rules and a use below the top, with room for as many items as there is fuel
pub record Stepping (work : List ℕ) (top rules u w limit : ℕ) : Type 0 where
  pub sound : Each SoundRule (rules_at work rules)
  pub rules-below : rules ≤ top
  pub use-below : u ≤ top
  pub wrap-below : w ≤ top
  pub room : Room work top (node_words * limit)
