-- Macros and states of two runs that agree: equal counts, and rules whose names are related.
use Rattle.std.specs.Prelude.{◌≡◌, List, [], ◌∷◌, ◌++◌, ℕ, suc, ◌≤◌}
use Rattle.expansion.specs.Rules.{Rule}
use Rattle.expansion.specs.Computation.{State}
use Rattle.simulation.specs.Shapes.{PatternOf, TemplateOf}
use Rattle.simulation.specs.Marks.{Kind, Below}
use Rattle.simulation.specs.Likeness.{Likeness}

module _ (L : Likeness) where
  -- each rule has its own names, whose marks are older than k
  pub record RuleRel (k : ℕ) (r s : Rule) : Type 1 where
    pub kind : Kind
    pub coherent : L.Coherent kind
    pub below : Below k kind
    pub pattern : PatternOf L.Literal r.pattern s.pattern
    pub template : TemplateOf (L.Rel kind) r.template s.template

  pub data RulesRel (k : ℕ) : List Rule → List Rule → Type 1 where
    no-rule : RulesRel k [] []
    rule : {r s : Rule} {rs ss : List Rule} → RuleRel k r s → RulesRel k rs ss → RulesRel k (r ∷ rs) (s ∷ ss)

  pub data MacrosRel (k : ℕ) : List (List Rule) → List (List Rule) → Type 1 where
    no-macro : MacrosRel k [] []
    with : {r s : List Rule} {rs ss : List (List Rule)} → RulesRel k r s → MacrosRel k rs ss → MacrosRel k (r ∷ rs) (s ∷ ss)

  -- the next step is k or later
  pub record StateRel (k : ℕ) (s t : State) : Type 1 where
    pub enough : k ≤ suc s.steps
    pub steps : s.steps ≡ t.steps
    pub sum : s.sum ≡ t.sum
    pub variables : s.variables ≡ t.variables
    pub macros : MacrosRel (suc s.steps) s.macros t.macros
