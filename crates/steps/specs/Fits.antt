-- Matching on cells: whether a pattern's cell fits a use, and the first rule that does.
use Rattle.std.specs.Prelude.{◌≡◌, Option, Some, None, IfSome, Bool, List, ℕ, ◌≤◌}
use Rattle.std.proofs.Math.Option.{none, some}
use Rattle.std.proofs.Math.Option as M
use Rattle.expansion.specs.Rules.{Rule, literal_p, constant_p}
use Rattle.expansion.specs.Match.{fit, first_fit}
use Rattle.arena.specs.Arena.{tree_at}
use Rattle.rule_cells.specs.Cells.{constant_before, literal_at, pattern_at, rule_at, rules_at}

abbrev pub Fits : (work : List ℕ) (p u w : ℕ) → Bool → Type 0
Fits work p u w r = r ≡ (fit (pattern_at work p) (tree_at work u w)).1

abbrev pub LiteralFits : (work : List ℕ) (p u w : ℕ) → Bool → Type 0
LiteralFits work p u w r = r ≡ (fit (literal_p (literal_at work p)) (tree_at work u w)).1

abbrev pub ConstantFits : (work : List ℕ) (p u : ℕ) → Bool → Type 0
ConstantFits work p u r = (w : ℕ) → r ≡ (fit (constant_p (constant_before work p)) (tree_at work u w)).1

-- the rule that a reference stands for, where there is one
unfoldable pub rule_or : (work : List ℕ) → Option ℕ → M.Option Rule
rule_or work None = none
rule_or work (Some r) = some (rule_at work r)

-- r is the first of the rules that fits
pub record FirstFit (work : List ℕ) (rules u w : ℕ) (r : Option ℕ) : Type 0 where
  pub is : rule_or work r ≡ (first_fit (rules_at work rules) (tree_at work u w)).1
  pub low : IfSome r (λ x. x ≤ rules)
