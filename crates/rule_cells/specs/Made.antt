-- What the constructors of rule cells leave: the new cell above the old top, its meaning, and all below as it was.
use Rattle.std.specs.Prelude.{◌≡◌, Bool, cond, List, ℕ, ◌+◌, take}
use Rattle.recipe.specs.Name.{binding_key}
use Rattle.datum.specs.Constant.{Constant}
use Rattle.expansion.specs.Rules.{literal_p, constant_p, pair_p, ellipsis_p, constant_t, pair_t, ellipsis_t}
use Rattle.arena.specs.Arena.{word_at, name_at}
use Rattle.rule_cells.specs.Cells.{pattern_at, template_at}

-- five words at the top
pub record Five (a b c d e : ℕ) (old new : List ℕ) (top r : ℕ) : Type 0 where
  pub end : r ≡ top + 5
  pub kept : take top new ≡ take top old
  pub fifth : word_at new r 5 ≡ a
  pub fourth : word_at new r 4 ≡ b
  pub third : word_at new r 3 ≡ c
  pub second : word_at new r 2 ≡ d
  pub first : word_at new r 1 ≡ e

-- a new cell, read by `at`: what it means, whatever the items
pub record Made {A : Type 0} (at : List ℕ → ℕ → A) (value : A) (old new : List ℕ) (top r : ℕ) : Type 0 where
  pub end : r ≡ top + 5
  pub kept : take top new ≡ take top old
  pub means : at new r ≡ value

-- a literal's cell is given what its lookup has found
pub record MadeLiteral (node w number key : ℕ) (old new : List ℕ) (top r : ℕ) : Type 0 where
  pub end : r ≡ top + 5
  pub kept : take top new ≡ take top old
  pub means : number ≡ (name_at old node w).number → key ≡ binding_key (name_at old node w).binding
      → pattern_at new r ≡ literal_p (name_at old node w)

-- ---- cells that are read as a pattern or as a template

abbrev pub MadeConstant : (a : Constant) (old new : List ℕ) (top r : ℕ) → Type 0
MadeConstant a old new top r = Made pattern_at (constant_p a) old new top r × Made template_at (constant_t a) old new top r

abbrev pub MadePair : (head tail : ℕ) (old new : List ℕ) (top r : ℕ) → Type 0
MadePair head tail old new top r =
    Made pattern_at (pair_p (pattern_at old head) (pattern_at old tail)) old new top r
    × Made template_at (pair_t (template_at old head) (template_at old tail)) old new top r

abbrev pub MadeEllipsis : (element n rest : ℕ) (old new : List ℕ) (top r : ℕ) → Type 0
MadeEllipsis element n rest old new top r =
    Made pattern_at (ellipsis_p (pattern_at old element) n (pattern_at old rest)) old new top r
    × Made template_at (ellipsis_t (template_at old element) (template_at old rest)) old new top r

abbrev pub MadeList : (followed : Bool) (element n rest : ℕ) (old new : List ℕ) (top r : ℕ) → Type 0
MadeList followed element n rest old new top r =
    Made pattern_at (cond followed (ellipsis_p (pattern_at old element) n (pattern_at old rest)) (pair_p (pattern_at old element) (pattern_at old rest))) old new top r
    × Made template_at (cond followed (ellipsis_t (template_at old element) (template_at old rest)) (pair_t (template_at old element) (template_at old rest))) old new top r
