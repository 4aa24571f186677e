-- Trees, patterns and templates of one shape, with equal constants and related names. Laws of trees over any relation of names.
use Rattle.std.specs.Prelude.{◌≡◌, ◌&&◌}
use Prim.Native.Nat.{ℕ, ◌+◌}
use Rattle.datum.specs.Constant.{Constant}
use Rattle.recipe.specs.Name.{Name}
use Rattle.recipe.specs.Tree.{Tree, empty, constant, name, pair}
use Rattle.expansion.specs.Rules.{Pattern, variable_p, literal_p, wildcard_p, constant_p, empty_p, pair_p, ellipsis_p, Template, variable_t, insert_t, constant_t, empty_t, pair_t, ellipsis_t, Rule}

pub data TreeOf (R : Name → Name → Type 0) : Tree → Tree → Type 0 where
  empties : TreeOf R empty empty
  constants : {a : Constant} → TreeOf R (constant a) (constant a)
  names₂ : {x y : Name} → R x y → TreeOf R (name x) (name y)
  pairs : {h h' t t' : Tree} → TreeOf R h h' → TreeOf R t t' → TreeOf R (pair h t) (pair h' t')

pub data PatternOf (R : Name → Name → Type 0) : Pattern → Pattern → Type 0 where
  variable_ps : {k : ℕ} → PatternOf R (variable_p k) (variable_p k)
  literal_ps : {x y : Name} → R x y → PatternOf R (literal_p x) (literal_p y)
  wildcard_ps : PatternOf R wildcard_p wildcard_p
  constant_ps : {a : Constant} → PatternOf R (constant_p a) (constant_p a)
  empty_ps : PatternOf R empty_p empty_p
  pair_ps : {p p' q q' : Pattern} → PatternOf R p p' → PatternOf R q q' → PatternOf R (pair_p p q) (pair_p p' q')
  ellipsis_ps : {p p' : Pattern} {n : ℕ} {q q' : Pattern} → PatternOf R p p' → PatternOf R q q' → PatternOf R (ellipsis_p p n q) (ellipsis_p p' n q')

pub data TemplateOf (R : Name → Name → Type 0) : Template → Template → Type 0 where
  variable_ts : {k d : ℕ} → TemplateOf R (variable_t k d) (variable_t k d)
  insert_ts : {x y : Name} → R x y → TemplateOf R (insert_t x) (insert_t y)
  constant_ts : {a : Constant} → TemplateOf R (constant_t a) (constant_t a)
  empty_ts : TemplateOf R empty_t empty_t
  pair_ts : {p p' q q' : Template} → TemplateOf R p p' → TemplateOf R q q' → TemplateOf R (pair_t p q) (pair_t p' q')
  ellipsis_ts : {p p' q q' : Template} → TemplateOf R p p' → TemplateOf R q q' → TemplateOf R (ellipsis_t p q) (ellipsis_t p' q')

-- patterns related by L, templates by T
pub record RuleOf (L T : Name → Name → Type 0) (r s : Rule) : Type 0 where
  pub pattern : PatternOf L r.pattern s.pattern
  pub template : TemplateOf T r.template s.template
