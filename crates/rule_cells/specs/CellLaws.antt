-- Laws of rule cells: what a pattern, a template or a list of rules means depends on the words below its reference alone, and
-- what each tag means.
use Rattle.std.specs.Prelude.{◌≡◌, cond, List, [], ◌∷◌, ℕ, zero, suc, ◌<◌, eqb, take}
use Rattle.std.proofs.Math.Path.{refl}
use Rattle.std.proofs.Common.{ap, ap₂, ◌∙◌, arith}
use borrow.Author.Tests.{ne_eqb}
use Rattle.expansion.specs.Rules.{Pattern, variable_p, literal_p, wildcard_p, constant_p, empty_p, pair_p, ellipsis_p, Template, variable_t, insert_t, constant_t, empty_t, pair_t, ellipsis_t, Rule}
use Rattle.arena.specs.Arena.{word_at, falling, reference_at, wrap_at, wrap_from, node_name, name_at}
use Rattle.arena.specs.ArenaLaws.{Reads, from-below, from-whole, word_at-below, reference_at-below, reference_at-falls, take_less, wrap_at-below}
use Rattle.arena.specs.NodeLaws.{name_at-agree}
use Rattle.rule_cells.specs.Offsets.{TAG, HEAD, REST, PATTERN-NUMBER, FOLLOWING, NUMBER, DEPTH, NODE, WRAP, NEXT}
use Rattle.words.specs.Lists.{within}
use Rattle.rule_cells.specs.Cells.{constant_before, literal_at, pattern_step, pattern_from, pattern_at, template_step, template_from, template_at, rule_at, rules_from, rules_at}

-- ---- names and constants

pub name_at-below : (a b : List ℕ) (node w : ℕ) → take node a ≡ take node b → take w a ≡ take w b → name_at a node w ≡ name_at b node w
unfolding name_at node_name reference_at word_at within falling wrap_from wrap_at
name_at-below a b zero w e d = wrap_at-below a b w d _
name_at-below a b (suc node) w e d = name_at-agree a b (suc node) w (omega arith) e d

-- two references of one cell
module _ (a b : List ℕ) (at : ℕ) (some_word : 0 < at) (e : take at a ≡ take at b) where
  kept_under : (k : ℕ) → take (reference_at a at k) a ≡ take (reference_at a at k) b
  kept_under k = take_less a b (reference_at a at k) at (omega (arith, reference_at-falls a at k some_word)) e

  child-name : (j k : ℕ) → 0 < j → 0 < k → name_at a (reference_at a at j) (reference_at a at k) ≡ name_at b (reference_at b at j) (reference_at b at k)
  child-name j k p q =
      name_at-below a b (reference_at a at j) (reference_at a at k) (kept_under j) (kept_under k)
      ∙ ap₂ (name_at b) (reference_at-below a b at j p e) (reference_at-below a b at k q e)

  constant_before-agree : constant_before a at ≡ constant_before b at
  unfolding constant_before
  constant_before-agree = rw (word_at-below a b at 4 (omega arith) e, word_at-below a b at 3 (omega arith) e, word_at-below a b at 2 (omega arith) e)

  literal_at-agree : literal_at a at ≡ literal_at b at
  unfolding literal_at
  literal_at-agree = rw (child-name 5 4 (omega arith) (omega arith), word_at-below a b at 3 (omega arith) e, word_at-below a b at 2 (omega arith) e)

  -- what the cells that it refers to mean
  module _ {A : Type 0} (f g : ℕ → A) (agree : (r : ℕ) → r < at → f r ≡ g r) where
    child : (k : ℕ) → 0 < k → f (reference_at a at k) ≡ g (reference_at b at k)
    child k p = agree _ (reference_at-falls a at k some_word) ∙ ap g (reference_at-below a b at k p e)

-- ---- what a reference means depends on the words below it alone

module _ (a b : List ℕ) (at : ℕ) (some_word : 0 < at) (e : take at a ≡ take at b) where
  pattern_step-agree : (f g : ℕ → Pattern) → ((r : ℕ) → r < at → f r ≡ g r) → pattern_step a f at ≡ pattern_step b g at
  unfolding pattern_step
  pattern_step-agree f g agree =
      rw (word_at-below a b at 1 (omega arith) e, word_at-below a b at 4 (omega arith) e, word_at-below a b at 2 (omega arith) e, literal_at-agree a b at some_word e, constant_before-agree a b at some_word e, child a b at some_word e f g agree 3 (omega arith), child a b at some_word e f g agree 2 (omega arith))

  template_step-agree : (f g : ℕ → Template) → ((r : ℕ) → r < at → f r ≡ g r) → template_step a f at ≡ template_step b g at
  unfolding template_step
  template_step-agree f g agree =
      rw (word_at-below a b at 1 (omega arith) e, word_at-below a b at 3 (omega arith) e, word_at-below a b at 2 (omega arith) e, child-name a b at some_word e 3 2 (omega arith) (omega arith), constant_before-agree a b at some_word e, child a b at some_word e f g agree 3 (omega arith), child a b at some_word e f g agree 2 (omega arith))

  rule_at-agree : ((r : ℕ) → r < at → pattern_at a r ≡ pattern_at b r) → ((r : ℕ) → r < at → template_at a r ≡ template_at b r) → rule_at a at ≡ rule_at b at
  unfolding rule_at
  rule_at-agree p t = rw (child a b at some_word e (pattern_at a) (pattern_at b) p 3 (omega arith), child a b at some_word e (template_at a) (template_at b) t 2 (omega arith))

pattern_from-none : (w : List ℕ) (g : ℕ) → pattern_from w g 0 ≡ empty_p
unfolding pattern_from pattern_step word_at within
pattern_from-none w zero = refl
pattern_from-none w (suc g) = refl

reads-pattern : (w : List ℕ) → Reads (pattern_from w) (pattern_step w) empty_p
unfolding pattern_from
reads-pattern w = record { steps = λ g at. refl; ends = pattern_from-none w }

pub pattern_at-below : (a b : List ℕ) (at : ℕ) → take at a ≡ take at b → pattern_at a at ≡ pattern_at b at
unfolding pattern_at
pattern_at-below a b at e = from-below (reads-pattern a) (reads-pattern b) a b (pattern_step-agree a b) at e

pattern_at-whole : (w : List ℕ) (at : ℕ) → 0 < at → pattern_at w at ≡ pattern_step w (pattern_at w) at
unfolding pattern_at
pattern_at-whole w at h = from-whole (reads-pattern w) (λ n p. pattern_step-agree w w n p refl) at h

pattern_at-step : (w : List ℕ) (at : ℕ) → pattern_at w at ≡ pattern_step w (pattern_at w) at
unfolding pattern_at pattern_from pattern_step word_at within
pattern_at-step w zero = refl
pattern_at-step w (suc at) = pattern_at-whole w (suc at) (omega arith)

template_from-none : (w : List ℕ) (g : ℕ) → template_from w g 0 ≡ empty_t
unfolding template_from template_step word_at within
template_from-none w zero = refl
template_from-none w (suc g) = refl

reads-template : (w : List ℕ) → Reads (template_from w) (template_step w) empty_t
unfolding template_from
reads-template w = record { steps = λ g at. refl; ends = template_from-none w }

pub template_at-below : (a b : List ℕ) (at : ℕ) → take at a ≡ take at b → template_at a at ≡ template_at b at
unfolding template_at
template_at-below a b at e = from-below (reads-template a) (reads-template b) a b (template_step-agree a b) at e

template_at-whole : (w : List ℕ) (at : ℕ) → 0 < at → template_at w at ≡ template_step w (template_at w) at
unfolding template_at
template_at-whole w at h = from-whole (reads-template w) (λ n p. template_step-agree w w n p refl) at h

template_at-step : (w : List ℕ) (at : ℕ) → template_at w at ≡ template_step w (template_at w) at
unfolding template_at template_from template_step word_at within
template_at-step w zero = refl
template_at-step w (suc at) = template_at-whole w (suc at) (omega arith)

-- one rule, then those after it
rules_step : List ℕ → (ℕ → List Rule) → ℕ → List Rule
rules_step w later at = cond (eqb at 0) [] (rule_at w at ∷ later (reference_at w at NEXT))

rules_step-agree : (a b : List ℕ) (at : ℕ) → 0 < at → take at a ≡ take at b → (f g : ℕ → List Rule) → ((r : ℕ) → r < at → f r ≡ g r) → rules_step a f at ≡ rules_step b g at
unfolding rules_step
rules_step-agree a b at some_word e f g agree =
    let under : (r : ℕ) → r < at → take r a ≡ take r b = λ r l. take_less a b r at (omega arith) e in
    rw (rule_at-agree a b at some_word e (λ r l. pattern_at-below a b r (under r l)) (λ r l. template_at-below a b r (under r l)), child a b at some_word e f g agree 1 (omega arith))

rules_from-none : (w : List ℕ) (g : ℕ) → rules_from w g 0 ≡ []
unfolding rules_from
rules_from-none w zero = refl
rules_from-none w (suc g) = refl

reads-rules : (w : List ℕ) → Reads (rules_from w) (rules_step w) []
unfolding rules_from rules_step
reads-rules w = record { steps = λ g at. refl; ends = rules_from-none w }

pub rules_at-below : (a b : List ℕ) (at : ℕ) → take at a ≡ take at b → rules_at a at ≡ rules_at b at
unfolding rules_at
rules_at-below a b at e = from-below (reads-rules a) (reads-rules b) a b (rules_step-agree a b) at e

rules_at-whole : (w : List ℕ) (at : ℕ) → 0 < at → rules_at w at ≡ rules_step w (rules_at w) at
unfolding rules_at
rules_at-whole w at h = from-whole (reads-rules w) (λ n p. rules_step-agree w w n p refl) at h

-- ---- what each cell of a pattern means

module _ (work : List ℕ) (at : ℕ) where
  pub pattern_at-variable : word_at work at TAG ≡ 1 → pattern_at work at ≡ variable_p (word_at work at PATTERN-NUMBER)
  unfolding pattern_step
  pattern_at-variable e = pattern_at-step work at ∙ rw e refl

  pub pattern_at-literal : word_at work at TAG ≡ 2 → pattern_at work at ≡ literal_p (literal_at work at)
  unfolding pattern_step
  pattern_at-literal e = pattern_at-step work at ∙ rw e refl

  pub pattern_at-wildcard : word_at work at TAG ≡ 3 → pattern_at work at ≡ wildcard_p
  unfolding pattern_step
  pattern_at-wildcard e = pattern_at-step work at ∙ rw e refl

  pub pattern_at-constant : word_at work at TAG ≡ 4 → pattern_at work at ≡ constant_p (constant_before work at)
  unfolding pattern_step
  pattern_at-constant e = pattern_at-step work at ∙ rw e refl

  pub pattern_at-pair : word_at work at TAG ≡ 6 → pattern_at work at ≡ pair_p (pattern_at work (reference_at work at HEAD)) (pattern_at work (reference_at work at REST))
  unfolding pattern_step
  pattern_at-pair e = pattern_at-step work at ∙ rw e refl

  pub pattern_at-ellipsis : word_at work at TAG ≡ 7 → pattern_at work at ≡ ellipsis_p (pattern_at work (reference_at work at HEAD)) (word_at work at FOLLOWING) (pattern_at work (reference_at work at REST))
  unfolding pattern_step
  pattern_at-ellipsis e = pattern_at-step work at ∙ rw e refl

  -- any other tag
  pub pattern_at-empty : (word_at work at TAG ≡ 1 → ⊥) → (word_at work at TAG ≡ 2 → ⊥) → (word_at work at TAG ≡ 3 → ⊥) → (word_at work at TAG ≡ 4 → ⊥) → (word_at work at TAG ≡ 6 → ⊥) → (word_at work at TAG ≡ 7 → ⊥) → pattern_at work at ≡ empty_p
  unfolding pattern_step
  pattern_at-empty n1 n2 n3 n4 n6 n7 = pattern_at-step work at ∙ rw (ne_eqb _ _ n1, ne_eqb _ _ n2, ne_eqb _ _ n3, ne_eqb _ _ n4, ne_eqb _ _ n6, ne_eqb _ _ n7)

  -- ---- what each cell of a template means

  pub template_at-variable : word_at work at TAG ≡ 1 → template_at work at ≡ variable_t (word_at work at NUMBER) (word_at work at DEPTH)
  unfolding template_step
  template_at-variable e = template_at-step work at ∙ rw e refl

  pub template_at-insert : word_at work at TAG ≡ 2 → template_at work at ≡ insert_t (name_at work (reference_at work at NODE) (reference_at work at WRAP))
  unfolding template_step
  template_at-insert e = template_at-step work at ∙ rw e refl

  pub template_at-constant : word_at work at TAG ≡ 4 → template_at work at ≡ constant_t (constant_before work at)
  unfolding template_step
  template_at-constant e = template_at-step work at ∙ rw e refl

  pub template_at-pair : word_at work at TAG ≡ 6 → template_at work at ≡ pair_t (template_at work (reference_at work at HEAD)) (template_at work (reference_at work at REST))
  unfolding template_step
  template_at-pair e = template_at-step work at ∙ rw e refl

  pub template_at-ellipsis : word_at work at TAG ≡ 7 → template_at work at ≡ ellipsis_t (template_at work (reference_at work at HEAD)) (template_at work (reference_at work at REST))
  unfolding template_step
  template_at-ellipsis e = template_at-step work at ∙ rw e refl

  -- any other tag
  pub template_at-empty : (word_at work at TAG ≡ 1 → ⊥) → (word_at work at TAG ≡ 2 → ⊥) → (word_at work at TAG ≡ 4 → ⊥) → (word_at work at TAG ≡ 6 → ⊥) → (word_at work at TAG ≡ 7 → ⊥) → template_at work at ≡ empty_t
  unfolding template_step
  template_at-empty n1 n2 n4 n6 n7 = template_at-step work at ∙ rw (ne_eqb _ _ n1, ne_eqb _ _ n2, ne_eqb _ _ n4, ne_eqb _ _ n6, ne_eqb _ _ n7)

  -- ---- lists of rules

  pub rules_at-none : at ≡ 0 → rules_at work at ≡ []
  unfolding rules_at
  rules_at-none e = rw e (rules_from-none work 0)

  pub rules_at-more : 0 < at → rules_at work at ≡ rule_at work at ∷ rules_at work (reference_at work at NEXT)
  unfolding rules_step
  rules_at-more h = rules_at-whole work at h ∙ rw (ne_eqb at 0 (λ z. omega arith))
