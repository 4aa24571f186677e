-- Parsed rules in the arena: patterns, templates and lists of rules, each a cell referred to by its end, its last word a tag.
-- Every function is total: what a reference means depends on the words below it alone, and a tag that is none means the empty list.
use Rattle.std.specs.Prelude.{cond, List, [], ◌∷◌, ℕ, zero, suc, eqb}
use Rattle.datum.specs.Constant.{Constant}
use Rattle.recipe.specs.Name.{Name}
use Rattle.expansion.specs.Rules.{Pattern, variable_p, literal_p, wildcard_p, constant_p, empty_p, pair_p, ellipsis_p, Template, variable_t, insert_t, constant_t, empty_t, pair_t, ellipsis_t, Rule}
use Rattle.arena.specs.Arena.{word_at, reference_at, binding_of, name_at}
use Rattle.rule_cells.specs.Offsets.{TAG, HEAD, REST, KIND, FIRST, SECOND, PATTERN-NUMBER, FOLLOWING, LITERAL-NODE, LITERAL-WRAP, LITERAL-NUMBER, LITERAL-KEY, NUMBER, DEPTH, NODE, WRAP, PATTERN, TEMPLATE, NEXT}

-- the constant whose three words stand before the tag
unfoldable pub constant_before : List ℕ → ℕ → Constant
constant_before work at = record { kind = word_at work at KIND; first = word_at work at FIRST; second = word_at work at SECOND }

-- ---- patterns

-- a literal's cell keeps what its lookup has found, number and binding, beside its name's node and pending wrap
unfoldable pub literal_at : List ℕ → ℕ → Name
literal_at work at =
    let x = name_at work (reference_at work at LITERAL-NODE) (reference_at work at LITERAL-WRAP) in
    record { number = word_at work at LITERAL-NUMBER; item = x.item; produced = x.produced; marks = x.marks; binding = binding_of (word_at work at LITERAL-KEY) }

-- tags: 1 variable (k), 2 literal (node, wrap, number, binding), 3 wildcard, 4 constant (three words), 6 pair (head, tail),
-- 7 ellipsis (how many elements follow, element, rest); any other the empty list
unfoldable pub pattern_step : List ℕ → (ℕ → Pattern) → ℕ → Pattern
pattern_step work below at =
    let tag = word_at work at TAG in
    cond (eqb tag 1) (variable_p (word_at work at PATTERN-NUMBER))
    (cond (eqb tag 2) (literal_p (literal_at work at))
    (cond (eqb tag 3) wildcard_p
    (cond (eqb tag 4) (constant_p (constant_before work at))
    (cond (eqb tag 6) (pair_p (below (reference_at work at HEAD)) (below (reference_at work at REST)))
    (cond (eqb tag 7) (ellipsis_p (below (reference_at work at HEAD)) (word_at work at FOLLOWING) (below (reference_at work at REST)))
    empty_p)))))

-- references fall, so that the reference itself is gas enough
unfoldable pub pattern_from : List ℕ → ℕ → ℕ → Pattern
pattern_from work zero at = empty_p
pattern_from work (suc gas) at = pattern_step work (pattern_from work gas) at

unfoldable pub pattern_at : List ℕ → ℕ → Pattern
pattern_at work at = pattern_from work at at

-- ---- templates

-- tags: 1 variable (k, d), 2 inserted name (node, wrap), 4 constant (three words), 6 pair (head, tail), 7 ellipsis (element, rest);
-- any other the empty list
unfoldable pub template_step : List ℕ → (ℕ → Template) → ℕ → Template
template_step work below at =
    let tag = word_at work at TAG in
    cond (eqb tag 1) (variable_t (word_at work at NUMBER) (word_at work at DEPTH))
    (cond (eqb tag 2) (insert_t (name_at work (reference_at work at NODE) (reference_at work at WRAP)))
    (cond (eqb tag 4) (constant_t (constant_before work at))
    (cond (eqb tag 6) (pair_t (below (reference_at work at HEAD)) (below (reference_at work at REST)))
    (cond (eqb tag 7) (ellipsis_t (below (reference_at work at HEAD)) (below (reference_at work at REST)))
    empty_t))))

unfoldable pub template_from : List ℕ → ℕ → ℕ → Template
template_from work zero at = empty_t
template_from work (suc gas) at = template_step work (template_from work gas) at

unfoldable pub template_at : List ℕ → ℕ → Template
template_at work at = template_from work at at

-- ---- lists of rules: a rule's pattern, template and the rules after it; 0 is no rule

unfoldable pub rule_at : List ℕ → ℕ → Rule
rule_at work at = record { pattern = pattern_at work (reference_at work at PATTERN); template = template_at work (reference_at work at TEMPLATE) }

unfoldable pub rules_from : List ℕ → ℕ → ℕ → List Rule
rules_from work zero at = []
rules_from work (suc gas) at = let later = rules_from work gas (reference_at work at NEXT) in cond (eqb at 0) [] (rule_at work at ∷ later)

unfoldable pub rules_at : List ℕ → ℕ → List Rule
rules_at work at = rules_from work at at
