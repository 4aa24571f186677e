-- Rules (document 01, 'Forms'; request L2 for the depth of variables; request L3 for elements after an ellipsis, an ellipsis of the
-- author's choice and the escape): read once, when their form is reached, into patterns and templates; none is ground 15.
-- What matching and transcribing need is settled here, so that they test nothing more.
use Rattle.std.specs.Prelude.{Bool, true, false, not, ◌&&◌, ◌||◌, cond, List, [], ◌∷◌, ◌++◌, map, ℕ, suc, ◌+◌, ◌-◌, eqb, ltb, leb, length}
use Rattle.std.proofs.Math.Option.{Option, none, some}
use Rattle.words.specs.Limits.{literals_most, rules_most, pattern_variables_most, depth_most}
use Rattle.words.specs.Lists.{within, all_of, any_of}
use Rattle.words.specs.Options.{only_if, map_both, traverse}
use Rattle.datum.specs.Constant.{Constant}
use Rattle.recipe.specs.Name.{Name, same, distinct, is_ellipsis, is_wildcard, is_ordinary}
use Rattle.recipe.specs.Tree.{Tree, empty, constant, name, pair, on_name, on_pair, names, is_name, is_list, is_list_of, elements, element, tail}
use Rattle.expansion.specs.Lookup.{is_syntax_rules}

-- variables are numbered from 0 in the pattern's order; ellipsis_p is an element followed by the ellipsis, then n elements more (request
-- L3) and the pattern of that rest of its list
pub data Pattern : Type 0 where
  variable_p : (k : ℕ) → Pattern
  literal_p : Name → Pattern
  wildcard_p : Pattern
  constant_p : Constant → Pattern
  empty_p : Pattern
  pair_p : (head tail : Pattern) → Pattern
  ellipsis_p : (element : Pattern) (n : ℕ) (rest : Pattern) → Pattern

-- variable_t k d is variable k, under d ellipses in the pattern; ellipsis_t an element followed by the ellipsis, then the rest of its list
pub data Template : Type 0 where
  variable_t : (k d : ℕ) → Template
  insert_t : Name → Template
  constant_t : Constant → Template
  empty_t : Template
  pair_t : (head tail : Template) → Template
  ellipsis_t : (element rest : Template) → Template

pub record Rule : Type 0 where
  pub pattern : Pattern
  pub template : Template

-- ---- where the parts of rules stand

-- of a rules form, (syntax-rules (literal ...) (pattern template) ...), with or without the ellipsis name of its author's choice before
-- the literals (request L3): how many names that is, the form after syntax-rules and it, the list of its literals, the list of its rules, and which
-- of the form's elements rule j is
unfoldable pub chosen_count : Tree → ℕ
chosen_count form = cond (is_name (element 1 form)) 1 0

unfoldable pub after_chosen : Tree → Tree
after_chosen form = cond (is_name (element 1 form)) (tail (tail form)) (tail form)

abbrev pub literal_list : Tree → Tree
literal_list form = element 0 (after_chosen form)

abbrev pub rule_list : Tree → Tree
rule_list form = tail (after_chosen form)

abbrev pub rule_place : Tree → ℕ → ℕ
rule_place form j = suc (suc (chosen_count form + j))

-- its ellipsis: the chosen name, known by sameness (request L3), or `...`, known by number
unfoldable pub ellipsis_of : Tree → Name → Bool
ellipsis_of form = on_name same is_ellipsis (element 1 form)

-- of a rule, (pattern template): its pattern, the part of it that is matched (all but the first place), and its template
abbrev pub rule_pattern : Tree → Tree
rule_pattern rule = element 0 rule

abbrev pub matched_part : Tree → Tree
matched_part rule = tail (rule_pattern rule)

abbrev pub template_place : ℕ
template_place = 1

abbrev pub rule_template : Tree → Tree
rule_template rule = element template_place rule

-- ---- the variables of a pattern, and templates

-- the occurrences that drive the copies of an element: variable k, with how many of its ellipses are outside this one.
-- An occurrence lies under j ellipses inside the element, and its own d ellipses are the innermost
unfoldable pub drivers : ℕ → Template → List (ℕ × ℕ)
drivers j (variable_t k d) = cond (ltb j d) ((k, d - suc j) ∷ []) []
drivers j (insert_t x) = []
drivers j (constant_t a) = []
drivers j empty_t = []
drivers j (pair_t a b) = drivers j a ++ drivers j b
drivers j (ellipsis_t e r) = drivers (suc j) e ++ drivers j r

-- an element followed by the ellipsis holds a variable that drives its copies
unfoldable pub is_driven : Option Template → Bool
is_driven none = false
is_driven (some e) = ltb 0 (length (drivers 0 e))

-- a variable under d ellipses of the pattern is under at least d of the template (request L2), so under none it may be anywhere
unfoldable pub depth_fits : (d here : ℕ) → Bool
depth_fits d here = leb d here

-- the variable that x is the same as, with its depth; the list has the variables from number k on
unfoldable pub variable_from : ℕ → List (Name × ℕ) → Name → Option (ℕ × ℕ)
variable_from k [] x = none
variable_from k (v ∷ vs) x = let later = variable_from (suc k) vs x in cond (same v.0 x) (some (k, v.1)) later

-- a template's name at this depth: a variable, or inserted
unfoldable pub name_template : ℕ → Name → Option (ℕ × ℕ) → Option Template
name_template here x none = some (insert_t x)
name_template here x (some v) = only_if (depth_fits v.1 here) (some (variable_t v.0 v.1))

-- at most 16 variables, no two the same, none under more than two ellipses
unfoldable pub are_variables : List (Name × ℕ) → Bool
are_variables vs = leb (length vs) pattern_variables_most && (distinct (map (λ v. v.0) vs) && all_of (λ v. leb v.1 depth_most) vs)

-- an element and the rest of its list, with the ellipsis between them or without
unfoldable pub list_template : Bool → Option Template → Option Template → Option Template
list_template dots first later = cond dots (only_if (is_driven first) (map_both ellipsis_t first later)) (map_both pair_t first later)

-- where a part of a template stands: it is an element or the whole; the rest of a list; such a rest that begins with the ellipsis which
-- the element before it has taken; or what follows the ellipsis that begins an escape
pub data Place : Type 0 where
  as_element as_rest as_taken as_escaped : Place

-- of an escaped template: no name is the ellipsis (request L3)
unfoldable pub no_ellipsis : Name → Bool
no_ellipsis x = false

-- dots tells the ellipsis
module _ (dots : Name → Bool) where
  -- the list begins with the ellipsis
  unfoldable pub dots_next : Tree → Bool
  dots_next = on_pair (λ h t. on_name dots false h) false

  -- the depth of an element before this rest of its list
  unfoldable pub depth_before : Tree → ℕ → ℕ
  depth_before rest d = cond (dots_next rest) (suc d) d

  -- where the rest of a list stands after an element that is no ellipsis
  unfoldable pub place_after : Tree → Place
  place_after later = cond (dots_next later) as_taken as_rest

  -- a literal: a name other than the ellipsis and `_`
  unfoldable pub is_literal : Tree → Bool
  is_literal = on_name (λ x. not (dots x) && not (is_wildcard x)) false

  module _ (literals : List Name) where
    -- a pattern's name that is neither the ellipsis nor `_` nor the same as a listed literal
    unfoldable pub is_variable : Name → Bool
    is_variable x = not (dots x) && (not (is_wildcard x) && not (any_of (same x) literals))

    -- the pattern's variables from the left, each with the number of ellipses it lies under
    unfoldable pub variables : ℕ → Tree → List (Name × ℕ)
    variables d empty = []
    variables d (constant a) = []
    variables d (name x) = cond (is_variable x) ((x, d) ∷ []) []
    variables d (pair p ps) = variables (depth_before ps d) p ++ variables d ps

    -- a part of a pattern, with k variables to its left; `taken` where it begins with the ellipsis that the element before it has taken.
    -- The ellipsis itself is none, and a list has one at the most
    unfoldable pub pattern_of : ℕ → (taken : Bool) → Tree → Option Pattern
    pattern_of k taken empty = some empty_p
    pattern_of k taken (constant a) = some (constant_p a)
    pattern_of k taken (name x) = only_if (not (dots x)) (some (cond (is_variable x) (variable_p k) (cond (is_wildcard x) wildcard_p (literal_p x))))
    pattern_of k taken (pair p ps) =
        let first = pattern_of k false p in
        let later = pattern_of (k + length (variables 0 p)) (not taken && dots_next ps) ps in
        cond taken later
        (cond (dots_next ps)
        (only_if (not (any_of (on_name dots false) (elements (tail ps)))) (map_both (λ q r. ellipsis_p q (length (elements (tail ps))) r) first later))
        (map_both pair_p first later))

-- a part of a template under d ellipses. A list that begins with the ellipsis is an escape, (... template), or none: in its template no
-- name is the ellipsis (request L3)
unfoldable pub template_of : (dots : Name → Bool) → List (Name × ℕ) → ℕ → Place → Tree → Option Template
template_of dots vs d place empty = some empty_t
template_of dots vs d place (constant a) = some (constant_t a)
template_of dots vs d place (name x) = only_if (not (dots x)) (name_template d x (variable_from 0 vs x))
template_of dots vs d as_element (pair p ps) =
    let first = template_of dots vs (depth_before dots ps d) as_element p in
    let later = template_of dots vs d (place_after dots ps) ps in
    let inside = template_of no_ellipsis vs d as_escaped ps in
    cond (on_name dots false p) (only_if (is_list_of 1 ps) inside) (list_template (dots_next dots ps) first later)
template_of dots vs d as_rest (pair p ps) =
    let first = template_of dots vs (depth_before dots ps d) as_element p in
    let later = template_of dots vs d (place_after dots ps) ps in
    list_template (dots_next dots ps) first later
template_of dots vs d as_taken (pair p ps) = template_of dots vs d as_rest ps
template_of dots vs d as_escaped (pair p ps) = template_of dots vs d as_element p

module _ (dots : Name → Bool) where
  -- the variables of a rule
  abbrev pub rule_variables : List Name → Tree → List (Name × ℕ)
  rule_variables literals r = variables dots literals 0 (matched_part r)

  -- (pattern template); a pattern's first place is a name other than the ellipsis, neither compared nor bound
  unfoldable pub rule_of : List Name → Tree → Option Rule
  rule_of literals r =
      let vs = rule_variables literals r in
      only_if (is_list_of 2 r && (on_name (λ x. not (dots x)) false (element 0 (rule_pattern r)) && are_variables vs))
      (map_both (λ q t. record { pattern = q; template = t }) (pattern_of dots literals 0 false (matched_part r)) (template_of dots vs 0 as_element (rule_template r)))

-- (syntax-rules (literal ...) (pattern template) ...), or with an ellipsis name of the author's choice before the literals (request L3):
-- any name but `...` and `_`, and the same as no literal
unfoldable pub is_rules_form : Tree → Bool
is_rules_form r =
    on_name is_syntax_rules false (element 0 r) && (on_name is_ordinary true (element 1 r) && (is_list (literal_list r)
    && (all_of (is_literal (ellipsis_of r)) (elements (literal_list r))
    && (leb (length (elements (literal_list r))) literals_most && within 1 rules_most (length (elements (rule_list r)))))))

unfoldable pub rules_of : Tree → Option (List Rule)
rules_of r = only_if (is_rules_form r) (traverse (rule_of (ellipsis_of r) (names (literal_list r))) (elements (rule_list r)))

-- rule j of a rules form has a variable of number n; its author's ellipsis counts as one
unfoldable pub has_variable : (j n : ℕ) → Tree → Bool
has_variable j n r =
    on_name (λ x. eqb x.number n) false (element 1 r)
    || any_of (λ v. eqb v.0.number n) (rule_variables (ellipsis_of r) (names (literal_list r)) (element j (rule_list r)))
