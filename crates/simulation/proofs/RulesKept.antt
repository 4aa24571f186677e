-- Reading rules keeps a relation of names that keeps sameness, the ellipsis and `_`: both readings give rules of one shape, or none.
use Rattle.std.specs.Prelude.{◌≡◌, Bool, ltb}
use Rattle.std.proofs.Math.Path.{refl, ap, ap₂, subst}
use Rattle.std.proofs.Math.Bool.{true, false, not, ◌&&◌, cond}
use mathlib.Core.List.{List, [], ◌∷◌, ◌++◌}
use Rattle.std.proofs.Math.Option.{Option, none, some}
use Prim.Native.Nat.{ℕ, suc, ◌+◌}
use Rattle.std.proofs.Math.Dec.{leb}
use Rattle.std.proofs.Math.ListN.{length}
use Rattle.words.specs.Limits.{literals_most, rules_most, pattern_variables_most, depth_most}
use Rattle.words.specs.Lists.{any_of, within}
use Rattle.recipe.specs.Name.{Name, same, distinct, is_ellipsis, is_wildcard, is_ordinary}
use Rattle.recipe.specs.Tree.{Tree, on_name, on_pair, names, is_name, is_list_of, elements, element, tail}
use Rattle.expansion.specs.Lookup.{is_syntax_rules}
use Rattle.expansion.specs.Rules.{pair_p, ellipsis_p, Template, pair_t, ellipsis_t, chosen_count, after_chosen, literal_list, rule_list, rule_place, ellipsis_of, rule_pattern, template_place, rule_template, drivers, is_driven, variable_from, name_template, are_variables, list_template, Place, as_element, as_rest, as_taken, as_escaped, no_ellipsis, dots_next, depth_before, place_after, is_literal, is_variable, variables, pattern_of, template_of, rule_variables, rule_of, is_rules_form, rules_of}
use Rattle.simulation.specs.Relations.{ListRel, ends, joins, OptionRel, nones, somes}
use Rattle.simulation.proofs.RelationsLaws.{any-rel, length-rel, append-rel, map-rel, all-rel, cond-rel, guard-rel, map_both-rel, traverse-rel}
use Rattle.simulation.specs.Shapes.{TreeOf, empties, constants, names₂, pairs, PatternOf, variable_ps, literal_ps, wildcard_ps, constant_ps, empty_ps, pair_ps, ellipsis_ps, TemplateOf, variable_ts, insert_ts, constant_ts, empty_ts, pair_ts, ellipsis_ts, RuleOf}
use Rattle.simulation.proofs.ShapesLaws.{names-rel, on_name-rel, is_list-rel, elements-rel, is_list_of-rel, element-rel, tail-rel}

-- ---- templates

pub drivers-rel : {R : Name → Name → Type 0} (j : ℕ) {e f : Template} → TemplateOf R e f → drivers j e ≡ drivers j f
unfolding drivers
drivers-rel j variable_ts = refl
drivers-rel j (insert_ts r) = refl
drivers-rel j constant_ts = refl
drivers-rel j empty_ts = refl
drivers-rel j (pair_ts p q) = ap₂ ◌++◌ (drivers-rel j p) (drivers-rel j q)
drivers-rel j (ellipsis_ts p q) = ap₂ ◌++◌ (drivers-rel (suc j) p) (drivers-rel j q)

is_driven-rel : {R : Name → Name → Type 0} {e f : Option Template} → OptionRel (TemplateOf R) e f → is_driven e ≡ is_driven f
unfolding is_driven
is_driven-rel nones = refl
is_driven-rel (somes r) = ap (λ l. ltb 0 (length l)) (drivers-rel 0 r)

name_template-rel : (R : Name → Name → Type 0) (d : ℕ) (x y : Name) → R x y → (v : Option (ℕ × ℕ)) → OptionRel (TemplateOf R) (name_template d x v) (name_template d y v)
unfolding name_template
name_template-rel R d x y r none = somes (insert_ts r)
name_template-rel R d x y r (some v) = guard-rel refl (somes variable_ts)

-- dots and dots' tell the ellipsis in the two readings
module _ (R : Name → Name → Type 0) (dots dots' : Name → Bool) (dots-eq : (x y : Name) → R x y → dots x ≡ dots' y) where
  dots_next-rel : {t u : Tree} → TreeOf R t u → dots_next dots t ≡ dots_next dots' u
  unfolding dots_next on_pair
  dots_next-rel empties = refl
  dots_next-rel constants = refl
  dots_next-rel (names₂ r) = refl
  dots_next-rel (pairs p q) = on_name-rel dots dots' dots-eq false p

  depth_before-rel : (d : ℕ) {t u : Tree} → TreeOf R t u → depth_before dots t d ≡ depth_before dots' u d
  unfolding depth_before
  depth_before-rel d r = ap (λ b. cond b (suc d) d) (dots_next-rel r)

  place_after-rel : {t u : Tree} → TreeOf R t u → place_after dots t ≡ place_after dots' u
  unfolding place_after
  place_after-rel r = ap (λ b. cond b as_taken as_rest) (dots_next-rel r)

list_template-rel : {R : Name → Name → Type 0} {b c : Bool} → b ≡ c → {e f e' f' : Option Template} → OptionRel (TemplateOf R) e e' → OptionRel (TemplateOf R) f f'
    → OptionRel (TemplateOf R) (list_template b e f) (list_template c e' f')
unfolding list_template
list_template-rel {R} p first later =
    cond-rel (OptionRel (TemplateOf R)) _ _ _ _ _ _ p
    (guard-rel (is_driven-rel first) (map_both-rel ellipsis_t ellipsis_t (λ x y u v p q. ellipsis_ts p q) first later))
    (map_both-rel pair_t pair_t (λ x y u v p q. pair_ts p q) first later)

-- related names are the ellipsis in both readings or in none, and the same variable or none
pub template_of-rel : (R : Name → Name → Type 0) (dots dots' : Name → Bool) → ((x y : Name) → R x y → dots x ≡ dots' y)
    → (vs ws : List (Name × ℕ)) → ((x y : Name) → R x y → variable_from 0 vs x ≡ variable_from 0 ws y)
    → (d : ℕ) (place : Place) {t u : Tree} → TreeOf R t u → OptionRel (TemplateOf R) (template_of dots vs d place t) (template_of dots' ws d place u)
unfolding template_of no_ellipsis
template_of-rel R dots dots' dots-eq vs ws variable-eq d b empties = somes empty_ts
template_of-rel R dots dots' dots-eq vs ws variable-eq d b constants = somes constant_ts
template_of-rel R dots dots' dots-eq vs ws variable-eq d b (names₂ {x = x} {y = y} r) = guard-rel (ap not (dots-eq x y r))
    (subst (λ z. OptionRel (TemplateOf R) (name_template d x (variable_from 0 vs x)) (name_template d y z)) (variable-eq x y r) (name_template-rel R d x y r (variable_from 0 vs x)))
template_of-rel R dots dots' dots-eq vs ws variable-eq d as_element (pairs {h = h} {h' = h'} {t = t} {t' = t'} r s) =
    cond-rel (OptionRel (TemplateOf R)) _ _ _ _ _ _ (on_name-rel dots dots' dots-eq false r)
    (guard-rel (is_list_of-rel 1 s) (template_of-rel R no_ellipsis no_ellipsis (λ x y q. refl) vs ws variable-eq d as_escaped s))
    (list_template-rel (dots_next-rel R dots dots' dots-eq s)
    (subst (λ k. OptionRel (TemplateOf R) (template_of dots vs (depth_before dots t d) as_element h) (template_of dots' ws k as_element h')) (depth_before-rel R dots dots' dots-eq d s)
    (template_of-rel R dots dots' dots-eq vs ws variable-eq (depth_before dots t d) as_element r))
    (subst (λ k. OptionRel (TemplateOf R) (template_of dots vs d (place_after dots t) t) (template_of dots' ws d k t')) (place_after-rel R dots dots' dots-eq s)
    (template_of-rel R dots dots' dots-eq vs ws variable-eq d (place_after dots t) s)))
template_of-rel R dots dots' dots-eq vs ws variable-eq d as_rest (pairs {h = h} {h' = h'} {t = t} {t' = t'} r s) =
    list_template-rel (dots_next-rel R dots dots' dots-eq s)
    (subst (λ k. OptionRel (TemplateOf R) (template_of dots vs (depth_before dots t d) as_element h) (template_of dots' ws k as_element h')) (depth_before-rel R dots dots' dots-eq d s)
    (template_of-rel R dots dots' dots-eq vs ws variable-eq (depth_before dots t d) as_element r))
    (subst (λ k. OptionRel (TemplateOf R) (template_of dots vs d (place_after dots t) t) (template_of dots' ws d k t')) (place_after-rel R dots dots' dots-eq s)
    (template_of-rel R dots dots' dots-eq vs ws variable-eq d (place_after dots t) s))
template_of-rel R dots dots' dots-eq vs ws variable-eq d as_taken (pairs r s) = template_of-rel R dots dots' dots-eq vs ws variable-eq d as_rest s
template_of-rel R dots dots' dots-eq vs ws variable-eq d as_escaped (pairs r s) = template_of-rel R dots dots' dots-eq vs ws variable-eq d as_element r

-- ---- patterns and rules

module _ (R : Name → Name → Type 0) (same-eq : (i j x y : Name) → R i j → R x y → same i x ≡ same j y) where
  any_same : {i j : Name} → R i j → {xs ys : List Name} → ListRel R xs ys → any_of (same i) xs ≡ any_of (same j) ys
  any_same r l = any-rel _ _ (λ x y q. same-eq _ _ x y r q) l

  pub distinct-rel : {xs ys : List Name} → ListRel R xs ys → distinct xs ≡ distinct ys
  unfolding distinct
  distinct-rel ends = refl
  distinct-rel (joins r rs) = ap₂ (λ a b. not a && b) (any_same r rs) (distinct-rel rs)

  -- a variable's name and its depth
  pub record VariableRel (v w : Name × ℕ) : Type 0 where
    pub names : R v.0 w.0
    pub depths : v.1 ≡ w.1

  are_variables-rel : {vs ws : List (Name × ℕ)} → ListRel VariableRel vs ws → are_variables vs ≡ are_variables ws
  unfolding are_variables
  are_variables-rel v = ap₂ ◌&&◌ (ap (λ k. leb k pattern_variables_most) (length-rel v))
      (ap₂ ◌&&◌ (distinct-rel (map-rel _ _ (λ x y q. q.names) v)) (all-rel _ _ (λ x y q. ap (λ k. leb k depth_most) q.depths) v))

  variable_from-rel : {vs ws : List (Name × ℕ)} → ListRel VariableRel vs ws → (k : ℕ) {x y : Name} → R x y → variable_from k vs x ≡ variable_from k ws y
  unfolding variable_from
  variable_from-rel ends k r = refl
  variable_from-rel (joins v vs) k r = rw (same-eq _ _ _ _ v.names r, v.depths, variable_from-rel vs (suc k) r)

  module _ (wild-eq : (x y : Name) → R x y → is_wildcard x ≡ is_wildcard y) (dots dots' : Name → Bool) (dots-eq : (x y : Name) → R x y → dots x ≡ dots' y) {ls ms : List Name} (l : ListRel R ls ms) where
    is_variable-rel : (x y : Name) → R x y → is_variable dots ls x ≡ is_variable dots' ms y
    unfolding is_variable
    is_variable-rel x y r = ap₂ (λ a b. not a && b) (dots-eq x y r) (ap₂ (λ a b. not a && not b) (wild-eq x y r) (any_same r l))

    pub variables-rel : (d : ℕ) {p q : Tree} → TreeOf R p q → ListRel VariableRel (variables dots ls d p) (variables dots' ms d q)
    unfolding variables
    variables-rel d empties = ends
    variables-rel d constants = ends
    variables-rel d (names₂ {x = x} {y = y} r) = cond-rel (ListRel VariableRel) (is_variable dots ls x) (is_variable dots' ms y) ((x, d) ∷ []) [] ((y, d) ∷ []) []
        (is_variable-rel x y r) (joins (record { names = r; depths = refl }) ends) ends
    variables-rel d (pairs {h = h} {h' = h'} {t = t} r s) =
        append-rel (subst (λ k. ListRel VariableRel (variables dots ls (depth_before dots t d) h) (variables dots' ms k h')) (depth_before-rel R dots dots' dots-eq d s) (variables-rel (depth_before dots t d) r)) (variables-rel d s)

    pattern_of-rel : (k : ℕ) (taken : Bool) {p q : Tree} → TreeOf R p q → OptionRel (PatternOf R) (pattern_of dots ls k taken p) (pattern_of dots' ms k taken q)
    unfolding pattern_of
    pattern_of-rel k b empties = somes empty_ps
    pattern_of-rel k b constants = somes constant_ps
    pattern_of-rel k b (names₂ {x = x} {y = y} r) = guard-rel (ap not (dots-eq x y r)) (somes
        (cond-rel (PatternOf R) _ _ _ _ _ _ (is_variable-rel x y r) variable_ps (cond-rel (PatternOf R) _ _ _ _ _ _ (wild-eq x y r) wildcard_ps (literal_ps r))))
    pattern_of-rel k b (pairs {h = h} {h' = h'} {t = t} {t' = t'} r s) =
        let first = pattern_of-rel k false r in
        let c = length (variables dots ls 0 h) in
        let later = subst (λ z. OptionRel (PatternOf R) (pattern_of dots ls (k + c) (not b && dots_next dots t) t) (pattern_of dots' ms (k + length (variables dots' ms 0 h')) (not b && z) t')) (dots_next-rel R dots dots' dots-eq s)
        (subst (λ j. OptionRel (PatternOf R) (pattern_of dots ls (k + c) (not b && dots_next dots t) t) (pattern_of dots' ms (k + j) (not b && dots_next dots t) t')) (length-rel (variables-rel 0 r))
        (pattern_of-rel (k + c) (not b && dots_next dots t) s)) in
        let es = elements-rel (tail-rel s) in
        cond-rel (OptionRel (PatternOf R)) b b _ _ _ _ refl later
        (cond-rel (OptionRel (PatternOf R)) _ _ _ _ _ _ (dots_next-rel R dots dots' dots-eq s)
        (guard-rel (ap not (any-rel _ _ (λ x y q. on_name-rel dots dots' dots-eq false q) es))
        (map_both-rel _ _ (λ x y u v p q. subst (λ n. PatternOf R (ellipsis_p x (length (elements (tail t))) u) (ellipsis_p y n v)) (length-rel es) (ellipsis_ps p q)) first later))
        (map_both-rel pair_p pair_p (λ x y u v p q. pair_ps p q) first later))

    -- a rule whose template's names are related by S, under which they are the same variable or none
    pub rule_of-by : (S : Name → Name → Type 0) → ((x y : Name) → S x y → dots x ≡ dots' y) → (t u : Tree)
        → is_list_of 2 t ≡ is_list_of 2 u → TreeOf R (rule_pattern t) (rule_pattern u) → TreeOf S (rule_template t) (rule_template u)
        → ((x y : Name) → S x y → variable_from 0 (rule_variables dots ls t) x ≡ variable_from 0 (rule_variables dots' ms u) y)
        → OptionRel (RuleOf R S) (rule_of dots ls t) (rule_of dots' ms u)
    unfolding rule_of
    rule_of-by S template-eq t u e p q v =
        guard-rel (ap₂ ◌&&◌ e (ap₂ ◌&&◌ (on_name-rel _ _ (λ x y r. ap not (dots-eq x y r)) false (element-rel 0 p)) (are_variables-rel (variables-rel 0 (tail-rel p)))))
        (map_both-rel _ _ (λ x y a b f g. record { pattern = f; template = g }) (pattern_of-rel 0 false (tail-rel p)) (template_of-rel S dots dots' template-eq _ _ v 0 as_element q))

    pub rule_of-rel : (t u : Tree) → TreeOf R t u → OptionRel (RuleOf R R) (rule_of dots ls t) (rule_of dots' ms u)
    rule_of-rel t u r =
        let p = element-rel 0 r in
        rule_of-by R dots-eq t u (is_list_of-rel 2 r) p (element-rel template_place r) (λ x y q. variable_from-rel (variables-rel 0 (tail-rel p)) 0 q)

-- ---- rules forms; the lookup of the head is told apart

module _ {R : Name → Name → Type 0} where
  is_name-rel : {t u : Tree} → TreeOf R t u → is_name t ≡ is_name u
  unfolding is_name
  is_name-rel r = on_name-rel _ _ (λ x y q. refl) false r

  after_chosen-rel : {t u : Tree} → TreeOf R t u → TreeOf R (after_chosen t) (after_chosen u)
  unfolding after_chosen
  after_chosen-rel r = cond-rel (TreeOf R) _ _ _ _ _ _ (is_name-rel (element-rel 1 r)) (tail-rel (tail-rel r)) (tail-rel r)

  pub rule_place-rel : (j : ℕ) {t u : Tree} → TreeOf R t u → rule_place t j ≡ rule_place u j
  unfolding chosen_count
  rule_place-rel j r = ap (λ b. suc (suc (cond b 1 0 + j))) (is_name-rel (element-rel 1 r))

  pub literal_list-rel : {t u : Tree} → TreeOf R t u → TreeOf R (literal_list t) (literal_list u)
  literal_list-rel r = element-rel 0 (after_chosen-rel r)

  pub rule_list-rel : {t u : Tree} → TreeOf R t u → TreeOf R (rule_list t) (rule_list u)
  rule_list-rel r = tail-rel (after_chosen-rel r)

module _ (R : Name → Name → Type 0) (dots-eq : (x y : Name) → R x y → is_ellipsis x ≡ is_ellipsis y) (wild-eq : (x y : Name) → R x y → is_wildcard x ≡ is_wildcard y)
    (same-eq : (i j x y : Name) → R i j → R x y → same i x ≡ same j y) where
  -- the ellipsis of a form is known in both readings: a chosen one by sameness, `...` by number
  pub ellipsis_of-rel : (t u : Tree) → TreeOf R (element 1 t) (element 1 u) → (x y : Name) → R x y → ellipsis_of t x ≡ ellipsis_of u y
  unfolding ellipsis_of on_name
  ellipsis_of-rel t u r x y q = go r
    where
      go : {a b : Tree} → TreeOf R a b → on_name same is_ellipsis a x ≡ on_name same is_ellipsis b y
      go empties = dots-eq x y q
      go constants = dots-eq x y q
      go (names₂ p) = same-eq _ _ x y p q
      go (pairs a b) = dots-eq x y q

  is_literal-rel : {dots dots' : Name → Bool} → ((x y : Name) → R x y → dots x ≡ dots' y) → (t u : Tree) → TreeOf R t u → is_literal dots t ≡ is_literal dots' u
  unfolding is_literal
  is_literal-rel e t u r = on_name-rel _ _ (λ x y q. ap₂ (λ a b. not a && not b) (e x y q) (wild-eq x y q)) false r

  pub is_rules_form-rel : (t u : Tree) → on_name is_syntax_rules false (element 0 t) ≡ on_name is_syntax_rules false (element 0 u) → TreeOf R (element 1 t) (element 1 u)
      → TreeOf R (literal_list t) (literal_list u) → length (elements (rule_list t)) ≡ length (elements (rule_list u)) → is_rules_form t ≡ is_rules_form u
  unfolding is_rules_form is_ordinary
  is_rules_form-rel t u e c r f =
      let ls = elements-rel r in
      ap₂ ◌&&◌ e (ap₂ ◌&&◌ (on_name-rel is_ordinary is_ordinary (λ x y q. ap₂ (λ a b. not a && not b) (dots-eq x y q) (wild-eq x y q)) true c)
      (ap₂ ◌&&◌ (is_list-rel r) (ap₂ ◌&&◌ (all-rel (is_literal (ellipsis_of t)) (is_literal (ellipsis_of u)) (is_literal-rel (ellipsis_of-rel t u c)) ls)
      (ap₂ ◌&&◌ (ap (λ k. leb k literals_most) (length-rel ls)) (ap (within 1 rules_most) f)))))

  pub rules_of-rel : (t u : Tree) → TreeOf R t u → on_name is_syntax_rules false (element 0 t) ≡ on_name is_syntax_rules false (element 0 u)
      → OptionRel (ListRel (RuleOf R R)) (rules_of t) (rules_of u)
  unfolding rules_of
  rules_of-rel t u r e =
      let ls = literal_list-rel r in
      let rs = elements-rel (rule_list-rel r) in
      let c = element-rel 1 r in
      guard-rel (is_rules_form-rel t u e c ls (length-rel rs)) (traverse-rel _ _ (rule_of-rel R same-eq wild-eq (ellipsis_of t) (ellipsis_of u) (ellipsis_of-rel t u c) (names-rel ls)) rs)
