-- Rules that parsing makes of tidy trees are sound. Tails must be lists: a name in place of the list after `...` would be counted as
-- a variable, and no pattern would hold it.
use Rattle.std.specs.Prelude.{◌≡◌, ℕ, suc, ◌+◌, ◌<◌, ◌≤◌, Bool, true, false, cond, not, ◌&&◌, ◌||◌, leb, List, [], ◌∷◌, map, length, nat_le, refl}
use Rattle.std.proofs.Common.{◌∙◌, arith}
use Rattle.std.proofs.lemmas.Bool.{false≢true}
use Rattle.std.proofs.Math.Option.{Option}
use borrow.Author.Tests.{eq-eqb, leb-true, leb-false}
use Rattle.words.specs.Limits.{pattern_variables_most, depth_most}
use Rattle.words.specs.Lists.{all_of}
use Rattle.words.specs.TestLaws.{and_left, and_right, or_left, or_right}
use Rattle.words.specs.Options.{only_if, map_both}
use Rattle.words.specs.Each.{Each, each_weaken, Given, missing, given, given-weaken, given-traverse, given-cond, given-guard, given-map_some, given-map_both}
use Rattle.datum.specs.Constant.{Constant, is_constant}
use Rattle.recipe.specs.Name.{Name, same, distinct}
use Rattle.recipe.specs.Tree.{Tree, empty, constant, name, pair, on_name, on_pair, is_list_of, names, elements, element, tail}
use Rattle.recipe.specs.Tidy.{Tidy, tidy_empty, tidy_constant, tidy_name, tidy_pair, tidy-elements, tidy-element}
use Rattle.recipe.specs.TableTidy.{IsConstant}
use Rattle.expansion.specs.Rules.{literal_list, ellipsis_of, rule_pattern, matched_part, template_place, rule_variables, Pattern, pair_p, ellipsis_p, Template, constant_t, pair_t, ellipsis_t, depth_fits, variable_from, name_template, are_variables, list_template, Place, as_element, as_rest, as_taken, as_escaped, no_ellipsis, dots_next, depth_before, place_after, is_variable, variables, pattern_of, template_of, rule_of, is_rules_form, rules_of}
use Rattle.expansion.proofs.TidyRulesLaws.{tidy-rules}
use Rattle.expansion.specs.Match.{holds}
use Rattle.words.specs.ListLaws.{either}
use Rattle.rule_cells.specs.PatternLaws.{count-pair, dots-count}
use Rattle.environments.specs.Sound.{Sound, SoundRule}

-- ---- answers

-- each answer may use what the test says
given-tested : {A : Type 0} {P : A → Type 0} (b : Bool) {o q : Option A} → (b ≡ true → Given P o) → (b ≡ false → Given P q) → Given P (cond b o q)
given-tested true f g = f refl
given-tested false f g = g refl

given-guarded : {A : Type 0} {P : A → Type 0} (b : Bool) {o : Option A} → (b ≡ true → Given P o) → Given P (only_if b o)
unfolding only_if
given-guarded b f = given-tested b f (λ e. missing)

-- the second answer may use what holds of the first
given-then : {A B C : Type 0} {P : A → Type 0} {R : C → Type 0} (f : A → B → C) {o : Option A} {q : Option B} → ((a : A) → P a → Given (λ b. R (f a b)) q) → Given P o → Given R (map_both f o q)
unfolding map_both
given-then f k missing = missing
given-then f k (given {a} p) = given-map_some (f a) (λ b r. r) (k a p)

-- ---- patterns

-- the pattern holds n variables from number k on
abbrev HoldsFrom : (k n : ℕ) → Pattern → Type 0
HoldsFrom k n p = (j : ℕ) → k ≤ j → j < k + n → holds j p ≡ true

module _ (dots : Name → Bool) (literals : List Name) where
  abbrev count : Tree → ℕ
  count t = length (variables dots literals 0 t)

  -- two parts hold what both hold
  both_hold : (k m n : ℕ) (p q r : Pattern) → ((j : ℕ) → holds j r ≡ (holds j p || holds j q)) → HoldsFrom k m p → HoldsFrom (k + m) n q → HoldsFrom k (m + n) r
  both_hold k m n p q r e f g j c l =
      e j
      ∙ either (nat_le (k + m) j)
      (λ o. or_right (holds j p) (holds j q) (g j (leb-true (k + m) j o) (omega arith)))
      (λ o. or_left (holds j p) (holds j q) (f j c (leb-false (k + m) j o)))

  -- a pattern holds every variable that is counted
  pattern_of-holds : (k : ℕ) (taken : Bool) (t : Tree) → (taken ≡ true → dots_next dots t ≡ true) → Given (HoldsFrom k (count t)) (pattern_of dots literals k taken t)
  unfolding pattern_of variables holds dots_next on_pair
  pattern_of-holds k taken empty b = given (λ j a c. absurd (omega arith))
  pattern_of-holds k taken (constant x) b = given (λ j a c. absurd (omega arith))
  pattern_of-holds k taken (name x) b =
      given-guard (not (dots x))
      (either (is_variable dots literals x)
      (λ v. rw v (given (λ j a c. eq-eqb j k (omega arith))))
      (λ v. rw v (given (λ j a c. absurd (omega arith)))))
  pattern_of-holds k taken (pair h t) b =
      let first = pattern_of-holds k false h (λ e. absurd (false≢true e)) in
      let later = pattern_of-holds (k + count h) (not taken && dots_next dots t) t (λ e. and_right (not taken) (dots_next dots t) e) in
      let both = count-pair dots literals h t in
      given-tested taken
      (λ e. given-weaken (λ q g j c l. g j (omega (arith, dots-count dots literals h (b e))) (omega (arith, both))) later)
      (λ e.
      given-cond (dots_next dots t)
      (given-guard _ (given-map_both _ (λ x y f g j c l. both_hold k (count h) (count t) x y (ellipsis_p x (length (elements (tail t))) y) (λ i. refl) f g j c (omega (arith, both))) first later))
      (given-map_both pair_p (λ x y f g j c l. both_hold k (count h) (count t) x y (pair_p x y) (λ i. refl) f g j c (omega (arith, both))) first later))

-- ---- templates

constant-sound : (p : Pattern) (d : ℕ) (a : Constant) → is_constant a ≡ true → Sound p d (constant_t a)
unfolding is_constant
constant-sound p d a c = Sound.constant {a = a} (λ z. false≢true (rw z at c)) (λ z. false≢true (rw z at c)) (λ z. false≢true (rw z at c))

depth_fits-most : (d here : ℕ) → depth_fits d here ≡ true → d ≤ here
unfolding depth_fits
depth_fits-most d here e = leb-true d here e

-- a number below k + n, under at most two ellipses
record Known (k n : ℕ) (v : ℕ × ℕ) : Type 0 where
  few : v.0 < k + n
  shallow : v.1 ≤ depth_most

variable_from-known : (k : ℕ) (vs : List (Name × ℕ)) (x : Name) → all_of (λ v. leb v.1 depth_most) vs ≡ true → Given (Known k (length vs)) (variable_from k vs x)
unfolding variable_from all_of
variable_from-known k [] x s = missing
variable_from-known k (v ∷ vs) x s =
    given-cond (same v.0 x) (given (record { few = omega arith; shallow = leb-true v.1 depth_most (and_left (nat_le v.1 depth_most) _ s) }))
    (given-weaken (λ a f. record { few = omega (arith, f.few); shallow = f.shallow }) (variable_from-known (suc k) vs x (and_right (nat_le v.1 depth_most) _ s)))

module _ (vs : List (Name × ℕ)) (good : are_variables vs ≡ true) (p : Pattern) (held : HoldsFrom 0 (length vs) p) where
  few : length vs ≤ pattern_variables_most
  unfolding are_variables
  few = leb-true (length vs) pattern_variables_most (and_left (nat_le (length vs) pattern_variables_most) _ good)

  shallow : all_of (λ v. leb v.1 depth_most) vs ≡ true
  unfolding are_variables
  shallow = and_right (distinct (map (λ v. v.0) vs)) _ (and_right (nat_le (length vs) pattern_variables_most) _ good)

  name_template-sound : (here : ℕ) (x : Name) {o : Option (ℕ × ℕ)} → Given (Known 0 (length vs)) o → Given (Sound p here) (name_template here x o)
  unfolding name_template
  name_template-sound here x missing = given Sound.insert
  name_template-sound here x (given {a = v} f) =
      given-guarded (depth_fits v.1 here)
      (λ e. given (Sound.variable (omega (arith, f.few, few)) (held v.0 (omega arith) f.few) f.shallow (depth_fits-most v.1 here e)))

  -- an element and the rest of its list
  list-sound : (d : ℕ) (followed : Bool) {first later : Option Template} → Given (Sound p (cond followed (suc d) d)) first → Given (Sound p d) later → Given (Sound p d) (list_template followed first later)
  unfolding list_template
  list-sound d followed first later =
      given-tested followed
      (λ e. given-guard _ (given-map_both ellipsis_t (λ x y f g. Sound.ellipsis (rw e at f) g) first later))
      (λ e. given-map_both pair_t (λ x y f g. Sound.pairs (rw e at f) g) first later)

  template_of-sound : {N : Name → Type 0} (dots : Name → Bool) (d : ℕ) (place : Place) {t : Tree} → Tidy N IsConstant t → Given (Sound p d) (template_of dots vs d place t)
  unfolding template_of depth_before
  template_of-sound dots d place tidy_empty = given Sound.empty
  template_of-sound dots d place (tidy_constant {a} c) = given (constant-sound p d a c)
  template_of-sound dots d place (tidy_name {x} y) = given-guard (not (dots x)) (name_template-sound d x (variable_from-known 0 vs x shallow))
  template_of-sound dots d as_element (tidy_pair {h} {t} a b l) =
      given-cond (on_name dots false h)
      (given-guard _ (template_of-sound no_ellipsis d as_escaped b))
      (list-sound d (dots_next dots t) (template_of-sound dots (depth_before dots t d) as_element a) (template_of-sound dots d (place_after dots t) b))
  template_of-sound dots d as_rest (tidy_pair {h} {t} a b l) =
      list-sound d (dots_next dots t) (template_of-sound dots (depth_before dots t d) as_element a) (template_of-sound dots d (place_after dots t) b)
  template_of-sound dots d as_taken (tidy_pair a b l) = template_of-sound dots d as_rest b
  template_of-sound dots d as_escaped (tidy_pair a b l) = template_of-sound dots d as_element a

-- ---- rules

module _ {N : Name → Type 0} where
  rule_of-sound : (dots : Name → Bool) (literals : List Name) {r : Tree} → Tidy N IsConstant r → Given SoundRule (rule_of dots literals r)
  unfolding rule_of
  rule_of-sound dots literals {r} s =
      let vs : List (Name × ℕ) = rule_variables dots literals r in
      given-guarded _
      (λ e.
      let good : are_variables vs ≡ true = and_right (on_name (λ x. not (dots x)) false (element 0 (rule_pattern r))) _ (and_right (is_list_of 2 r) _ e) in
      given-then _ (λ p held. template_of-sound vs good p held dots 0 as_element (tidy-element template_place s)) (pattern_of-holds dots literals 0 false (matched_part r) (λ e. absurd (false≢true e))))

  pub rules_of-sound : {r : Tree} → Tidy N IsConstant r → Given (Each SoundRule) (rules_of r)
  unfolding rules_of
  rules_of-sound {r} s =
      given-guard (is_rules_form r) (given-traverse (each_weaken (λ t f. rule_of-sound (ellipsis_of r) (names (literal_list r)) f) (tidy-elements (tidy-rules s))))
