-- The shape of a rules form, in the parts that the code tests, and its laws.
use Rattle.std.specs.Prelude.{◌≡◌, Bool, ◌&&◌, List, ℕ, ◌≤◌, eqb, leb, length}
use Rattle.std.proofs.Math.Path.{refl, sym, ap}
use Rattle.std.proofs.Common.{◌∙◌}
use Rattle.std.proofs.Math.Bool.{true, false, not, and-true, and-false}
use native.Mathlib.Omega.{arith}
use borrow.Author.Tests.{ne_eqb, le-leb}
use Rattle.words.specs.Limits.{literals_most, rules_most}
use Rattle.words.specs.Lists.{within, all_of}
use Rattle.recipe.specs.Name.{Name, binding_key, same, is_ellipsis, is_wildcard, is_ordinary}
use Rattle.recipe.specs.Tree.{Tree, on_name, is_name, is_ordinary_name, is_list, elements, element, tail}
use Rattle.recipe.specs.TreeLaws.{element-tail}
use Rattle.expansion.specs.Lookup.{is_syntax_rules}
use Rattle.expansion.specs.Rules.{after_chosen, literal_list, rule_list, ellipsis_of, is_literal, is_rules_form}
use Rattle.arena.specs.Offsets.{KIND, HEAD, TAIL}
use Rattle.arena.specs.Arena.{word_at, reference_at, name_at, tree_at, number_of}
use Rattle.arena.specs.NodeLaws.{tree_at-name, tree_at-pair, name_at-number}
use Rattle.arena.specs.Lists.{Means, Counts, Tests}
use Rattle.arena.specs.ListLaws.{no_name, no-elements}
use Rattle.rule_cells.specs.Dots.{dots_at, DotsBelow}
use Rattle.rule_cells.specs.declared.dots.Dots.{Dots}
use Rattle.rule_cells.specs.declared.dots.Dots.TheVariants as told

-- every element of a list may be a literal
unfoldable pub literals_all : (dots : Name → Bool) → Tree → Bool
literals_all dots t = all_of (is_literal dots) (elements t)

-- the literals of a form
unfoldable pub literals_good : (dots : Name → Bool) → Tree → Bool
literals_good dots t = is_list t && (literals_all dots t && leb (length (elements t)) literals_most)

-- a second element that is a name is the ellipsis of the author's choice
unfoldable pub chosen_good : Tree → Bool
chosen_good = on_name is_ordinary true

-- a rules form past its head and the ellipsis of its author's choice: literals, and 1 to 16 rules
unfoldable pub rules_body : Tree → Bool
rules_body t = literals_good (ellipsis_of t) (literal_list t) && within 1 rules_most (length (elements (rule_list t)))

-- what the ellipsis of a form is
pub record Chosen (work : List ℕ) (node : ℕ) (dots : Dots) : Type 0 where
  pub is : (w : ℕ) → dots_at work dots w ≡ ellipsis_of (tree_at work node w)
  pub low : DotsBelow dots node

-- ---- literals

module _ (work : List ℕ) (dots : Dots) (w node : ℕ) where
  abbrev ds : Name → Bool
  ds = dots_at work dots w

  pub listed-no : (word_at work node KIND ≡ 3 → ⊥) → false ≡ is_literal ds (tree_at work node w)
  unfolding is_literal
  listed-no n = sym (no_name work node w (λ x. not (ds x) && not (is_wildcard x)) false n)

  module _ (e : word_at work node KIND ≡ 3) where
    pub listed-dots : true ≡ ds (name_at work node w) → false ≡ is_literal ds (tree_at work node w)
    unfolding is_literal on_name
    listed-dots d = rw (tree_at-name work node w e, ← d) refl

    pub listed_by : (n : ℕ) → false ≡ ds (name_at work node w) → n ≡ number_of work node → not (eqb n 7) ≡ is_literal ds (tree_at work node w)
    unfolding is_literal on_name is_wildcard
    listed_by n d f = rw (tree_at-name work node w e, ← d, name_at-number work node w, ← f) refl

  pub all_end : (word_at work node KIND ≡ 4 → ⊥) → true ≡ literals_all ds (tree_at work node w)
  unfolding literals_all all_of
  all_end n = rw (no-elements work node w n) refl

  module _ (first : ℕ) (e : word_at work node KIND ≡ 4) (f : first ≡ reference_at work node HEAD) where
    pub all-no : false ≡ is_literal ds (tree_at work first w) → false ≡ literals_all ds (tree_at work node w)
    unfolding literals_all all_of elements
    all-no h = rw (tree_at-pair work node w e, ← f, ← h) refl

    pub all_more : (rest : ℕ) (r : Bool) → rest ≡ reference_at work node TAIL → true ≡ is_literal ds (tree_at work first w) → r ≡ literals_all ds (tree_at work rest w) → r ≡ literals_all ds (tree_at work node w)
    unfolding literals_all all_of elements
    all_more rest r g h k = rw (tree_at-pair work node w e, ← f, ← g, ← h) k

  pub literals-no : false ≡ is_list (tree_at work node w) → false ≡ literals_good ds (tree_at work node w)
  unfolding literals_good
  literals-no h = rw (← h) refl

  module _ (l : true ≡ is_list (tree_at work node w)) where
    pub literals-other : false ≡ literals_all ds (tree_at work node w) → false ≡ literals_good ds (tree_at work node w)
    unfolding literals_good
    literals-other h = rw (← l, ← h) refl

    pub literals-most : (n : ℕ) → true ≡ literals_all ds (tree_at work node w) → Counts work node n → leb n 8 ≡ literals_good ds (tree_at work node w)
    unfolding literals_good
    literals-most n h c = rw (← l, ← h, ← c.is w) refl

-- ---- the ellipsis of the author's choice

module _ (work : List ℕ) (node : ℕ) where
  pub chosen-other : (word_at work node KIND ≡ 3 → ⊥) → Tests chosen_good work node true
  unfolding chosen_good
  chosen-other n w = sym (no_name work node w is_ordinary true n)

  pub chosen-name : (b : Bool) → word_at work node KIND ≡ 3 → Tests is_ordinary_name work node b → Tests chosen_good work node b
  unfolding chosen_good is_ordinary_name on_name
  chosen-name b e h w = h w ∙ rw (tree_at-name work node w e) refl

module _ (work : List ℕ) (node second : ℕ) (s : Means work node second (element 1)) where
  pub ellipsis-chosen : word_at work second KIND ≡ 3 → Chosen work node (told.Chosen second)
  unfolding ellipsis_of on_name dots_at
  ellipsis-chosen e = record { is = λ w. rw (← s.is w, tree_at-name work second w e) refl; low = s.low }

  pub ellipsis-default : (word_at work second KIND ≡ 3 → ⊥) → Chosen work node told.Default
  unfolding ellipsis_of dots_at
  ellipsis-default n = record { is = λ w. rw (← s.is w, no_name work second w same is_ellipsis n) refl; low = tt }

module _ (work : List ℕ) (node rest second : ℕ) (a : Means work node rest tail) (s : Means work rest second (element 0)) where
  second_is : (w : ℕ) → element 1 (tree_at work node w) ≡ tree_at work second w
  second_is w = sym (s.is w ∙ ap (element 0) (a.is w) ∙ element-tail 0 (tree_at work node w))

  pub after-chosen : (after : ℕ) → word_at work second KIND ≡ 3 → Means work rest after tail → Means work node after after_chosen
  unfolding after_chosen is_name on_name
  after-chosen after e m = record { is = λ w. m.is w ∙ ap tail (a.is w) ∙ sym (rw (second_is w, tree_at-name work second w e) refl); low = omega (arith, a.low, m.low) }

  pub after-plain : (word_at work second KIND ≡ 3 → ⊥) → Means work node rest after_chosen
  unfolding after_chosen is_name
  after-plain n = record { is = λ w. a.is w ∙ sym (rw (second_is w, no_name work second w (λ x. true) false n) refl); low = a.low }

-- ---- the head

module _ (work : List ℕ) (node w : ℕ) where
  pub head-no : (word_at work node KIND ≡ 3 → ⊥) → false ≡ on_name is_syntax_rules false (tree_at work node w)
  head-no n = sym (no_name work node w is_syntax_rules false n)

  module _ (n : ℕ) (e : word_at work node KIND ≡ 3) (f : n ≡ number_of work node) where
    head-is : on_name is_syntax_rules false (tree_at work node w) ≡ (eqb (binding_key (name_at work node w).binding) 0 && eqb n 5)
    unfolding on_name is_syntax_rules
    head-is = rw (tree_at-name work node w e, name_at-number work node w, ← f) refl

    pub head-other : (n ≡ 5 → ⊥) → false ≡ on_name is_syntax_rules false (tree_at work node w)
    head-other d = sym (head-is ∙ rw (ne_eqb n 5 d) (and-false (eqb (binding_key (name_at work node w).binding) 0)))

    pub head-yes : (k : ℕ) → n ≡ 5 → k ≡ binding_key (name_at work node w).binding → eqb k 0 ≡ on_name is_syntax_rules false (tree_at work node w)
    head-yes k d b = rw b (sym (head-is ∙ rw d (and-true (eqb (binding_key (name_at work node w).binding) 0))))

-- ---- the form

and-regroup : (b c d e : Bool) → (b && (c && (d && e))) ≡ ((b && (c && d)) && e)
and-regroup false c d e = refl
and-regroup true false d e = refl
and-regroup true true d e = refl

form-is : (t : Tree) → is_rules_form t ≡ (on_name is_syntax_rules false (element 0 t) && (chosen_good (element 1 t) && rules_body t))
unfolding is_rules_form rules_body literals_good literals_all chosen_good
form-is t =
    ap (λ (z : Bool). on_name is_syntax_rules false (element 0 t) && (on_name is_ordinary true (element 1 t) && z))
    (and-regroup (is_list (literal_list t)) (all_of (is_literal (ellipsis_of t)) (elements (literal_list t))) (leb (length (elements (literal_list t))) literals_most) (within 1 rules_most (length (elements (rule_list t)))))

within_none : within 1 rules_most 0 ≡ false
unfolding within
within_none = refl

within-some : (n : ℕ) → (n ≡ 0 → ⊥) → within 1 rules_most n ≡ leb n 16
unfolding within
within-some n h = rw (le-leb 1 n (let l : 1 ≤ n = omega arith in l)) refl

module _ (work : List ℕ) (node w first : ℕ) (p : Means work node first (element 0)) where
  pub form-no : false ≡ on_name is_syntax_rules false (tree_at work first w) → false ≡ is_rules_form (tree_at work node w)
  form-no h = sym (form-is (tree_at work node w) ∙ rw (← p.is w, ← h) refl)

  module _ (h : true ≡ on_name is_syntax_rules false (tree_at work first w)) (second : ℕ) (s : Means work node second (element 1)) where
    pub form-unchosen : Tests chosen_good work second false → false ≡ is_rules_form (tree_at work node w)
    form-unchosen g = sym (form-is (tree_at work node w) ∙ rw (← p.is w, ← h, ← s.is w, ← g w) refl)

    pub form-body : (b : Bool) → Tests chosen_good work second true → b ≡ rules_body (tree_at work node w) → b ≡ is_rules_form (tree_at work node w)
    form-body b g k = k ∙ sym (form-is (tree_at work node w) ∙ rw (← p.is w, ← h, ← s.is w, ← g w) refl)

module _ (work : List ℕ) (node w : ℕ) (dots : Dots) (after literals : ℕ) (c : Chosen work node dots) (a : Means work node after after_chosen) (l : Means work after literals (element 0)) where
  body_is : rules_body (tree_at work node w) ≡ (literals_good (dots_at work dots w) (tree_at work literals w) && within 1 rules_most (length (elements (rule_list (tree_at work node w)))))
  unfolding rules_body
  body_is = let e : literal_list (tree_at work node w) ≡ tree_at work literals w = sym (l.is w ∙ ap (element 0) (a.is w)) in rw (← c.is w, e) refl

  pub body-literals : false ≡ literals_good (dots_at work dots w) (tree_at work literals w) → false ≡ rules_body (tree_at work node w)
  body-literals g = sym (body_is ∙ rw (← g) refl)

  module _ (g : true ≡ literals_good (dots_at work dots w) (tree_at work literals w)) (list n : ℕ) (b : Means work after list tail) (k : Counts work list n) where
    body-count : rules_body (tree_at work node w) ≡ within 1 rules_most n
    body-count =
        let e : rule_list (tree_at work node w) ≡ tree_at work list w = sym (b.is w ∙ ap tail (a.is w)) in
        body_is ∙ rw (← g, e, ← k.is w) refl

    pub body-none : n ≡ 0 → false ≡ rules_body (tree_at work node w)
    body-none z = sym (body-count ∙ rw z within_none)

    pub body-some : (n ≡ 0 → ⊥) → leb n 16 ≡ rules_body (tree_at work node w)
    body-some z = sym (body-count ∙ within-some n z)
