-- Laws of a rule's shape and of lists of rules.
use Rattle.std.specs.Prelude.{Some, None, ◌≡◌, Bool, true, ◌&&◌, List, ◌∷◌, ℕ, suc, ◌+◌, ◌*◌, ◌≤◌, eqb, length}
use Rattle.std.proofs.Math.Path.{refl, ap, ap₂}
use Rattle.std.proofs.Common.{sym, subst, ◌∙◌, arith, eqb-true}
use Rattle.std.proofs.Math.Bool.{false, not}
use Rattle.std.proofs.Math.Option.{Option, none, some}
use Rattle.words.specs.Options.{only_if, map_some, map_both, traverse}
use Rattle.words.specs.TestLaws.{and_left, and_right}
use Rattle.recipe.specs.Name.{Name}
use Rattle.recipe.specs.Tree.{Tree, empty, constant, name, pair, size, names, on_name, on_pair, is_name, is_list, is_list_of, elements, element, tail}
use Rattle.recipe.specs.TreeLaws.{element-tail}
use Rattle.expansion.specs.Rules.{after_chosen, literal_list, ellipsis_of, rule_pattern, matched_part, rule_template, rule_list, Rule, rule_of, is_rules_form, rules_of}
use Rattle.arena.specs.Offsets.{KIND}
use Rattle.arena.specs.Arena.{word_at, name_at, tree_at}
use Rattle.words.specs.ListLaws.{either}
use Rattle.arena.specs.ArenaLaws.{take_less}
use Rattle.arena.specs.NodeLaws.{tree_at-name}
use Rattle.arena.specs.CellLaws.{tree-kept}
use Rattle.arena.specs.Lists.{Means}
use Rattle.arena.specs.ListLaws.{no_name, no-elements}
use Rattle.rule_cells.specs.CellLaws.{rules_at-none}
use Rattle.rule_cells.specs.Scopes.{dots_of, literals_of}
use Rattle.rule_cells.specs.Dots.{dots_at, DotsBelow, dots-higher, dots-kept}
use Rattle.rule_cells.specs.Forms.{Chosen}
use Rattle.rule_cells.specs.declared.rules_form.Form.{Form}
use Rattle.rule_cells.specs.declared.rules.Parsed.{Parsed}
use Rattle.std.specs.declared.option.Option as code
use Rattle.rule_cells.specs.Parse.{Asks}
use Rattle.rule_cells.specs.ParseLaws.{tree_is, size_is, head-below}
use Rattle.rule_cells.specs.PatternLaws.{PairHere}
use Rattle.rule_cells.specs.RuleParse.{rule_shape, parts_of, PartsAsk, RuleLeft, RulesMade, RulesLeft}
use Rattle.rule_cells.specs.declared.dots.Dots.{Dots}

-- ---- a rule's shape

module _ (work : List ℕ) (dots : Dots) (node w : ℕ) where
  pub shape-no : false ≡ is_list_of 2 (tree_at work node w) → false ≡ rule_shape (dots_at work dots w) (tree_at work node w)
  unfolding rule_shape
  shape-no e = rw (← e) refl

  module _ (pattern first : ℕ) (l : true ≡ is_list_of 2 (tree_at work node w)) (p : Means work node pattern (element 0)) (q : Means work pattern first (element 0)) where
    first-is : element 0 (rule_pattern (tree_at work node w)) ≡ tree_at work first w
    first-is = sym (q.is w ∙ ap (element 0) (p.is w))

    pub shape-other : (word_at work first KIND ≡ 3 → ⊥) → false ≡ rule_shape (dots_at work dots w) (tree_at work node w)
    unfolding rule_shape
    shape-other n = rw (← l, first-is, no_name work first w (λ x. not (dots_at work dots w x)) false n) refl

    pub shape-by : (b : Bool) → word_at work first KIND ≡ 3 → b ≡ dots_at work dots w (name_at work first w) → not b ≡ rule_shape (dots_at work dots w) (tree_at work node w)
    unfolding rule_shape on_name
    shape-by b e f = rw (← l, first-is, tree_at-name work first w e, ← f) refl

-- ---- a rule

module _ (dots : Name → Bool) where
  rule-none : (literals : List Name) (t : Tree) → false ≡ rule_shape dots t → rule_of dots literals t ≡ none
  unfolding rule_of only_if rule_shape
  rule-none literals t e =
      either (is_list_of 2 t)
      (λ a. let b : false ≡ on_name (λ x. not (dots x)) false (element 0 (rule_pattern t)) = rw a at e in rw (a, ← b) refl)
      (λ a. rw a refl)

  rule-is : (literals : List Name) (t : Tree) → true ≡ rule_shape dots t → parts_of dots literals (matched_part t) (rule_template t) ≡ rule_of dots literals t
  unfolding rule_of parts_of only_if rule_shape
  rule-is literals t e =
      let first = on_name (λ x. not (dots x)) false (element 0 (rule_pattern t)) in
      rw (and_left (is_list_of 2 t) first (sym e), and_right (is_list_of 2 t) first (sym e)) refl

tail-size : (t : Tree) → size (tail t) ≤ size t
unfolding size tail on_pair
tail-size empty = omega arith
tail-size (constant a) = omega arith
tail-size (name x) = omega arith
tail-size (pair h t) = omega arith

pair_size : (h q e : Tree) → size (tail h) + size q + 1 ≤ size (pair h (pair q e))
unfolding size
pair_size h q e = omega (arith, tail-size h)

list-size : (t : Tree) → length (elements t) ≡ 2 → size (matched_part t) + size (rule_template t) + 1 ≤ size t
unfolding elements element
list-size empty e = absurd (omega arith)
list-size (constant a) e = absurd (omega arith)
list-size (name x) e = absurd (omega arith)
list-size (pair h empty) e = absurd (omega arith)
list-size (pair h (constant a)) e = absurd (omega arith)
list-size (pair h (name x)) e = absurd (omega arith)
list-size (pair h (pair q s)) e = pair_size h q s

shape_size : (dots : Name → Bool) (t : Tree) → true ≡ rule_shape dots t → size (matched_part t) + size (rule_template t) + 1 ≤ size t
unfolding rule_shape is_list_of
shape_size dots t e =
    let first = on_name (λ x. not (dots x)) false (element 0 (rule_pattern t)) in
    let l : (is_list t && eqb (length (elements t)) 2) ≡ true = and_left (is_list_of 2 t) first (sym e) in
    list-size t (eqb-true (length (elements t)) 2 (and_right (is_list t) (eqb (length (elements t)) 2) l))

rule-as : (o o' : Option Rule) (s s' : ℕ) (old new : List ℕ) (next top : ℕ) (r : code.Option Parsed) → o ≡ o' → s ≤ s' → RuleLeft o s old new next top r → RuleLeft o' s' old new next top r
rule-as o o' s s' old new next top (Some p) e l m =
    record { rule = m.rule; is = sym e ∙ m.is; means = m.means; at_most = m.at_most; up = m.up; words = omega (arith, m.words); kept = m.kept }
rule-as o o' s s' old new next top None e l m = (sym e ∙ m.0, m.1)

module _ (old : List ℕ) (form : Form) (node next top : ℕ) (asks : Asks old node form.wrap top) (dots-below : DotsBelow form.dots top) (literals-below : form.literals ≤ top) (next-below : next ≤ top) where
  abbrev ds : Name → Bool
  ds = dots_at old form.dots form.wrap

  abbrev listed : List Name
  listed = names (tree_at old form.literals form.wrap)

  abbrev t : Tree
  t = tree_at old node form.wrap

  pub left-shape : false ≡ rule_shape ds t → RuleLeft (rule_of ds listed t) (size t) old old next top None
  left-shape e = (rule-none ds listed t e, refl)

  module _ (pattern p after q : ℕ) (shape : true ≡ rule_shape ds t) (a : Means old node pattern (element 0)) (b : Means old pattern p tail) (c : Means old node after tail) (d : Means old after q (element 0)) where
    p-is : tree_at old p form.wrap ≡ matched_part t
    p-is = b.is form.wrap ∙ ap tail (a.is form.wrap)

    q-is : tree_at old q form.wrap ≡ rule_template t
    q-is = d.is form.wrap ∙ ap (element 0) (c.is form.wrap) ∙ element-tail 0 t

    fits : size (tree_at old p form.wrap) + size (tree_at old q form.wrap) + 1 ≤ size t
    fits = rw (p-is, q-is) (shape_size ds t shape)

    pub parts-ask : PartsAsk old form p q next top
    parts-ask =
        record {
          dots-below = dots-below;
          literals-below = literals-below;
          p-below = omega (arith, a.low, b.low, asks.node-below);
          q-below = omega (arith, c.low, d.low, asks.node-below);
          wrap-below = asks.wrap-below;
          next-below = next-below;
          room = record { fits = omega (arith, asks.room.fits, fits); small = omega (arith, asks.room.small, fits) };
        }

    pub left-parts : (new : List ℕ) (r : code.Option Parsed) → RuleLeft (parts_of ds listed (tree_at old p form.wrap) (tree_at old q form.wrap)) (size (tree_at old p form.wrap) + size (tree_at old q form.wrap) + 1) old new next top r → RuleLeft (rule_of ds listed t) (size t) old new next top r
    left-parts new r m = rule-as _ _ _ _ old new next top r (rw (p-is, q-is) (rule-is ds listed t shape)) fits m

-- ---- lists of rules

traverse-bad : (f : Tree → Option Rule) (x : Option Rule) (ys : Option (List Rule)) → ys ≡ none → map_both ◌∷◌ x ys ≡ none
unfolding map_both map_some
traverse-bad f none ys e = refl
traverse-bad f (some x) ys e = rw e refl

abbrev answer : List ℕ → Form → Tree → Option (List Rule)
answer old form t = traverse (rule_of (dots_of old form) (literals_of old form)) (elements t)

pub left_end : (old : List ℕ) (form : Form) (node top : ℕ) → (word_at old node KIND ≡ 4 → ⊥) → RulesLeft (answer old form (tree_at old node form.wrap)) (size (tree_at old node form.wrap)) old old top (Some (record { at = 0; top = top }))
unfolding traverse
left_end old form node top n =
    record {
      means = ap (traverse (rule_of (dots_of old form) (literals_of old form))) (no-elements old node form.wrap n) ∙ ap some (sym (rules_at-none old 0 refl));
      at_most = omega arith;
      up = omega arith;
      words = omega arith;
      kept = refl;
    }

module _ {old : List ℕ} {form : Form} {node top head rest : ℕ} (here : PairHere old form node top head rest) where
  abbrev h : Tree
  h = tree_at old head form.wrap

  abbrev s : Tree
  s = tree_at old rest form.wrap

  answer-is : answer old form (tree_at old node form.wrap) ≡ map_both ◌∷◌ (rule_of (dots_of old form) (literals_of old form) h) (answer old form s)
  unfolding traverse elements
  answer-is = ap (answer old form) (tree_is old node form.wrap top here.asks head rest here.is-pair here.head-is here.rest-is)

  pub left-later : (mid : List ℕ) (r : code.Option Parsed) → r ≡ None → RulesLeft (answer old form s) (size s) old mid top r → RulesLeft (answer old form (tree_at old node form.wrap)) (size (tree_at old node form.wrap)) old mid top None
  left-later mid r b p =
      let q : RulesLeft (answer old form s) (size s) old mid top None = subst (λ (z : code.Option Parsed). RulesLeft (answer old form s) (size s) old mid top z) b p in
      (answer-is ∙ traverse-bad (rule_of (dots_of old form) (literals_of old form)) (rule_of (dots_of old form) (literals_of old form) h) (answer old form s) q.0, q.1)

  pub made-later : (mid : List ℕ) (r : code.Option Parsed) (p : Parsed) → r ≡ Some p → RulesLeft (answer old form s) (size s) old mid top r → RulesMade (answer old form s) (size s) old mid top p.at p.top
  made-later mid r p b m = subst (λ (z : code.Option Parsed). RulesLeft (answer old form s) (size s) old mid top z) b m

  -- after the later rules
  module _ {mid : List ℕ} {next upper : ℕ} (same_length : length mid ≡ length old) (made : RulesMade (answer old form s) (size s) old mid top next upper) where
    head-is : tree_at mid head form.wrap ≡ h
    head-is = tree-kept old mid top head form.wrap (omega (arith, head-below old node form.wrap top here.asks head rest here.is-pair here.head-is here.rest-is, here.asks.node-below)) here.asks.wrap-below made.kept

    listed-is : names (tree_at mid form.literals form.wrap) ≡ literals_of old form
    listed-is = ap names (tree-kept old mid top form.literals form.wrap here.literals-below here.asks.wrap-below made.kept)

    whole-size : size (tree_at old node form.wrap) ≡ suc (size h + size s)
    whole-size = size_is old node form.wrap top here.asks head rest here.is-pair here.head-is here.rest-is

    pub asks-first : Asks mid head form.wrap upper
    asks-first =
        record {
          node-below = omega (arith, head-below old node form.wrap top here.asks head rest here.is-pair here.head-is here.rest-is, here.asks.node-below, made.up);
          wrap-below = omega (arith, here.asks.wrap-below, made.up);
          room = record {
            fits = rw head-is (omega (arith, here.asks.room.fits, whole-size, made.words));
            small = rw head-is (omega (arith, here.asks.room.small, whole-size, made.words));
          };
        }

    told_is : dots_at mid form.dots form.wrap ≡ dots_of old form
    told_is = dots-kept old mid top made.kept form.dots form.wrap here.dots-below here.asks.wrap-below

    pub dots-still : DotsBelow form.dots upper
    dots-still = dots-higher form.dots top upper made.up here.dots-below

    pub literals-still : form.literals ≤ upper
    literals-still = omega (arith, here.literals-below, made.up)

    abbrev one : Option Rule
    one = rule_of (dots_at mid form.dots form.wrap) (names (tree_at mid form.literals form.wrap)) (tree_at mid head form.wrap)

    one-is : one ≡ rule_of (dots_of old form) (literals_of old form) h
    one-is = rw (told_is, listed-is, head-is) refl

    pub left_both : (new : List ℕ) (r : code.Option Parsed) → RuleLeft one (size (tree_at mid head form.wrap)) mid new next upper r → RulesLeft (answer old form (tree_at old node form.wrap)) (size (tree_at old node form.wrap)) old new top r
    unfolding map_both map_some
    left_both new (Some p) m =
        let words : p.top ≤ upper + 5 * size h = rw head-is at m.words in
        record {
          means = answer-is ∙ ap₂ (map_both ◌∷◌) (sym one-is ∙ m.is) made.means ∙ ap some (sym m.means);
          at_most = m.at_most;
          up = omega (arith, m.up, made.up);
          words = omega (arith, made.words, whole-size);
          kept = take_less new mid top upper made.up m.kept ∙ made.kept;
        }
    left_both new None m =
        (answer-is ∙ ap₂ (map_both ◌∷◌) (sym one-is ∙ m.0) made.means, take_less new mid top upper made.up m.1 ∙ made.kept)

-- ---- the rules of a form

rules-none : (t : Tree) → false ≡ is_rules_form t → rules_of t ≡ none
unfolding rules_of only_if
rules-none t e = rw (← e) refl

rules-are : (t : Tree) → true ≡ is_rules_form t → traverse (rule_of (ellipsis_of t) (names (literal_list t))) (elements (rule_list t)) ≡ rules_of t
unfolding rules_of only_if
rules-are t e = rw (← e) refl

rules-as : (o o' : Option (List Rule)) (s s' : ℕ) (old new : List ℕ) (top : ℕ) (r : code.Option Parsed) → o ≡ o' → s ≤ s' → RulesLeft o s old new top r → RulesLeft o' s' old new top r
rules-as o o' s s' old new top (Some p) e l m = record { means = sym e ∙ m.means; at_most = m.at_most; up = m.up; words = omega (arith, m.words); kept = m.kept }
rules-as o o' s s' old new top None e l m = (sym e ∙ m.0, m.1)

module _ (old : List ℕ) (node w top : ℕ) (asks : Asks old node w top) where
  pub left-no-form : false ≡ is_rules_form (tree_at old node w) → RulesLeft (rules_of (tree_at old node w)) (size (tree_at old node w)) old old top None
  left-no-form e = (rules-none (tree_at old node w) e, refl)

  module _ {dots : Dots} {after literals list : ℕ} (c : Chosen old node dots) (a : Means old node after after_chosen) (b : Means old after literals (element 0)) (d : Means old after list tail) where
    literals-are : tree_at old literals w ≡ literal_list (tree_at old node w)
    literals-are = b.is w ∙ ap (element 0) (a.is w)

    list-is : tree_at old list w ≡ rule_list (tree_at old node w)
    list-is = d.is w ∙ ap tail (a.is w)

    smaller : size (tree_at old list w) ≤ size (tree_at old node w)
    unfolding after_chosen
    smaller =
        let t : Tree = tree_at old node w in
        rw list-is
        (either (is_name (element 1 t))
        (λ e. rw e (omega (arith, tail-size t, tail-size (tail t), tail-size (tail (tail t)))))
        (λ e. rw e (omega (arith, tail-size t, tail-size (tail t)))))

    pub asks-list : Asks old list w top
    asks-list =
        record {
          node-below = omega (arith, a.low, d.low, asks.node-below);
          wrap-below = asks.wrap-below;
          room = record { fits = omega (arith, asks.room.fits, smaller); small = omega (arith, asks.room.small, smaller) };
        }

    pub dots-under : DotsBelow dots top
    dots-under = dots-higher dots node top asks.node-below c.low

    pub literals-under : literals ≤ top
    literals-under = omega (arith, a.low, b.low, asks.node-below)

    pub left-form : (new : List ℕ) (r : code.Option Parsed) → true ≡ is_rules_form (tree_at old node w)
        → RulesLeft (traverse (rule_of (dots_at old dots w) (names (tree_at old literals w))) (elements (tree_at old list w))) (size (tree_at old list w)) old new top r → RulesLeft (rules_of (tree_at old node w)) (size (tree_at old node w)) old new top r
    left-form new r e m = rules-as _ _ _ _ old new top r (rw (c.is w, literals-are, list-is) (rules-are (tree_at old node w) e)) smaller m
