-- The renaming that the statement takes, by a choice in a table of the layout, and its rule: what `renamed-hole` asks of it holds.
-- And the first element, the operations, stays as it is.
use Rattle.std.specs.Prelude.{◌≡◌, true, false, not, List, ℕ, ◌≤◌, ltb}
use Rattle.std.proofs.Math.Path.{ap, ap₂, sym}
use Rattle.std.proofs.Common.{◌∙◌, arith}
use Rattle.std.proofs.Math.Bool.{◌||◌}
use Rattle.std.proofs.Math.Option.{some}
use borrow.Author.Tests.{ltb-false, not-true, ne_eqb}
use Rattle.std.proofs.Math.Dec.{eqb}
use Rattle.words.specs.Limits.{names_most, base_name_count}
use Rattle.words.specs.Lists.{any_of}
use Rattle.words.specs.TestLaws.{and_parts}
use Rattle.recipe.specs.Tree.{Tree, names, element, on_names}
use Rattle.recipe.specs.TreeLaws.{on_names-element}
use Rattle.recipe.specs.TreeNames.{TreeAll, tree_all-element, tree_all-tail, uses-elements}
use Rattle.recipe.specs.Table.{is_layout, tree_of}
use Rattle.recipe.specs.TableNames.{number_at}
use Rattle.recipe.proofs.TableNamesLaws.{tree_of-plain, tree_of-numbered, tree_of-uses}
use Rattle.expansion.specs.Rules.{literal_list, rule_list, ellipsis_of, rule_template, has_variable}
use Rattle.expansion.specs.Computation.{Events}
use Rattle.expansion.specs.Forms.{rules_form_of}
use Rattle.expansion.proofs.FormLaws.{rule-placed}
use Rattle.private_names.specs.Statement as S
use Rattle.private_names.specs.Statement.{Choice, form_at, rules_at, rule_at, template_at, is_variable_at, is_old_item, is_new, is_owned_by_copy}
use Rattle.simulation.specs.Names.Shown.{Renaming}
use Rattle.simulation.proofs.Form.PlacesLaws.{still-eq}
use Rattle.private_names_proof.proofs.Renumber.{tree-new}
use Rattle.private_names_proof.specs.Paths.{sub}
use Rattle.private_names_proof.proofs.PathsLaws.{tree_all-sub, Headed, headed-of-element, headed-first}
use Rattle.private_names_proof.specs.Renamed.OldItems.{is_old}
use Rattle.private_names_proof.proofs.Renamed.OldItemsLaws.{old-some, number-none, variables-none}
use Rattle.private_names_proof.specs.Renamed.{unbound, Held, template_in, Chosen}
use Rattle.private_names_proof.proofs.RenamedLaws.{renew, still-tree, held-element, tree_all-rules, tree_all-template, renamed-holds}

-- ---- the form's rules in the table's tree

module _ (ws : List ℕ) (c : Choice) (layout : is_layout ws ≡ true) where
  pub held : Held (number_at ws) (tree_of ws)
  held = record { plain = tree_of-plain ws; numbered = tree_of-numbered ws; once = λ q. tree_of-uses q ws layout }

  -- where the form lies at l of the expression
  module _ (l : List ℕ) (i : Headed c.form l (element 1 (tree_of ws))) where
    rules-at : rules_at (tree_of ws) c ≡ rules_form_of c.macro (sub l (element 1 (tree_of ws)))
    unfolding rules_at form_at sub
    rules-at = ap (rules_form_of c.macro) (headed-first c.form (headed-of-element c.form 1 (tree_of ws) i) (held.once c.form))

    template-at : template_at (tree_of ws) c ≡ template_in c.rule (rules_form_of c.macro (sub l (element 1 (tree_of ws))))
    unfolding template_at rule_at template_in
    template-at = ap (λ r. rule_template (element c.rule (rule_list r))) rules-at ∙ ap rule_template (rule-placed c.rule _)

    -- the items of the old name are those of that template
    pub items_at : (q : ℕ) → is_old_item (tree_of ws) c q ≡ any_of (is_old c.old q) (names (template_in c.rule (rules_form_of c.macro (sub l (element 1 (tree_of ws))))))
    unfolding is_old_item is_old
    items_at q = ap (λ t. any_of (is_old c.old q) (names t)) template-at

-- ---- the renaming

module _ (ws : List ℕ) (c : Choice) (layout : is_layout ws ≡ true) (private : S.is_private (tree_of ws) c ≡ true) (new : is_new ws c.new ≡ true) (shown : Events) where
  abbrev T : Tree
  T = tree_of ws

  pub old-free : (eqb c.old 6 ≡ false) × ((eqb c.old 7 ≡ false) × (is_variable_at T c c.old ≡ false))
  unfolding S.is_private
  old-free =
      let a = and_parts (any_of (λ x. eqb x.number c.old) (names (template_at T c))) _ private in
      let b = and_parts (not (eqb c.old 6)) _ a.1 in
      let d = and_parts (not (eqb c.old 7)) (not (is_variable_at T c c.old)) b.1 in
      (not-true _ b.0, (not-true _ d.0, not-true _ d.1))

  some-private : (i : ℕ) × (is_old_item T c i ≡ true)
  unfolding S.is_private is_old_item is_old
  some-private = old-some c.old (names (template_at T c)) (and_parts (any_of (λ x. eqb x.number c.old) (names (template_at T c))) _ private).0

  pub new-large : (base_name_count ≤ c.new) × (ltb c.new names_most ≡ true)
  unfolding is_new
  new-large =
      let a = and_parts (not (ltb c.new base_name_count)) _ new in
      let b = and_parts (ltb c.new names_most) _ a.1 in
      (ltb-false c.new base_name_count (not-true (ltb c.new base_name_count) a.0), b.0)

  abbrev pub renaming : Renaming
  renaming = record {
    is_private = is_old_item T c;
    is_owned = λ b. is_owned_by_copy (is_old_item T c) shown (some b);
    old = c.old;
    new = c.new;
    old-6 = old-free.0;
    old-7 = old-free.1.0;
    new-6 = ne_eqb c.new 6 (λ e. omega (arith, new-large.0));
    new-7 = ne_eqb c.new 7 (λ e. omega (arith, new-large.0));
  }

  -- where the form lies at l of the expression
  module _ (l : List ℕ) (i : Headed c.form l (element 1 T)) where
    abbrev R : Tree
    R = rules_form_of c.macro (sub l (element 1 T))

    new-rules : TreeAll (λ x. eqb x.number c.new ≡ false) R
    new-rules = tree_all-element 1 (tree_all-element c.macro (tree_all-element 1 (tree_all-sub l (tree_all-element 1 (tree-new ws c.new new)))))

    old-at : has_variable c.rule c.old R ≡ false
    unfolding has_variable is_variable_at rule_at
    old-at = sym (ap (has_variable c.rule c.old) (rules-at ws c layout l i)) ∙ old-free.1.1

    new-at : has_variable c.rule c.new R ≡ false
    unfolding has_variable
    new-at =
        ap₂ ◌||◌ (number-none c.new (tree_all-element 1 new-rules))
        (variables-none (ellipsis_of R) (names (literal_list R)) c.new 0 (tree_all-tail (tree_all-element 0 (tree_all-element c.rule (tree_all-rules new-rules)))))

    new-template : TreeAll (λ x. eqb x.number c.new ≡ false) (template_in c.rule R)
    new-template = tree_all-template c.rule new-rules

    pub chosen : Chosen renaming c.rule R
    chosen = record { private = items_at ws c layout l i; some = some-private; fresh = new-template; old-free = old-at; new-free = new-at }

    -- the first element has no private item
    pub operations-same : element 0 (on_names (renew renaming) T) ≡ element 0 T
    operations-same =
        on_names-element (renew renaming) 0 T
        ∙ sym (still-eq renaming unbound (still-tree renaming (tree_all-element 0 (held ws c layout).plain)
        (λ q e. omega (arith, (held ws c layout).once q, renamed-holds renaming (number_at ws) l c.macro c.rule (element 1 T) (held-element (number_at ws) 1 T (held ws c layout)) chosen q e, uses-elements q 0 1 T (omega arith)))))
