-- The recipe's expression and the renumbered one differ in one place, the chosen template: `renamed-hole`.
use Rattle.std.proofs.Math.Path.{◌≡◌, refl, ap, sym, subst}
use Rattle.std.proofs.Common.{◌∙◌, arith}
use Rattle.std.specs.Prelude.{Bool, eqb}
use Rattle.std.proofs.Math.Bool.{true, false, cond}
use Rattle.std.proofs.lemmas.Bool.{false≢true}
use mathlib.Core.List.{List, [], ◌∷◌, ◌++◌}
use Prim.Native.Nat.{ℕ, zero, suc, ◌≤◌}
use borrow.Author.Tests.{eq-eqb}
use Rattle.words.specs.Lists.{any_of}
use Rattle.words.specs.ListLaws.{either}
use Rattle.recipe.specs.Name.{Name, plain_name}
use Rattle.recipe.specs.Tree.{Tree, names, is_name, elements, element, on_names}
use Rattle.recipe.specs.TreeNames.{TreeAll, all-empty, all-constant, all-name, all-pair, tree_all-map, tree_all-both, tree_all-element, tree_all-tail, uses, uses-element}
use Rattle.recipe.specs.TableNames.{Plain}
use Rattle.expansion.specs.Rules.{after_chosen, rule_list, rule_place, template_place, rule_template}
use Rattle.expansion.specs.Forms.{rules_form_of}
use Rattle.private_names.specs.Statement.{is_private}
use Rattle.simulation.specs.Shapes.{TreeOf, empties, constants, names₂, pairs}
use Rattle.simulation.specs.Names.Shown.{Renaming}
use Rattle.simulation.specs.Form.Holes.{Hole, here, first, later}
use Rattle.simulation.specs.Form.Scopes.{Placed}
use Rattle.simulation.specs.Form.Places.{Still, Turning, InTemplate, stays, turns, ChosenRules}
use Rattle.private_names_proof.proofs.Renumber.{renumber_name}
use Rattle.private_names_proof.specs.Paths.{sub}
use Rattle.private_names_proof.proofs.PathsLaws.{uses-sub}
use Rattle.private_names_proof.specs.Renamed.OldItems.{is_old}
use Rattle.private_names_proof.proofs.Renamed.OldItemsLaws.{old-uses, old-number, old-each}
use Rattle.private_names_proof.specs.Renamed.{Chosen, Held, template_in, unbound}

-- ---- trees as an item table holds them, and renumbered

module _ (ρ : Renaming) where
  abbrev pub renew : Name → Name
  renew = renumber_name ρ.is_private ρ.new

  plain-placed : (x : Name) → Plain x → Placed unbound x
  unfolding plain_name
  plain-placed x p = record { unproduced = ap (λ y. y.produced) p; unmarked = ap (λ y. y.marks) p; bound = ap (λ y. y.binding) p }

  -- a name that is not private stays
  still-name : (x : Name) → Plain x → ρ.is_private x.item ≡ false → Still ρ unbound x (renew x)
  unfolding renumber_name
  still-name x p e = record { eq = sym (ap (λ b. cond b (plain_name ρ.new x.item) x) e); not-private = e; placed = plain-placed x p }

  -- a private one turns
  turning-name : (x : Name) → Plain x → ρ.is_private x.item ≡ true → x.number ≡ ρ.old → Turning ρ unbound x (renew x)
  unfolding renumber_name plain_name
  turning-name x p e o =
      let r : plain_name ρ.new x.item ≡ renew x = sym (ap (λ b. cond b (plain_name ρ.new x.item) x) e) in
      record {
        private = e;
        old = o;
        new = sym (ap (λ y. y.number) r);
        item = ap (λ y. y.item) r;
        first = plain-placed x p;
        second = subst (Placed unbound) r (record { unproduced = refl; unmarked = refl; bound = refl });
      }

  -- a tree without private names
  pub still-tree : {t : Tree} → TreeAll Plain t → ((q : ℕ) → ρ.is_private q ≡ true → uses q t ≡ 0) → TreeOf (Still ρ unbound) t (on_names renew t)
  unfolding on_names uses
  still-tree all-empty h = empties
  still-tree all-constant h = constants
  still-tree (all-name {x = x} p) h = names₂ (still-name x p (go (ρ.is_private x.item) refl))
    where
      go : (b : Bool) → ρ.is_private x.item ≡ b → b ≡ false
      go true e = let z : ◌≡◌ {A = ℕ} (cond (eqb x.item x.item) 1 0) 0 = h x.item e in let d = eq-eqb x.item x.item refl in let w : ◌≡◌ {A = ℕ} 1 0 = rw d at z in absurd (omega arith)
      go false e = refl
  still-tree (all-pair {h = a} {t = b} p q) h = pairs (still-tree p (λ i e. omega (arith, h i e))) (still-tree q (λ i e. omega (arith, h i e)))

  -- every private item is in the tree
  abbrev pub Holds : Tree → Type 0
  Holds t = (q : ℕ) → ρ.is_private q ≡ true → 1 ≤ uses q t

  abbrev pub Once : Tree → Type 0
  Once t = (q : ℕ) → uses q t ≤ 1

  once-element : (k : ℕ) (t : Tree) → Once t → Once (element k t)
  once-element k t h q = omega (arith, h q, uses-element q k t)

  module _ (i : ℕ) (some : ρ.is_private i ≡ true) {T : Tree → Tree → Type 0} where
    -- where all private names are in one element
    element-hole : (k : ℕ) {t : Tree} → TreeAll Plain t → Once t → Holds (element k t) → {l : List ℕ} → Hole (Still ρ unbound) T l (element k t) (on_names renew (element k t)) → Hole (Still ρ unbound) T (k ∷ l) t (on_names renew t)
    unfolding element elements on_names uses
    element-hole k all-empty u h r = absurd (omega (arith, h i some))
    element-hole k all-constant u h r = absurd (omega (arith, h i some))
    element-hole k (all-name p) u h r = absurd (omega (arith, h i some))
    element-hole zero (all-pair {h = a} {t = b} p q) u h r = first r (still-tree q (λ j e. omega (arith, u j, h j e)))
    element-hole (suc k) (all-pair {h = a} {t = b} p q) u h r =
        later (still-tree p (λ j e. omega (arith, u j, h j e, uses-element j k b))) (element-hole k q (λ j. omega (arith, u j)) h r)

    pub path-hole : (l : List ℕ) {t : Tree} → TreeAll Plain t → Once t → Holds (sub l t) → {m : List ℕ} → Hole (Still ρ unbound) T m (sub l t) (on_names renew (sub l t)) → Hole (Still ρ unbound) T (l ++ m) t (on_names renew t)
    unfolding sub
    path-hole [] a u h r = r
    path-hole (k ∷ l) {t} a u h r =
        element-hole k a u (λ q e. omega (arith, h q e, uses-sub q l (element k t))) (path-hole l (tree_all-element k a) (once-element k t u) h r)

  -- ---- the template

  on-each : {R : Name → Name → Type 0} {t : Tree} → TreeAll (λ x. R x (renew x)) t → TreeOf R t (on_names renew t)
  unfolding on_names
  on-each all-empty = empties
  on-each all-constant = constants
  on-each (all-name p) = names₂ p
  on-each (all-pair p q) = pairs (on-each p) (on-each q)

  template-name : (x : Name) → Plain x → eqb x.number ρ.new ≡ false → (eqb x.number ρ.old ≡ true → ρ.is_private x.item ≡ true) → (ρ.is_private x.item ≡ true → x.number ≡ ρ.old) → InTemplate ρ unbound x (renew x)
  template-name x p n f g = go (ρ.is_private x.item) (eqb x.number ρ.old) refl refl
    where
      go : (a b : Bool) → ρ.is_private x.item ≡ a → eqb x.number ρ.old ≡ b → InTemplate ρ unbound x (renew x)
      go true b d e = turns (turning-name x p d (g d))
      go false true d e = absurd (false≢true (sym d ∙ f e))
      go false false d e = stays (still-name x p d) e n

-- ---- the chosen rule

pub held-element : (N : ℕ → ℕ) (k : ℕ) (t : Tree) → Held N t → Held N (element k t)
held-element N k t h = record { plain = tree_all-element k h.plain; numbered = tree_all-element k h.numbered; once = λ q. omega (arith, h.once q, uses-element q k t) }

pub held-sub : (N : ℕ → ℕ) (l : List ℕ) (t : Tree) → Held N t → Held N (sub l t)
unfolding sub
held-sub N [] t h = h
held-sub N (k ∷ l) t h = held-sub N l (element k t) (held-element N k t h)

pub tree_all-rules : {P : Name → Type 0} {t : Tree} → TreeAll P t → TreeAll P (rule_list t)
unfolding after_chosen
tree_all-rules {P} {t} a = tree_all-tail (either (is_name (element 1 t)) (λ e. rw e (tree_all-tail (tree_all-tail a))) (λ e. rw e (tree_all-tail a)))

pub tree_all-template : {P : Name → Type 0} (j : ℕ) {t : Tree} → TreeAll P t → TreeAll P (template_in j t)
unfolding template_in
tree_all-template j {t} a = tree_all-element template_place (tree_all-element (rule_place t j) a)

module _ (ρ : Renaming) (N : ℕ → ℕ) (j : ℕ) (t : Tree) (held : Held N t) (chosen : Chosen ρ j t) where
  abbrev template : Tree
  template = rule_template (element (rule_place t j) t)

  held-rule : Held N (element (rule_place t j) t)
  held-rule = held-element N (rule_place t j) t held

  held-template : Held N template
  held-template = held-element N template_place (element (rule_place t j) t) held-rule

  private-items : (i : ℕ) → ρ.is_private i ≡ any_of (is_old ρ.old i) (names template)
  unfolding template_in
  private-items = chosen.private

  template-rel : TreeOf (InTemplate ρ unbound) template (on_names (renew ρ) template)
  unfolding template_in
  template-rel = on-each ρ (tree_all-map go (tree_all-both held-template.plain (tree_all-both chosen.fresh (tree_all-both held-template.numbered (old-each ρ.old template)))))
    where
      go : (x : Name) → Plain x × ((eqb x.number ρ.new ≡ false) × ((x.number ≡ N x.item) × (eqb x.number ρ.old ≡ true → any_of (is_old ρ.old x.item) (names template) ≡ true))) → InTemplate ρ unbound x (renew ρ x)
      go x (p, (n, (e, f))) = template-name ρ x p n (λ d. private-items x.item ∙ f d) (λ d. e ∙ old-number ρ.old N x.item held-template.numbered (sym (private-items x.item) ∙ d))

  template-holds : Holds ρ template
  template-holds q e = old-uses ρ.old q template (sym (private-items q) ∙ e)

  rules-hold : Holds ρ t
  rules-hold q e = omega (arith, template-holds q e, uses-element q template_place (element (rule_place t j) t), uses-element q (rule_place t j) t)

  chosen-rules : ChosenRules ρ unbound t (on_names (renew ρ) t)
  chosen-rules = record {
    rule = j;
    hole = element-hole ρ chosen.some.0 chosen.some.1 (rule_place t j) held.plain held.once (λ q e. omega (arith, template-holds q e, uses-element q template_place (element (rule_place t j) t)))
        (element-hole ρ chosen.some.0 chosen.some.1 template_place held-rule.plain held-rule.once template-holds (here template-rel));
    old-free = chosen.old-free;
    new-free = chosen.new-free;
  }

-- ---- the expression

module _ (ρ : Renaming) (N : ℕ → ℕ) (l : List ℕ) (b j : ℕ) (t : Tree) (held : Held N t) (chosen : Chosen ρ j (rules_form_of b (sub l t))) where
  abbrev form : Tree
  form = sub l t

  held-form : Held N form
  held-form = held-sub N l t held

  held-rules : Held N (rules_form_of b form)
  held-rules = held-element N 1 (element b (element 1 form)) (held-element N b (element 1 form) (held-element N 1 form held-form))

  form-holds : Holds ρ form
  form-holds q e = omega (arith, rules-hold ρ N j (rules_form_of b form) held-rules chosen q e, uses-element q 1 form, uses-element q b (element 1 form), uses-element q 1 (element b (element 1 form)))

  -- every private item is in the form
  pub renamed-holds : Holds ρ t
  renamed-holds q e = omega (arith, form-holds q e, uses-sub q l t)

  -- the two differ in the rules form of entry b of the form at l
  pub renamed-hole : Hole (Still ρ unbound) (ChosenRules ρ unbound) (l ++ (1 ∷ b ∷ 1 ∷ [])) t (on_names (renew ρ) t)
  unfolding sub
  renamed-hole =
      path-hole ρ chosen.some.0 chosen.some.1 l held.plain held.once form-holds
      (path-hole ρ chosen.some.0 chosen.some.1 (1 ∷ b ∷ 1 ∷ []) held-form.plain held-form.once
      (rules-hold ρ N j (rules_form_of b form) held-rules chosen)
      (here (chosen-rules ρ N j (rules_form_of b form) held-rules chosen)))
