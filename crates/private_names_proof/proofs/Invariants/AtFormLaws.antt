-- The form of a private name, reached in place: in each of its templates number and marks determine whether a name stems from a private
-- item, since those items are the template's of that name, and each item is once in the form.
use Rattle.std.specs.Prelude.{◌≡◌, refl, ◌⊎◌, Bool, false, cond, ℕ, suc, ◌+◌, ◌≤◌, eqb}
use Rattle.std.proofs.Common.{ap, sym, ◌∙◌, inl, inr, true≢false, arith}
use Rattle.std.proofs.Math.Path.{subst}
use Rattle.std.proofs.Math.Bool.{true}
use mathlib.Core.List.{List, [], ◌∷◌, map}
use Rattle.std.proofs.Math.Option.{Option}
use borrow.Author.Tests.{eqb-true, eq-eqb}
use Rattle.words.specs.Lists.{any_of}
use Rattle.words.specs.TestLaws.{iff-eq}
use Rattle.words.specs.Each.{Each, none_of, also, each_map, Given, missing, given, given-any, given-weaken, given-guard, given-map_both, given-traverse}
use Rattle.datum.specs.Constant.{Constant}
use Rattle.recipe.specs.Name.{Binding, macro, Name, bind_name}
use Rattle.recipe.specs.Tree.{Tree, empty, constant, name, pair, names, on_name, is_name, elements, element, on_names, bind, bind_all}
use Rattle.recipe.specs.TreeLaws.{on_names-element}
use Rattle.recipe.specs.TreeNames.{TreeAll, all-empty, all-constant, all-name, all-pair, tree_all-map, tree_all-both, tree_all-element, uses, uses-element, uses-elements, bind_name-number, bind_name-item, bind_name-marks}
use Rattle.recipe.specs.Tidy.{Tidy, tidy_empty, tidy_constant, tidy_name, tidy_pair, tidy-element, tidy-bind_all}
use Rattle.expansion.specs.Rules.{Template, Rule, as_element, chosen_count, rule_list, rule_place, template_place, rule_template, variable_from, template_of, rule_of, rules_of}
use Rattle.expansion.specs.Forms.{keywords, rules_forms, rules_form_of}
use Rattle.expansion.proofs.FormLaws.{rule-placed}
use Rattle.expansion.proofs.TidyRulesLaws.{rules_of-tidy}
use Rattle.simulation.specs.Relations.{OptionRel, nones, somes}
use Rattle.simulation.specs.Shapes.{TreeOf, empties, constants, names₂, pairs, TemplateOf, insert_ts, pair_ts, ellipsis_ts, variable_ts, constant_ts, empty_ts}
use Rattle.simulation.proofs.RulesKept.{template_of-rel}
use Rattle.private_names_proof.specs.Renamed.OldItems.{is_old}
use Rattle.private_names_proof.proofs.Renamed.OldItemsLaws.{old-uses, old-number, old-each}
use Rattle.private_names_proof.specs.Renamed.{template_in}
use Rattle.private_names_proof.proofs.RenamedLaws.{tree_all-template}
use Rattle.private_names_proof.specs.Invariants.Kinds.{Made}
use Rattle.private_names_proof.proofs.Invariants.KindsLaws.{Good, good-fewer}
use Rattle.private_names_proof.specs.Invariants.Kept.{Inserts, here, in_head, in_tail, in-element, in_rest}
use Rattle.private_names_proof.proofs.Invariants.KeptLaws.{tidy-inserts, GoodRule}
use Rattle.private_names_proof.specs.Invariants.AtForm.{InPlace, private_in}

-- ---- reading rules, template by template

-- a name beside itself
abbrev Itself : (Name → Type 0) → Name → Name → Type 0
Itself P x y = (x ≡ y) × P x

module _ (P : Name → Type 0) where
  itself : {t : Tree} → TreeAll P t → TreeOf (Itself P) t t
  itself all-empty = empties
  itself all-constant = constants
  itself (all-name p) = names₂ (refl, p)
  itself (all-pair a b) = pairs (itself a) (itself b)

  inserts-itself : {e f : Template} → TemplateOf (Itself P) e f → (x : Name) → Inserts x e → P x
  inserts-itself variable_ts x i = elim i [ ]
  inserts-itself (insert_ts r) x here = r.1
  inserts-itself constant_ts x i = elim i [ ]
  inserts-itself empty_ts x i = elim i [ ]
  inserts-itself (pair_ts p q) x (in_head i) = inserts-itself p x i
  inserts-itself (pair_ts p q) x (in_tail i) = inserts-itself q x i
  inserts-itself (ellipsis_ts p q) x (in-element i) = inserts-itself p x i
  inserts-itself (ellipsis_ts p q) x (in_rest i) = inserts-itself q x i

  template-names : (dots : Name → Bool) (vs : List (Name × ℕ)) {t : Tree} → TreeAll P t → Given (λ (e : Template). (x : Name) → Inserts x e → P x) (template_of dots vs 0 as_element t)
  template-names dots vs a = go (template_of-rel (Itself P) dots dots (λ x y r. ap dots r.0) vs vs (λ x y r. ap (variable_from 0 vs) r.0) 0 as_element (itself a))
    where
      go : {o q : Option Template} → OptionRel (TemplateOf (Itself P)) o q → Given (λ (e : Template). (x : Name) → Inserts x e → P x) o
      go nones = missing
      go (somes r) = given (inserts-itself r)

  -- what holds of the names of a rule's template holds of those it inserts
  rule-names : (dots : Name → Bool) (literals : List Name) (r : Tree) → TreeAll P (rule_template r) → Given (λ (rule : Rule). (x : Name) → Inserts x rule.template → P x) (rule_of dots literals r)
  unfolding rule_of
  rule-names dots literals r a = given-guard _ (given-map_both _ (λ p t _ f. f) (given-any _) (template-names dots _ a))

each-element : {P : Tree → Type 0} (t : Tree) → ((j : ℕ) → P (element j t)) → Each P (elements t)
unfolding element elements
each-element empty h = none_of
each-element (constant a) h = none_of
each-element (name x) h = none_of
each-element (pair h t) f = also (f 0) (each-element t (λ j. f (suc j)))

module _ {A : Type 0} {P Q R : A → Type 0} (f : (x : A) → P x → Q x → R x) where
  each_both : {xs : List A} → Each P xs → Each Q xs → Each R xs
  each_both none_of none_of = none_of
  each_both (also p ps) (also q qs) = also (f _ p q) (each_both ps qs)

  given-each : {o : Option (List A)} → Given (Each P) o → Given (Each Q) o → Given (Each R) o
  given-each missing missing = missing
  given-each (given p) (given q) = given (each_both p q)

-- ---- trees

pub tree_all-on_names : {P Q : Name → Type 0} (f : Name → Name) → ((x : Name) → P x → Q (f x)) → {t : Tree} → TreeAll P t → TreeAll Q (on_names f t)
unfolding on_names
tree_all-on_names f h all-empty = all-empty
tree_all-on_names f h all-constant = all-constant
tree_all-on_names f h (all-name p) = all-name (h _ p)
tree_all-on_names f h (all-pair p q) = all-pair (tree_all-on_names f h p) (tree_all-on_names f h q)

pub tidy-each : {N P : Name → Type 0} {C : Constant → Type 0} {t : Tree} → Tidy N C t → TreeAll P t → Tidy P C t
tidy-each tidy_empty all-empty = tidy_empty
tidy-each (tidy_constant c) all-constant = tidy_constant c
tidy-each (tidy_name q) (all-name p) = tidy_name p
tidy-each (tidy_pair a b l) (all-pair p q) = tidy_pair (tidy-each a p) (tidy-each b q) l

on_names-is_name : (f : Name → Name) (t : Tree) → is_name (on_names f t) ≡ is_name t
unfolding is_name on_name on_names
on_names-is_name f empty = refl
on_names-is_name f (constant a) = refl
on_names-is_name f (name x) = refl
on_names-is_name f (pair h t) = refl

rule_place-on_names : (f : Name → Name) (j : ℕ) (t : Tree) → rule_place (on_names f t) j ≡ rule_place t j
unfolding chosen_count
rule_place-on_names f j t = ap (λ b. suc (suc (cond b 1 0 + j))) (ap is_name (on_names-element f 1 t) ∙ on_names-is_name f (element 1 t))

pub template_in-on_names : (f : Name → Name) (j : ℕ) (t : Tree) → template_in j (on_names f t) ≡ on_names f (template_in j t)
unfolding template_in
template_in-on_names f j t = ap (λ k. rule_template (element k (on_names f t))) (rule_place-on_names f j t) ∙ ap rule_template (on_names-element f (rule_place t j) t) ∙ on_names-element f template_place (element (rule_place t j) t)

pub template_in-uses : (q j : ℕ) (t : Tree) → uses q (template_in j t) ≤ uses q (element (rule_place t j) t)
unfolding template_in
template_in-uses q j t = uses-element q template_place (element (rule_place t j) t)

-- where no such item is used
pub unused-all : (private : ℕ → Bool) (t : Tree) → ((q : ℕ) → private q ≡ true → uses q t ≡ 0) → TreeAll (λ x. private x.item ≡ false) t
unfolding uses
unused-all private empty h = all-empty
unused-all private (constant a) h = all-constant
unused-all private (name x) h = all-name (go (private x.item) refl)
  where
    go : (b : Bool) → private x.item ≡ b → b ≡ false
    go true e = let z : ◌≡◌ {A = ℕ} (cond (eqb x.item x.item) 1 0) 0 = h x.item e in let d = eq-eqb x.item x.item refl in let w : ◌≡◌ {A = ℕ} 1 0 = rw d at z in absurd (omega arith)
    go false e = refl
unused-all private (pair a b) h = all-pair (unused-all private a (λ q e. omega (arith, h q e))) (unused-all private b (λ q e. omega (arith, h q e)))

decide : (a b : ℕ) → (a ≡ b) ⊎ (a ≡ b → ⊥)
decide a b = go (eqb a b) refl
  where
    go : (c : Bool) → eqb a b ≡ c → (a ≡ b) ⊎ (a ≡ b → ⊥)
    go true e = inl (eqb-true a b e)
    go false e = inr (λ d. true≢false (sym (eq-eqb a b d) ∙ e))

-- ---- templates that are settled

module _ (private : ℕ → Bool) where
  abbrev pub is_private_name : Name → Bool
  is_private_name x = private x.item

  -- a private name of an expression has stood in a result: it is a copy
  abbrev pub Copied : Name → Type 0
  Copied x = private x.item ≡ true → x.produced ≡ true

  -- a name without marks that is not private
  abbrev pub Public : Name → Type 0
  Public x = (private x.item ≡ false) × (x.marks ≡ [])

  pub public-good : (k : ℕ) → Good is_private_name k Public
  public-good k = record { fresh = λ x p. subst (Made k) (sym p.1) none_of; determines = λ x y p q e f. p.0 ∙ sym q.0 }

  module _ (n : ℕ) where
    -- a name without marks that is private just where its number is n
    abbrev pub Numbered : Name → Type 0
    Numbered x = (private x.item ≡ eqb x.number n) × (x.marks ≡ [])

    abbrev pub Settled : Tree → Type 0
    Settled t = TreeAll Public t ⊎ TreeAll Numbered t

    numbered-good : (k : ℕ) → Good is_private_name k Numbered
    numbered-good k = record { fresh = λ x p. subst (Made k) (sym p.1) none_of; determines = λ x y p q e f. p.0 ∙ ap (λ i. eqb i n) e ∙ sym q.0 }

    settled-bind : (i : Name) (b : Binding) (t : Tree) → Settled t → Settled (on_names (bind_name i b) t)
    settled-bind i b t (inl a) = inl (tree_all-on_names (bind_name i b) (λ x p. (ap private (bind_name-item i b x) ∙ p.0, bind_name-marks i b x ∙ p.1)) a)
    settled-bind i b t (inr a) = inr (tree_all-on_names (bind_name i b) (λ x p. (ap private (bind_name-item i b x) ∙ p.0 ∙ ap (λ k. eqb k n) (sym (bind_name-number i b x)), bind_name-marks i b x ∙ p.1)) a)

    settled-bind_all : (f : ℕ → Binding) (k : ℕ) (xs : List Name) (r : Tree) → ((j : ℕ) → Settled (template_in j r)) → (j : ℕ) → Settled (template_in j (bind_all f k xs r))
    unfolding bind_all bind
    settled-bind_all f k [] r h = h
    settled-bind_all f k (x ∷ xs) r h =
        settled-bind_all f (suc k) xs (on_names (bind_name x (f k)) r)
        (λ j. subst Settled (sym (template_in-on_names (bind_name x (f k)) j r)) (settled-bind x (f k) (template_in j r) (h j)))

    rule-good : (k : ℕ) (dots : Name → Bool) (literals : List Name) (r : Tree) → Settled (rule_template r) → Given (λ (rule : Rule). Good is_private_name k (λ x. Inserts x rule.template)) (rule_of dots literals r)
    rule-good k dots literals r (inl a) = given-weaken (λ rule h. good-fewer is_private_name h (public-good k)) (rule-names Public dots literals r a)
    rule-good k dots literals r (inr a) = given-weaken (λ rule h. good-fewer is_private_name h (numbered-good k)) (rule-names Numbered dots literals r a)

    -- the rules of a rules form whose templates are settled
    pub rules-good : (C : Constant → Type 0) (k : ℕ) (r : Tree) → Tidy (λ x. Unit {0}) C r → ((j : ℕ) → Settled (template_in j r)) → Given (Each (GoodRule is_private_name Copied C k)) (rules_of r)
    unfolding rules_of template_in
    rules-good C k r a h =
        given-each (λ rule p q. record { good = q; tidy = tidy-inserts p }) (rules_of-tidy a)
        (given-guard _ (given-traverse (each-element (rule_list r) (λ j. rule-good k _ _ (element j (rule_list r))
        (subst (λ t. Settled (rule_template t)) (sym (rule-placed j r)) (h j))))))

    pub scoped-good : (C : Constant → Type 0) (k : ℕ) (inside : Bool) (i : ℕ) (xs : List Name) (r : Tree) → Tidy (λ x. Unit {0}) C r × ((j : ℕ) → Settled (template_in j r))
        → Given (Each (GoodRule is_private_name Copied C k)) (rules_of (cond inside (bind_all macro i xs) (λ r. r) r))
    scoped-good C k true i xs r a = rules-good C k (bind_all macro i xs r) (tidy-bind_all macro i xs (λ j _ _ x _. tt) a.0) (settled-bind_all macro i xs r a.1)
    scoped-good C k false i xs r a = rules-good C k r a.0 a.1

-- ---- the form

module _ (C : Constant → Type 0) (N : ℕ → ℕ) (t : Tree) (p : InPlace C N t) (b j n : ℕ) where
  abbrev private : ℕ → Bool
  private = private_in b j n t

  abbrev template : ℕ → ℕ → Tree
  template c i = template_in i (rules_form_of c t)

  template-all : {P : Name → Type 0} (c i : ℕ) → TreeAll P t → TreeAll P (template c i)
  template-all c i a = tree_all-template i (tree_all-element 1 (tree_all-element c (tree_all-element 1 a)))

  private-uses : (q : ℕ) → private q ≡ true → 1 ≤ uses q (template b j)
  unfolding private_in
  private-uses q e = old-uses n q (template b j) e

  chosen-numbered : TreeAll (Numbered private n) (template b j)
  unfolding private_in
  chosen-numbered = tree_all-map go (tree_all-both (template-all b j p.unmarked) (tree_all-both (template-all b j p.numbered) (old-each n (template b j))))
    where
      go : (x : Name) → (x.marks ≡ []) × ((x.number ≡ N x.item) × (eqb x.number n ≡ true → any_of (is_old n x.item) (names (template b j)) ≡ true)) → Numbered private n x
      go x (m, (e, f)) = (iff-eq (private x.item) (eqb x.number n) (λ d. eq-eqb x.number n (e ∙ old-number n N x.item (template-all b j p.numbered) d)) f, m)

  public : (u : Tree) → TreeAll (λ x. x.marks ≡ []) u → ((q : ℕ) → uses q u + uses q (template b j) ≤ 1) → TreeAll (Public private) u
  public u a h = tree_all-both (unused-all private u (λ q e. omega (arith, h q, private-uses q e))) a

  settled : (c i : ℕ) → Settled private n (template c i)
  settled c i = go (decide c b) (decide i j)
    where
      go : (c ≡ b) ⊎ (c ≡ b → ⊥) → (i ≡ j) ⊎ (i ≡ j → ⊥) → Settled private n (template c i)
      go (inl e) (inl f) = inr (subst (λ d. TreeAll (Numbered private n) (template d i)) (sym e) (subst (λ d. TreeAll (Numbered private n) (template b d)) (sym f) chosen-numbered))
      go (inl e) (inr f) = inl (public (template c i) (template-all c i p.unmarked) (λ q. subst (λ d. uses q (template d i) + uses q (template b j) ≤ 1) (sym e)
          (omega (
            arith,
            p.once q,
            uses-element q 1 t,
            uses-element q b (element 1 t),
            uses-element q 1 (element b (element 1 t)),
            template_in-uses q i (rules_form_of b t),
            template_in-uses q j (rules_form_of b t),
            uses-elements q (rule_place (rules_form_of b t) i) (rule_place (rules_form_of b t) j) (rules_form_of b t) (λ d. f (omega arith)),
          ))))
      go (inr e) f = inl (public (template c i) (template-all c i p.unmarked) (λ q.
          omega (
            arith,
            p.once q,
            uses-element q 1 t,
            uses-elements q c b (element 1 t) e,
            uses-element q 1 (element c (element 1 t)),
            uses-element q 1 (element b (element 1 t)),
            template_in-uses q i (rules_form_of c t),
            template_in-uses q j (rules_form_of b t),
            uses-element q (rule_place (rules_form_of c t) i) (rules_form_of c t),
            uses-element q (rule_place (rules_form_of b t) j) (rules_form_of b t),
          )))

  -- its rules, as they are read
  pub form-rules : (k : ℕ) (inside : Bool) (i : ℕ) → Each (λ r. Given (Each (GoodRule (is_private_name private) (Copied private) C k)) (rules_of r)) (map (cond inside (bind_all macro i (keywords t)) (λ r. r)) (rules_forms t))
  unfolding rules_forms
  form-rules k inside i =
      each_map _ (λ r. scoped-good private n C k inside i (keywords t) r)
      (each_map (element 1) (λ r h. h) (each-element (element 1 t) (λ c. (tidy-element 1 (tidy-element c (tidy-element 1 p.tidy)), settled c))))

  -- its body
  pub form-body : Tidy (Public private) C (element 2 t)
  form-body = tidy-each (tidy-element 2 p.tidy) (public (element 2 t) (tree_all-element 2 p.unmarked) (λ q.
      omega (arith, p.once q, uses-elements q 2 1 t (λ d. omega arith), uses-element q b (element 1 t), uses-element q 1 (element b (element 1 t)), template_in-uses q j (rules_form_of b t), uses-element q (rule_place (rules_form_of b t) j) (rules_form_of b t))))
