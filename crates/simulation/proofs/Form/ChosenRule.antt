-- Reading the rules of the form in both runs: the private names of the chosen template are inserted in both, and every other rule is one.
use Rattle.std.specs.Prelude.{◌≡◌, refl, ◌⊎◌, Bool, true, ◌&&◌, ◌||◌, cond, ℕ, suc, ◌+◌, eqb}
use Rattle.std.proofs.Math.Path.{ap, sym}
use Rattle.std.proofs.Common.{ap₂, ◌∙◌, subst, inl, inr, true≢false, arith, eq-eqb}
use Rattle.std.proofs.Math.Bool.{false}
use Rattle.std.proofs.lemmas.Bool.{false≢true}
use mathlib.Core.List.{List, [], ◌∷◌}
use Rattle.std.proofs.Math.Option.{Option, none, some}
use Rattle.words.specs.Lists.{any_of, equal}
use Rattle.words.specs.Options.{traverse}
use Rattle.recipe.specs.Name.{Name, binding_key, same, is_ellipsis}
use Rattle.recipe.specs.Tree.{Tree, empty, constant, name, pair, names, on_name, on_pair, is_name, elements, element, tail}
use Rattle.expansion.specs.Lookup.{is_syntax_rules}
use Rattle.expansion.specs.Rules.{Rule, chosen_count, after_chosen, literal_list, rule_list, rule_place, ellipsis_of, template_place, variable_from, variables, rule_variables, rule_of, rules_of, has_variable}
use Rattle.simulation.specs.Relations.{ListRel, ends, joins, OptionRel, nones, somes}
use Rattle.simulation.proofs.RelationsLaws.{length-rel, list-map, list-eq, guard-rel, map_both-rel, traverse-rel}
use Rattle.simulation.specs.Shapes.{TreeOf, empties, constants, names₂, pairs, RuleOf}
use Rattle.simulation.proofs.ShapesLaws.{tree_map, pattern-map, template-map, names-rel, elements-rel, is_list_of-rel, element-rel, on_name-rel}
use Rattle.simulation.proofs.RulesKept.{rule_of-by, rule_of-rel, is_rules_form-rel, rules_of-rel}
use Rattle.simulation.specs.Names.Shown.{Renaming, of_copy}
use Rattle.simulation.specs.Marks.{Kind, Older, Below}
use Rattle.simulation.specs.Names.{Coherent, Raw, NameRel, kept, turned, unowned}
use Rattle.simulation.specs.Steps.{Literal}
use Rattle.simulation.proofs.StepsLaws.{privately}
use Rattle.simulation.specs.States.{RuleRel, RulesRel, no-rule, rule, MacrosRel, no-macro, with}
use Rattle.simulation.specs.Form.Holes.{Hole, first, later}
use Rattle.simulation.proofs.Form.HolesLaws.{hole-tree, hole-here, hole-elements, hole-at, hole-off}
use Rattle.simulation.specs.Form.Scopes.{Scope}
use Rattle.simulation.specs.Form.Places.{Still, InTemplate, stays, turns, ChosenRules}
use Rattle.simulation.proofs.Form.PlacesLaws.{still-eq, still-dots, still-wild, template-dots, Foreign, AtRest, rest-coherent, rest_below, still-rel}

-- ---- the parts of a rules form

-- rules forms related by S but for one place in rule j
record FormParts (S : Name → Name → Type 0) (T : Tree → Tree → Type 0) (j : ℕ) (l : List ℕ) (t u : Tree) : Type 0 where
  head : TreeOf S (element 0 t) (element 0 u)
  second : TreeOf S (element 1 t) (element 1 u)
  literals : TreeOf S (literal_list t) (literal_list u)
  rules : Hole S T (j ∷ l) (rule_list t) (rule_list u)

hole-form : {S : Name → Name → Type 0} {T : Tree → Tree → Type 0} (j : ℕ) {l : List ℕ} {t u : Tree} → Hole S T (rule_place t j ∷ l) t u → FormParts S T j l t u
unfolding element elements tail on_pair on_name is_name after_chosen chosen_count
hole-form {S} {T} j {l} (later {h = a} {h' = b} p (later q r)) = go q r
  where
    chosen : {x y : Name} {t u : Tree} → S x y → Hole S T (suc j ∷ l) t u → FormParts S T j l (pair a (pair (name x) t)) (pair b (pair (name y) u))
    chosen s (later c r) = record { head = p; second = names₂ s; literals = c; rules = r }

    go : {x y t u : Tree} → TreeOf S x y → Hole S T ((chosen_count (pair a (pair x t)) + j) ∷ l) t u → FormParts S T j l (pair a (pair x t)) (pair b (pair y u))
    go {t = t} {u = u} (names₂ s) r = chosen s (subst (λ n. Hole S T (n ∷ l) t u) (let e : 1 + j ≡ suc j = omega arith in e) r)
    go {t = t} {u = u} empties r = record { head = p; second = empties; literals = empties; rules = subst (λ n. Hole S T (n ∷ l) t u) (let e : 0 + j ≡ j = omega arith in e) r }
    go {t = t} {u = u} constants r = record { head = p; second = constants; literals = constants; rules = subst (λ n. Hole S T (n ∷ l) t u) (let e : 0 + j ≡ j = omega arith in e) r }
    go {t = t} {u = u} (pairs c d) r = record { head = p; second = pairs c d; literals = pairs c d; rules = subst (λ n. Hole S T (n ∷ l) t u) (let e : 0 + j ≡ j = omega arith in e) r }

-- ---- no variable of this number

both_false : (a b : Bool) → a || b ≡ false → (a ≡ false) × (b ≡ false)
both_false true b h = absurd (true≢false h)
both_false false b h = (refl, h)

-- names of different numbers are not the same
same_number : (x y : Name) → eqb x.number y.number ≡ false → same x y ≡ false
unfolding same
same_number x y e = ap (λ b. b && (equal x.marks y.marks && eqb (binding_key x.binding) (binding_key y.binding))) e

-- a name of that number is none of the variables
no-variable : (n : ℕ) (x : Name) → x.number ≡ n → (k : ℕ) (vs : List (Name × ℕ)) → any_of (λ v. eqb v.0.number n) vs ≡ false → variable_from k vs x ≡ none
unfolding variable_from any_of
no-variable n x e k [] f = refl
no-variable n x e k (v ∷ vs) f = go (eqb v.0.number n) refl f (no-variable n x e (suc k) vs)
  where
    go : (b : Bool) → eqb v.0.number n ≡ b → (b || any_of (λ v. eqb v.0.number n) vs) ≡ false
        → (any_of (λ v. eqb v.0.number n) vs ≡ false → variable_from (suc k) vs x ≡ none) → variable_from k (v ∷ vs) x ≡ none
    go true d g h = absurd (true≢false g)
    go false d g h = ap (λ b. cond b (some (k, v.1)) (variable_from (suc k) vs x)) (same_number v.0 x (ap (eqb v.0.number) e ∙ d)) ∙ h g

module _ (ρ : Renaming) (β : Scope) where
  -- ---- names that are still

  still-same : (i j x y : Name) → Still ρ β i j → Still ρ β x y → same i x ≡ same j y
  still-same i j x y p q = ap₂ same p.eq q.eq

  -- ---- reading

  -- a rule of the form: all still, or with the chosen template
  pub data FormRule (r s : Rule) : Type 0 where
    plain : RuleOf (Still ρ β) (Still ρ β) r s → FormRule r s
    chosen : RuleOf (Still ρ β) (InTemplate ρ β) r s → FormRule r s

  plain-rules : {x y : Option (List Rule)} → OptionRel (ListRel (RuleOf (Still ρ β) (Still ρ β))) x y → OptionRel (ListRel FormRule) x y
  plain-rules nones = nones
  plain-rules (somes r) = somes (list-map (λ x y q. plain q) r)

  module _ (dots : Name → Bool) (template-eq : (x y : Name) → InTemplate ρ β x y → dots x ≡ dots y) where
    -- the chosen rule, whose names of the old number in one run and of the new in the other are no variables
    chosen-rule : {ls ms : List Name} → ListRel (Still ρ β) ls ms → {t u : Tree} → Hole (Still ρ β) (TreeOf (InTemplate ρ β)) (template_place ∷ []) t u
        → any_of (λ v. eqb v.0.number ρ.old) (rule_variables dots ls t) ≡ false
        → any_of (λ v. eqb v.0.number ρ.new) (rule_variables dots ls t) ≡ false
        → OptionRel (RuleOf (Still ρ β) (InTemplate ρ β)) (rule_of dots ls t) (rule_of dots ms u)
    chosen-rule {ls} {ms} l {t} {u} r e f =
        let p = hole-off r 0 (omega arith) in
        let vs = rule_variables dots ls t in
        let ws : vs ≡ rule_variables dots ms u = ap₂ (λ l p. variables dots l 0 (tail p)) (list-eq (λ x y q. q.eq) l) (still-eq ρ β p) in
        rule_of-by (Still ρ β) still-same (still-wild ρ β) dots dots (λ x y s. ap dots s.eq) l (InTemplate ρ β) template-eq t u
        (is_list_of-rel 2 (hole-tree {R = λ x y. Unit {0}} (λ x y s. tt) (λ t u q. tree_map (λ x y s. tt) q) r)) p (hole-here (hole-at r))
        (λ x y q. subst (λ l. variable_from 0 vs x ≡ variable_from 0 l y) ws (variable-eq vs e f x y q))
      where
        variable-eq : (vs : List (Name × ℕ)) → any_of (λ v. eqb v.0.number ρ.old) vs ≡ false → any_of (λ v. eqb v.0.number ρ.new) vs ≡ false → (x y : Name) → InTemplate ρ β x y → variable_from 0 vs x ≡ variable_from 0 vs y
        variable-eq vs e f x y (stays s a b) = ap (variable_from 0 vs) s.eq
        variable-eq vs e f x y (turns t) = no-variable ρ.old x t.old 0 vs e ∙ sym (no-variable ρ.new y t.new 0 vs f)

    chosen-rules : {ls ms : List Name} → ListRel (Still ρ β) ls ms → {j : ℕ} {t u : Tree} → Hole (Still ρ β) (TreeOf (InTemplate ρ β)) (j ∷ template_place ∷ []) t u
        → any_of (λ v. eqb v.0.number ρ.old) (rule_variables dots ls (element j t)) ≡ false
        → any_of (λ v. eqb v.0.number ρ.new) (rule_variables dots ls (element j t)) ≡ false
        → OptionRel (ListRel FormRule) (traverse (rule_of dots ls) (elements t)) (traverse (rule_of dots ms) (elements u))
    unfolding traverse element elements
    chosen-rules l (first r s) e f = map_both-rel ◌∷◌ ◌∷◌ (λ x y u v p q. joins (chosen p) q) (chosen-rule l r e f)
        (plain-rules (traverse-rel _ _ (rule_of-rel (Still ρ β) still-same (still-wild ρ β) dots dots (λ x y s. ap dots s.eq) l) (elements-rel s)))
    chosen-rules l (later s r) e f = map_both-rel ◌∷◌ ◌∷◌ (λ x y u v p q. joins (plain p) q) (rule_of-rel (Still ρ β) still-same (still-wild ρ β) dots dots (λ x y s. ap dots s.eq) l _ _ s) (chosen-rules l r e f)

  -- an ellipsis of the author's choice has neither number, so that no name that turns is it
  ellipsis-turns : (c : Tree) → on_name (λ x. eqb x.number ρ.old) false c ≡ false → on_name (λ x. eqb x.number ρ.new) false c ≡ false
      → (x y : Name) → InTemplate ρ β x y → on_name same is_ellipsis c x ≡ on_name same is_ellipsis c y
  unfolding on_name
  ellipsis-turns empty e f x y q = template-dots ρ β x y q
  ellipsis-turns (constant a) e f x y q = template-dots ρ β x y q
  ellipsis-turns (name c) e f x y (stays s a b) = ap (same c) s.eq
  ellipsis-turns (name c) e f x y (turns t) = same_number c x (ap (eqb c.number) t.old ∙ e) ∙ sym (same_number c y (ap (eqb c.number) t.new ∙ f))
  ellipsis-turns (pair h t) e f x y q = template-dots ρ β x y q

  chosen-form : (j : ℕ) {t u : Tree} → Hole (Still ρ β) (TreeOf (InTemplate ρ β)) (rule_place t j ∷ template_place ∷ []) t u → has_variable j ρ.old t ≡ false → has_variable j ρ.new t ≡ false → OptionRel (ListRel FormRule) (rules_of t) (rules_of u)
  unfolding rules_of has_variable ellipsis_of
  chosen-form j {t} {u} r e f =
      let p = hole-form j r in
      let a = both_false _ _ e in
      let b = both_false _ _ f in
      guard-rel (is_rules_form-rel (Still ρ β) (still-dots ρ β) (still-wild ρ β) still-same _ _ (on_name-rel _ _ (λ x y s. ap is_syntax_rules s.eq) false p.head) p.second p.literals (length-rel (hole-elements p.rules)))
      (subst (λ c. OptionRel (ListRel FormRule) (traverse (rule_of (ellipsis_of t) (names (literal_list t))) (elements (rule_list t))) (traverse (rule_of (on_name same is_ellipsis c) (names (literal_list u))) (elements (rule_list u)))) (still-eq ρ β p.second)
      (chosen-rules (ellipsis_of t) (ellipsis-turns (element 1 t) a.0 b.0) (names-rel p.literals) p.rules a.1 b.1))

  -- a rules form of the form
  abbrev pub FormRules : Tree → Tree → Type 0
  FormRules t u = TreeOf (Still ρ β) t u ⊎ ChosenRules ρ β t u

  pub form_rules-read : (t u : Tree) → FormRules t u → OptionRel (ListRel FormRule) (rules_of t) (rules_of u)
  form_rules-read t u (inl r) = plain-rules (rules_of-rel (Still ρ β) (still-dots ρ β) (still-wild ρ β) still-same t u r (on_name-rel _ _ (λ x y s. ap is_syntax_rules s.eq) false (element-rel 0 r)))
  form_rules-read t u (inr c) = chosen-form c.rule c.hole c.old-free c.new-free

  -- ---- as the simulation knows them

  -- names of the chosen template
  abbrev Chosen : Kind
  Chosen = λ k i b ms. (ms ≡ []) × (eqb k ρ.old ≡ true → ρ.is_private i ≡ true) × (eqb k ρ.new ≡ true → ρ.is_private i ≡ true)

  chosen-coherent : Coherent ρ Chosen
  chosen-coherent = record {
    old = λ i j a b ms p q. p.1 (eq-eqb ρ.old ρ.old refl) ∙ sym (q.1 (eq-eqb ρ.old ρ.old refl));
    new = λ i j a b ms p q e. p.2 (eq-eqb ρ.new ρ.new refl);
  }

  chosen-below : (m : ℕ) → Below m Chosen
  chosen-below m k i b ms p = subst (Older m) (sym p.0) tt

  module _ (raw : Raw ρ) (free : Foreign ρ β) (e₀ : β ρ.old ≡ raw.first) (e₁ : β ρ.new ≡ raw.second) where
    template-rel : (x y : Name) → InTemplate ρ β x y → NameRel ρ raw Chosen x y
    template-rel x y (stays s e f) = kept (s.placed.unmarked, λ g. absurd (false≢true (sym e ∙ g)), λ g. absurd (false≢true (sym f ∙ g)))
        (record { eq = s.eq; not-private = s.not-private; free = ap (of_copy ρ) s.placed.bound ∙ free x.number })
    template-rel x y (turns t) = turned (t.first.unmarked, λ g. t.private, λ g. t.private)
        (record {
          private = t.private;
          old = t.old;
          new = t.new;
          item = t.item;
          produced = t.first.unproduced ∙ sym t.second.unproduced;
          marks = t.first.unmarked ∙ sym t.second.unmarked;
          tie = unowned (t.first.bound ∙ ap β t.old ∙ e₀) (t.second.bound ∙ ap β t.new ∙ e₁);
        })

    literal-rel : (x y : Name) → Still ρ β x y → Literal ρ raw x y
    literal-rel x y s = kept (λ e. absurd (false≢true (sym s.not-private ∙ e))) (record { eq = s.eq; not-private = s.not-private; free = ap (of_copy ρ) s.placed.bound ∙ free x.number })

    rule-rel : (m : ℕ) {r s : Rule} → FormRule r s → RuleRel (privately ρ raw) m r s
    rule-rel m (plain q) = record { kind = AtRest ρ; coherent = rest-coherent ρ; below = rest_below ρ m; pattern = pattern-map literal-rel q.pattern; template = template-map (still-rel ρ raw β free) q.template }
    rule-rel m (chosen q) = record { kind = Chosen; coherent = chosen-coherent; below = chosen-below m; pattern = pattern-map literal-rel q.pattern; template = template-map template-rel q.template }

    rules-rel : (m : ℕ) {r s : List Rule} → ListRel FormRule r s → RulesRel (privately ρ raw) m r s
    rules-rel m ends = no-rule
    rules-rel m (joins q qs) = rule (rule-rel m q) (rules-rel m qs)

    pub form_macros-rel : (m : ℕ) {r s : List (List Rule)} → ListRel (ListRel FormRule) r s → MacrosRel (privately ρ raw) m r s
    form_macros-rel m ends = no-macro
    form_macros-rel m (joins q qs) = with (rules-rel m q) (form_macros-rel m qs)
