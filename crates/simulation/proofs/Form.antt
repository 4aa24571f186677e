-- The form of the private name, reached in place: `form-agree`. Both runs read its rules, and go on side by side.
pub mod ChosenRule
pub mod HolesLaws
pub mod PlacesLaws
pub mod ScopesLaws
use Rattle.std.specs.Prelude.{◌≡◌, ◌⊎◌, Bool, cond, List, [], ◌∷◌, map, ℕ, suc}
use Rattle.std.proofs.Math.Path.{refl}
use Rattle.std.proofs.Common.{ap, arith}
use Rattle.std.proofs.Math.Logic.{inl, inr}
use Rattle.std.proofs.Math.Bool.{true, false}
use Rattle.std.proofs.Math.Option.{Option, none}
use Rattle.std.proofs.Math.ListN.{length}
use Rattle.recipe.specs.Name.{Binding, macro, Name, distinct, is_ellipsis, is_wildcard}
use Rattle.recipe.specs.Tree.{Tree, element, bind_all}
use Rattle.core_term.specs.Term.{Term}
use Rattle.expansion.specs.Computation.{State, Out, add_macros}
use Rattle.expansion.specs.Forms.{first_names, keywords, rules_forms, bindings, expand_macros, expand}
use Rattle.simulation.specs.Relations.{ListRel, ends, joins}
use Rattle.simulation.proofs.RelationsLaws.{append-rel, map-rel, list-eq}
use Rattle.simulation.specs.Shapes.{TreeOf}
use Rattle.simulation.proofs.ShapesLaws.{tree_map, names-rel, element-rel}
use Rattle.simulation.specs.Names.Shown.{Renaming, of_copy}
use Rattle.simulation.proofs.Names.ShownLaws.{AllFine}
use Rattle.simulation.specs.Names.{Raw}
use Rattle.simulation.proofs.Lookups.{lookup-rel}
use Rattle.simulation.proofs.Formals.{TermRel}
use Rattle.simulation.proofs.StepsLaws.{privately}
use Rattle.simulation.specs.States.{StateRel}
use Rattle.simulation.proofs.StatesLaws.{macros-append}
use Rattle.simulation.specs.Outcomes.{events_of}
use Rattle.simulation.proofs.OutcomesLaws.{OutRel, Agree, bind-agree, tested_agree, test-agree, show-agree, goes-agree, get-agree}
use Rattle.simulation.proofs.FormsKept.{is_macros-rel, read_rules-by}
use Rattle.simulation.proofs.Agree.{expand-agree}
use Rattle.simulation.specs.Form.Holes.{Hole, here}
use Rattle.simulation.proofs.Form.HolesLaws.{hole-here, hole-tree, hole-elements, hole-at, hole-off}
use Rattle.simulation.specs.Form.Scopes.{Scope, rebind_all}
use Rattle.simulation.specs.Form.Places.{Still, InTemplate, ChosenRules}
use Rattle.simulation.proofs.Form.PlacesLaws.{still-dots, still-wild, template-dots, template-wild, Foreign, bind_all-still, bind_all-hole, rebind_all-foreign, AtRest, rest-coherent, rest-ready, rest_below, still-rel}
use Rattle.simulation.proofs.Form.ChosenRule.{FormRule, FormRules, form_rules-read, form_macros-rel}

-- the scope of a form's rules: letrec-syntax binds its names there too
unfoldable form_scope : Scope → (inside : Bool) → ℕ → Tree → Scope
form_scope β inside k F = cond inside (rebind_all macro k (keywords F) β) β

-- ---- what the form holds

module _ (ρ : Renaming) (β : Scope) where
  -- names that are both `...` or neither, and both `_` or neither
  abbrev Alike : Name → Name → Type 0
  Alike x y = (is_ellipsis x ≡ is_ellipsis y) × (is_wildcard x ≡ is_wildcard y)

  still_alike : (x y : Name) → Still ρ β x y → Alike x y
  still_alike x y s = (still-dots ρ β x y s, still-wild ρ β x y s)

  template-alike : (x y : Name) → InTemplate ρ β x y → Alike x y
  template-alike x y s = (template-dots ρ β x y s, template-wild ρ β x y s)

  pub hole-alike : {p : List ℕ} {t u : Tree} → Hole (Still ρ β) (ChosenRules ρ β) p t u → TreeOf Alike t u
  hole-alike r = hole-tree still_alike (λ t u c. hole-tree still_alike (λ t u q. tree_map template-alike q) c.hole) r

  -- an entry, (name rules)
  abbrev Entry : Tree → Tree → Type 0
  Entry t u = TreeOf (Still ρ β) t u ⊎ Hole (Still ρ β) (ChosenRules ρ β) (1 ∷ []) t u

  first_names-still : {ts us : List Tree} → ListRel Entry ts us → ListRel (Still ρ β) (first_names ts) (first_names us)
  unfolding first_names
  first_names-still ends = ends
  first_names-still (joins (inl r) rs) = append-rel (names-rel (element-rel 0 r)) (first_names-still rs)
  first_names-still (joins (inr r) rs) = append-rel (names-rel (hole-off r 0 (omega arith))) (first_names-still rs)

  module _ {b : ℕ} {F F' : Tree} (r : Hole (Still ρ β) (ChosenRules ρ β) (1 ∷ b ∷ 1 ∷ []) F F') where
    keywords-still : ListRel (Still ρ β) (keywords F) (keywords F')
    unfolding keywords
    keywords-still = first_names-still (hole-elements (hole-at r))

    rules_forms-hole : ListRel (FormRules ρ β) (rules_forms F) (rules_forms F')
    unfolding rules_forms
    rules_forms-hole = map-rel (element 1) (element 1) go (hole-elements (hole-at r))
      where
        go : (t u : Tree) → Entry t u → FormRules ρ β (element 1 t) (element 1 u)
        go t u (inl q) = inl (element-rel 1 q)
        go t u (inr q) = inr (hole-here (hole-at q))

    -- the rules forms as they are read
    scoped-hole : (inside : Bool) (k : ℕ) → distinct (keywords F) ≡ true → ListRel (FormRules ρ (form_scope β inside k F)) (map (cond inside (bind_all macro k (keywords F)) (λ r. r)) (rules_forms F)) (map (cond inside (bind_all macro k (keywords F')) (λ r. r)) (rules_forms F'))
    unfolding form_scope
    scoped-hole true k d = map-rel _ _ go rules_forms-hole
      where
        go : (t u : Tree) → FormRules ρ β t u → FormRules ρ (rebind_all macro k (keywords F) β) (bind_all macro k (keywords F) t) (bind_all macro k (keywords F') u)
        go t u (inl q) = inl (bind_all-still ρ macro (keywords F) (keywords F') k β keywords-still d q)
        go t u (inr c) = inr (hole-here (bind_all-hole ρ macro (keywords F) (keywords F') k β keywords-still d (here c)))
    scoped-hole false k d = map-rel _ _ (λ t u q. q) rules_forms-hole

    scope-foreign : Foreign ρ β → (inside : Bool) (k : ℕ) → AllFine ρ (bindings macro k (keywords F)) → Foreign ρ (form_scope β inside k F)
    unfolding form_scope
    scope-foreign h true k a = rebind_all-foreign ρ macro k β β keywords-still a h
    scope-foreign h false k a = h

-- ---- the form's outcome

module _ (ρ : Renaming) where
  -- a binding, unless it is of a copy's
  unfoldable foreign : Option Binding → Option Binding
  foreign b = cond (of_copy ρ b) none b

  none_free : of_copy ρ none ≡ false
  unfolding of_copy
  none_free = refl

  foreign-free : (b : Option Binding) → of_copy ρ (foreign b) ≡ false
  unfolding foreign
  foreign-free b = go (of_copy ρ b) refl
    where
      go : (c : Bool) → of_copy ρ b ≡ c → of_copy ρ (cond c none b) ≡ false
      go true e = none_free
      go false e = e

  foreign-eq : (b : Option Binding) → of_copy ρ b ≡ false → b ≡ foreign b
  unfolding foreign
  foreign-eq b e = rw e

  -- what the template's own names are bound to, in a scope
  raw_in : Scope → Raw ρ
  raw_in β = record { first = foreign (β ρ.old); second = foreign (β ρ.new); first-free = foreign-free (β ρ.old); second-free = foreign-free (β ρ.new) }

  -- outcomes that agree for some bindings of the template's own names
  pub record Joins {A : Type 0} (R : A → A → Type 0) (x y : Out A) : Type 1 where
    pub raw : Raw ρ
    pub outcomes : OutRel (privately ρ raw) 0 R x y

  abbrev pub Joined : Out (Term Name) → Out (Term Name) → Type 1
  Joined = Joins (TermRel ρ)

  module _ (limit inner : ℕ) (operations : List ℕ) (fuel gas : ℕ) (β : Scope) (free : Foreign ρ β) (inside : Bool) (x : Name) {b : ℕ} {F F' : Tree} (r : Hole (Still ρ β) (ChosenRules ρ β) (1 ∷ b ∷ 1 ∷ []) F F') (s : State) where
    abbrev γ : Scope
    γ = form_scope β inside (length s.macros) F

    form-steps : StateRel (privately ρ (raw_in γ)) 0 s s → Agree (privately ρ (raw_in γ)) 0 (TermRel ρ) (expand_macros limit operations fuel (expand inner operations fuel gas) inside x F s) (expand_macros limit operations fuel (expand inner operations fuel gas) inside x F' s)
    unfolding expand_macros add_macros raw_in
    form-steps q =
        let k = length s.macros in
        let w = keywords-still ρ β r in
        show-agree (privately ρ (raw_in γ)) 0 _ _ _ _ s s λ _.
        test-agree (privately ρ (raw_in γ)) 0 13 _ _ _ _ s s (is_macros-rel _ (λ x y a. a.0) (λ x y a. a.1) limit F F' (hole-alike ρ β r)) q
        (tested_agree (privately ρ (raw_in γ)) 0 14 _ _ _ _ s s (ap distinct (list-eq (λ x y a. a.eq) w)) q λ d.
        get-agree (privately ρ (raw_in γ)) 0 _ _ s s
        (show-agree (privately ρ (raw_in γ)) 0 _ _ _ _ s s λ fine.
        bind-agree (privately ρ (raw_in γ)) 0 {R = ListRel (ListRel (FormRule ρ γ))} _ _ _ _ s s
        (read_rules-by (privately ρ (raw_in γ)) 0 (FormRules ρ γ) (ListRel (FormRule ρ γ)) (λ t u a _. form_rules-read ρ γ t u a) (scoped-hole ρ β r inside k d) s s q)
        λ a c v v' e q'.
        goes-agree (privately ρ (raw_in γ)) 0 _ _ _ _ v v' _ _ _ _ refl refl
        (let h : Foreign ρ γ = scope-foreign ρ β r free inside k fine in
        expand-agree (privately ρ (raw_in γ)) operations operations (λ Q rd x y. lookup-rel ρ (raw_in γ) {Q = Q} rd operations x y) inner inner fuel gas 0 (AtRest ρ) (rest-coherent ρ) (rest-ready ρ) (rest_below ρ 0) _ _
        (tree_map (still-rel ρ (raw_in γ) (rebind_all macro k (keywords F) β) (rebind_all-foreign ρ macro k β β w fine free)) (bind_all-still ρ macro (keywords F) (keywords F') k β w d (hole-off r 2 (omega arith)))) _ _
        (record {
          enough = omega arith;
          steps = q'.steps;
          sum = q'.sum;
          variables = q'.variables;
          macros = macros-append (privately ρ (raw_in γ)) q'.macros (form_macros-rel ρ γ (raw_in γ) h (foreign-eq (γ ρ.old) (h ρ.old)) (foreign-eq (γ ρ.new) (h ρ.new)) (suc v.steps) e);
        }))))

    -- from a state whose macros have no private name (whatever the template's own names are bound to), the form comes to the same in both runs,
    -- where what the first shows is fine
    pub form-agree : ((raw : Raw ρ) → StateRel (privately ρ raw) 0 s s) → AllFine ρ (events_of (expand_macros limit operations fuel (expand inner operations fuel gas) inside x F s))
        → Joined (expand_macros limit operations fuel (expand inner operations fuel gas) inside x F s) (expand_macros limit operations fuel (expand inner operations fuel gas) inside x F' s)
    form-agree calm fine = record { raw = raw_in γ; outcomes = form-steps (calm (raw_in γ)) fine }
