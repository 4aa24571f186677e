-- Two related trees, in states that agree, come to the same ground, counts and alike terms: `expand-agree`. Whatever the likeness is.
-- One law for each form, and one induction on gas.
use Rattle.std.specs.Prelude.{◌≡◌, Bool, cond}
use Rattle.std.proofs.Math.Path.{refl, ap, ap₂, subst}
use Rattle.std.proofs.Math.Logic.{inl, inr}
use Rattle.std.proofs.Math.Bool.{true, false}
use mathlib.Core.List.{List, [], ◌∷◌, map}
use Prim.Native.Nat.{ℕ, zero, suc, ◌+◌}
use Rattle.std.proofs.Common.{arith}
use Rattle.std.proofs.Math.Dec.{leb}
use Rattle.std.proofs.Math.ListN.{length}
use Rattle.words.specs.Each.{also}
use Rattle.recipe.specs.Name.{variable, macro, Name}
use Rattle.recipe.specs.Tree.{Tree, name, pair, element, tail, mark, produce, bind_all}
use Rattle.core_term.specs.Term.{Term}
use Rattle.expansion.specs.Lookup.{quote, if, lambda, let-syntax, letrec-syntax, auxiliary, Found, bound, form, operation, nothing, lookup}
use Rattle.expansion.specs.Transcribe.{transcribe}
use Rattle.expansion.specs.Computation.{looked, M, add_variables, add_macros, add_step}
use Rattle.expansion.specs.Forms.{formals, keywords, rules_forms, expand_all, expand_quote, expand_if, expand_lambda, expand_macros, expand_use, expand_operands, expand_list, expand_name, expand_application, expand_pair, expand_tree, expand_within, expand}
use Rattle.simulation.specs.Relations.{ListRel}
use Rattle.simulation.proofs.RelationsLaws.{length-rel, list-map, map-rel}
use Rattle.simulation.specs.Shapes.{empties, constants, names₂, pairs, RuleOf}
use Rattle.simulation.proofs.ShapesLaws.{tree_map, size-rel, names-rel, is_list_of-rel, element-rel, tail-rel}
use Rattle.simulation.proofs.MatchKept.{equal_lengths-rel, transcribe-rel}
use Rattle.simulation.specs.Marks.{Kind, Below, Marked, Produced, Transcribed, Result}
use Rattle.simulation.proofs.MarksLaws.{older-le, result-is, result-below}
use Rattle.simulation.specs.Terms.{constant_ds, none_cs, more_cs, variable_cs, operation_cs, datum_cs, if_cs, application_cs}
use Rattle.simulation.proofs.TermsLaws.{lambda_cs-eq}
use Rattle.simulation.specs.Likeness.{Likeness}
use Rattle.simulation.proofs.LikenessLaws.{TreeRel, AllFine, AlikeTerm, AlikeTerms}
use Rattle.simulation.proofs.StatesLaws.{macros-up, macros-length, macros-append, macro-at, new-macros}
use Rattle.simulation.proofs.OutcomesLaws.{starvations, Agree, Agrees, earlier, bind-agree, give-agree, refuse-agree, test-agree, show-agree, goes-agree, get-agree, or_rule-agree}
use Rattle.simulation.proofs.FormsKept.{is_lambda-rel, is_macros-rel, keywords-rel, rules_forms-rel, mark-tree, produce-tree, bind_all-rel, strip-rel, distinct-names, read_rules-agree, first_fit-rel, scoped-rel}

-- both runs find the same, each among its operations
module _ (L : Likeness) (operations operations' : List ℕ) (finds : (Q : Kind) → L.Ready Q → (x y : Name) → L.Rel Q x y → L.Fine (looked x) → lookup operations x ≡ lookup operations' y) where
  -- ---- the forms, where expansion keeps the relation

  module _ (limit fuel : ℕ) (rec rec' : Tree → M (Term Name))
      (good : (k : ℕ) (Q : Kind) → L.Coherent Q → L.Ready Q → Below k Q → (t u : Tree) → TreeRel L Q t u → Agrees L k (AlikeTerm L) (rec t) (rec' u))
      (k : ℕ) (Q : Kind) (co : L.Coherent Q) (rd : L.Ready Q) (be : Below k Q) where
    pub all-agree : {t u : Tree} → TreeRel L Q t u → Agrees L k (AlikeTerms L) (expand_all limit operations fuel rec t) (expand_all limit operations' fuel rec' u)
    unfolding expand_all
    all-agree empties s s' q = give-agree L k _ _ s s' none_cs q
    all-agree constants s s' q = give-agree L k _ _ s s' none_cs q
    all-agree (names₂ r) s s' q = give-agree L k _ _ s s' none_cs q
    all-agree (pairs p r) s s' q =
        bind-agree L k {R = AlikeTerm L} _ _ _ _ s s' (good k Q co rd be _ _ p s s' q) λ v w u u' e q'.
        bind-agree L k {R = AlikeTerms L} _ _ _ _ u u' (all-agree r u u' q') λ v' w' z z' e' q''.
        give-agree L k _ _ z z' (more_cs e e') q''

    pub operands-agree : (a b : Term Name) → AlikeTerm L a b → {t u : Tree} → TreeRel L Q t u → Agrees L k (AlikeTerm L) (expand_operands limit operations fuel rec a t) (expand_operands limit operations' fuel rec' b u)
    unfolding expand_operands
    operands-agree a b e r s s' q =
        bind-agree L k {R = AlikeTerms L} _ _ _ _ s s' (all-agree r s s' q) λ v w u u' e' q'.
        give-agree L k _ _ u u' (application_cs e e') q'

    application-agree : {a b t u : Tree} → TreeRel L Q a b → TreeRel L Q t u → Agrees L k (AlikeTerm L) (expand_application limit operations fuel rec a t) (expand_application limit operations' fuel rec' b u)
    unfolding expand_application
    application-agree p r s s' q =
        bind-agree L k {R = AlikeTerm L} _ _ _ _ s s' (good k Q co rd be _ _ p s s' q) λ v w u u' e q'.
        operands-agree v w e r u u' q'

    quote-agree : {t u : Tree} → TreeRel L Q t u → Agrees L k (AlikeTerm L) (expand_quote limit operations fuel rec t) (expand_quote limit operations' fuel rec' u)
    unfolding expand_quote
    quote-agree r s s' q =
        test-agree L k 13 _ _ _ _ s s' (is_list_of-rel 2 r) q
        (show-agree L k _ _ _ _ s s' λ fine.
        give-agree L k _ _ s s' (datum_cs (strip-rel L Q rd (element-rel 1 r) fine)) q)

    if-agree : {t u : Tree} → TreeRel L Q t u → Agrees L k (AlikeTerm L) (expand_if limit operations fuel rec t) (expand_if limit operations' fuel rec' u)
    unfolding expand_if
    if-agree r s s' q =
        test-agree L k 13 _ _ _ _ s s' (is_list_of-rel 4 r) q
        (bind-agree L k {R = AlikeTerm L} _ _ _ _ s s' (good k Q co rd be _ _ (element-rel 1 r) s s' q) λ a a' u u' e q'.
        bind-agree L k {R = AlikeTerm L} _ _ _ _ u u' (good k Q co rd be _ _ (element-rel 2 r) u u' q') λ b b' v v' e' q''.
        bind-agree L k {R = AlikeTerm L} _ _ _ _ v v' (good k Q co rd be _ _ (element-rel 3 r) v v' q'') λ c c' w w' e'' p.
        give-agree L k _ _ w w' (if_cs e e' e'') p)

    lambda-agree : {t u : Tree} → TreeRel L Q t u → Agrees L k (AlikeTerm L) (expand_lambda limit operations fuel rec t) (expand_lambda limit operations' fuel rec' u)
    unfolding expand_lambda formals add_variables
    lambda-agree {t} {u} r s s' q =
        let f = names-rel (element-rel 1 r) in
        test-agree L k 13 _ _ _ _ s s' (is_lambda-rel (L.Rel Q) (L.dots-rel Q) (L.wild-rel Q) _ _ r) q
        (test-agree L k 14 _ _ _ _ s s' (distinct-names L Q co f) q
        (get-agree L k _ _ s s'
        (show-agree L k _ _ _ _ s s' λ fine.
        goes-agree L k _ _ _ _ s s' _ _ _ _ refl refl
        (bind-agree L k {R = AlikeTerm L} _ _ _ _ _ _
        (good k Q co rd be _ _ (subst (λ z. TreeRel L Q (bind_all variable s.variables (formals t) (element 2 t)) (bind_all variable z (formals u) (element 2 u))) q.variables (bind_all-rel L Q co rd variable s.variables f fine (element-rel 2 r))) _ _
        (record { enough = q.enough; steps = q.steps; sum = q.sum; variables = ap₂ ◌+◌ q.variables (length-rel f); macros = q.macros }))
        λ a b y y' e q''.
        give-agree L k _ _ y y' (lambda_cs-eq q.variables (list-map (L.formal-rel Q rd) f) e) q''))))

    macros-agree : (inside : Bool) (x y : Name) {t u : Tree} → TreeRel L Q t u → Agrees L k (AlikeTerm L) (expand_macros limit operations fuel rec inside x t) (expand_macros limit operations' fuel rec' inside y u)
    unfolding expand_macros add_macros
    macros-agree inside x y {t} {u} r s s' q =
        let j = length s.macros in
        let w = keywords-rel r in
        show-agree L k _ _ _ _ s s' λ _.
        test-agree L k 13 _ _ _ _ s s' (is_macros-rel (L.Rel Q) (L.dots-rel Q) (L.wild-rel Q) limit _ _ r) q
        (test-agree L k 14 _ _ _ _ s s' (distinct-names L Q co w) q
        (get-agree L k _ _ s s'
        (show-agree L k _ _ _ _ s s' λ fine.
        bind-agree L k {R = ListRel (ListRel (RuleOf (L.Rel Q) (L.Rel Q)))} _ _ _ _ s s'
        (read_rules-agree L k Q co rd (subst (λ z. ListRel (TreeRel L Q) (map (cond inside (bind_all macro j (keywords t)) (λ r. r)) (rules_forms t)) (map (cond inside (bind_all macro z (keywords u)) (λ r. r)) (rules_forms u))) (macros-length L q.macros)
        (map-rel _ _ (scoped-rel L Q co rd inside j w fine) (rules_forms-rel r))) s s' q)
        λ a b v v' e q'.
        goes-agree L k _ _ _ _ v v' _ _ _ _ refl refl
        (good k Q co rd be _ _ (subst (λ z. TreeRel L Q (bind_all macro j (keywords t) (element 2 t)) (bind_all macro z (keywords u) (element 2 u))) (macros-length L q.macros) (bind_all-rel L Q co rd macro j w fine (element-rel 2 r))) _ _
        (record {
          enough = q'.enough;
          steps = q'.steps;
          sum = q'.sum;
          variables = q'.variables;
          macros = macros-append L q'.macros (new-macros L _ Q co rd (λ j i b ms x. older-le k _ ms q'.enough (be j i b ms x)) e);
        })))))

    use-agree : (j : ℕ) {t u : Tree} → TreeRel L Q t u → Agrees L k (AlikeTerm L) (expand_use limit operations fuel rec j t) (expand_use limit operations' fuel rec' j u)
    unfolding expand_use add_step
    use-agree j {t} {u} r s s' q =
        let m = suc s.steps in
        let m' = suc s'.steps in
        let me : m ≡ m' = ap suc q.steps in
        let be' : Below m Q = λ j i b ms x. older-le k m ms q.enough (be j i b ms x) in
        let used : TreeRel L (Marked m Q) (tail (mark m t)) (tail (mark m' u)) = tail-rel (subst (λ i. TreeRel L (Marked m Q) (mark m t) (mark i u)) me (mark-tree L Q m r)) in
        get-agree L k _ _ s s'
        (show-agree L k _ _ _ _ s s' λ fine.
        or_rule-agree L k m 16 (first_fit-rel L m (Marked m Q) (L.marked-ready m Q rd) (macro-at L q.macros j) _ _ used fine) _ _ s s' q λ a b hit.
        test-agree L k 17 _ _ _ _ s s' (equal_lengths-rel hit.pattern used [] hit.template) q
        (let K : Kind = hit.kind in
        let w : TreeRel L (Transcribed m K Q) (transcribe a.pattern (tail (mark m t)) [] a.template) (transcribe b.pattern (tail (mark m' u)) [] b.template) =
        transcribe-rel hit.pattern used (L.Rel (Transcribed m K Q)) (L.map-rel K (Transcribed m K Q) (λ _ _ _ _ x. inl x)) (L.map-rel (Marked m Q) (Transcribed m K Q) (λ _ _ _ _ x. inr x)) [] hit.template in
        let result = tree_map (L.map-rel (Produced (Marked m (Transcribed m K Q))) (Result m K Q) (result-is m K Q hit.below be')) (produce-tree L (Marked m (Transcribed m K Q)) (mark-tree L (Transcribed m K Q) m w)) in
        test-agree L k 18 _ _ _ _ s s' (ap₂ (λ a b. leb (a + b) fuel) q.sum (size-rel w)) q
        (goes-agree L k _ _ _ _ s s' _ _ _ _ refl refl
        λ fine'. earlier L k (suc m) (omega (arith, q.enough))
        (good (suc m) (Result m K Q) (L.result-coherent m K Q hit.below be' hit.coherent co) (L.result-ready m K Q) (result-below m K Q hit.below be') _ _
        (subst (λ i. TreeRel L (Result m K Q) (produce (mark m (transcribe a.pattern (tail (mark m t)) [] a.template))) (produce (mark i (transcribe b.pattern (tail (mark m' u)) [] b.template)))) me result) _ _
        (record { enough = omega arith; steps = ap suc q.steps; sum = ap₂ ◌+◌ q.sum (size-rel w); variables = q.variables; macros = macros-up L m (suc m) (omega arith) q.macros }) fine'))))

    -- ---- by what the head finds

    list-agree : (f : Found) (x y : Name) {t u : Tree} → TreeRel L Q t u → Agrees L k (AlikeTerm L) (expand_list limit operations fuel rec f x t) (expand_list limit operations' fuel rec' f y u)
    unfolding expand_list
    list-agree (bound (variable n)) x y r s s' q = operands-agree _ _ variable_cs (tail-rel r) s s' q
    list-agree (bound (macro n)) x y r s s' q = use-agree n r s s' q
    list-agree (form quote) x y r s s' q = quote-agree r s s' q
    list-agree (form if) x y r s s' q = if-agree r s s' q
    list-agree (form lambda) x y r s s' q = lambda-agree r s s' q
    list-agree (form let-syntax) x y r s s' q = macros-agree false x y r s s' q
    list-agree (form letrec-syntax) x y r s s' q = macros-agree true x y r s s' q
    list-agree (form auxiliary) x y r s s' q = refuse-agree L k 12 s s' q
    list-agree (operation p) x y r s s' q = operands-agree _ _ operation_cs (tail-rel r) s s' q
    list-agree nothing x y r s s' q = refuse-agree L k 11 s s' q

    name_agree : (f : Found) → Agrees L k (AlikeTerm L) (expand_name limit operations fuel rec f) (expand_name limit operations' fuel rec' f)
    unfolding expand_name
    name_agree (bound (variable n)) s s' q = give-agree L k _ _ s s' variable_cs q
    name_agree (bound (macro n)) s s' q = refuse-agree L k 12 s s' q
    name_agree (form f) s s' q = refuse-agree L k 12 s s' q
    name_agree (operation p) s s' q = give-agree L k _ _ s s' operation_cs q
    name_agree nothing s s' q = refuse-agree L k 11 s s' q

    head-fine : (x : Name) → AllFine L (looked x ∷ []) → L.Fine (looked x)
    head-fine x (also f a) = f

    pair-agree : {a b t u : Tree} → TreeRel L Q a b → TreeRel L Q t u → Agrees L k (AlikeTerm L) (expand_pair limit operations fuel rec a t) (expand_pair limit operations' fuel rec' b u)
    unfolding expand_pair
    pair-agree empties r s s' q = application-agree empties r s s' q
    pair-agree constants r s s' q = application-agree constants r s s' q
    pair-agree {t = t} {u = u} (names₂ {x = x} {y = y} p) r s s' q = show-agree L k _ _ _ _ s s' λ fine.
        subst (λ f. Agree L k (AlikeTerm L) (expand_list limit operations fuel rec (lookup operations x) x (pair (name x) t) s) (expand_list limit operations' fuel rec' f y (pair (name y) u) s')) (finds Q rd x y p (head-fine x fine))
        (list-agree (lookup operations x) x y (pairs (names₂ p) r) s s' q)
    pair-agree (pairs c d) r s s' q = application-agree (pairs c d) r s s' q

    tree-agree : (t u : Tree) → TreeRel L Q t u → Agrees L k (AlikeTerm L) (expand_tree limit operations fuel rec t) (expand_tree limit operations' fuel rec' u)
    unfolding expand_tree
    tree-agree _ _ empties s s' q = refuse-agree L k 13 s s' q
    tree-agree _ _ constants s s' q = give-agree L k _ _ s s' (datum_cs constant_ds) q
    tree-agree _ _ (names₂ {x = x} {y = y} p) s s' q = show-agree L k _ _ _ _ s s' λ fine.
        subst (λ f. Agree L k (AlikeTerm L) (expand_name limit operations fuel rec (lookup operations x) s) (expand_name limit operations' fuel rec' f s')) (finds Q rd x y p (head-fine x fine))
        (name_agree (lookup operations x) s s' q)
    tree-agree _ _ (pairs a b) s s' q = pair-agree a b s s' q

  -- ---- any expression

  pub expand-agree : (limit inner fuel gas k : ℕ) (Q : Kind) → L.Coherent Q → L.Ready Q → Below k Q → (t u : Tree) → TreeRel L Q t u
      → Agrees L k (AlikeTerm L) (expand_within limit inner operations fuel gas t) (expand_within limit inner operations' fuel gas u)
  unfolding expand_within
  expand-agree limit inner fuel zero k Q co rd b t u r s s' q = λ fine. starvations
  expand-agree limit inner fuel (suc gas) k Q co rd b t u r s s' q =
      tree-agree limit fuel (expand inner operations fuel gas) (expand inner operations' fuel gas) (expand-agree inner inner fuel gas) k Q co rd b t u r s s' q
