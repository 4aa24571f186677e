-- Applications and `if` that hold the form of the private name further in, where expansion goes ahead with one unit of gas less.
use Rattle.std.specs.Prelude.{◌≡◌, refl, List, ◌∷◌}
use Rattle.std.proofs.Common.{subst, arith}
use Prim.Native.Nat.{ℕ, zero, suc, ◌≤◌}
use Rattle.recipe.specs.Name.{Name}
use Rattle.recipe.specs.Tree.{Tree, pair, element}
use Rattle.recipe.specs.TreeNames.{uses, uses-element}
use Rattle.core_term.specs.Term.{Term}
use Rattle.expansion.specs.Lookup.{lookup}
use Rattle.expansion.specs.Computation.{State, looked, M, ◌>>=◌}
use Rattle.expansion.specs.Forms.{expand_all, expand_if, expand_operands, expand_application, expand}
use Rattle.simulation.specs.Shapes.{TreeOf}
use Rattle.simulation.proofs.ShapesLaws.{tree_map, is_list_of-rel}
use Rattle.simulation.specs.Names.Shown.{Renaming, Fine}
use Rattle.simulation.specs.Names.{Ready, Raw, NameRel}
use Rattle.simulation.specs.Terms.{more_cs, if_cs, application_cs}
use Rattle.simulation.specs.Marks.{Kind}
use Rattle.simulation.proofs.Lookups.{lookup-rel}
use Rattle.simulation.proofs.Formals.{TermRel, TermsRel}
use Rattle.simulation.proofs.StepsLaws.{privately}
use Rattle.simulation.specs.States.{StateRel}
use Rattle.simulation.proofs.OutcomesLaws.{Agree, bind-agree, give-agree}
use Rattle.simulation.proofs.Agree as Both
use Rattle.simulation.specs.Form.Holes.{Hole, first, later}
use Rattle.simulation.proofs.Form.HolesLaws.{hole-at, hole-off}
use Rattle.simulation.specs.Form.Places.{Still, ChosenRules}
use Rattle.simulation.proofs.Form.PlacesLaws.{Foreign, AtRest, rest-coherent, rest-ready, rest_below, still-rel, still-eq, still-self}
use Rattle.simulation.specs.Form.Scopes.{Scope}
use Rattle.simulation.proofs.Form.{hole-alike}
use Rattle.private_names_proof.proofs.Reach.HeadsLaws.{Unheaded}
use Rattle.private_names_proof.proofs.Reach.{Unreached, give-unreached, bind-unreached, all-unreached, operands-unreached, if-unreached, expand-unreached}
use Rattle.private_names_proof.proofs.PathsLaws.{Headed, in-first, in-later, headed-uses, headed-element, unused-unheaded, other-unheaded}
use Rattle.private_names_proof.proofs.Before.Meeting.{Calm, no-raw, Meets, never, part-before, part-with, test-meets, place, Ahead}

module _ (ρ : Renaming) (p : ℕ) where
  module _ (limit inner : ℕ) (operations : List ℕ) (fuel gas b : ℕ) where
    abbrev pub rec : Tree → M (Term Name)
    rec = expand inner operations fuel gas

    pub rec-unreached : (t : Tree) → Unheaded p t → (s : State) → Unreached p (rec t s)
    rec-unreached = expand-unreached p inner inner operations fuel gas

    module _ (β : Scope) (free : Foreign ρ β) where
      -- parts that are still
      -- both runs find the same
      finds : (raw : Raw ρ) (Q : Kind) → Ready ρ Q → (x y : Name) → NameRel ρ raw Q x y → Fine ρ (looked x) → lookup operations x ≡ lookup operations y
      finds raw Q rd x y = lookup-rel ρ raw {Q = Q} rd operations x y

      part-agree : {t u : Tree} → TreeOf (Still ρ β) t u → (raw : Raw ρ) (s s' : State) → StateRel (privately ρ raw) 0 s s' → Agree (privately ρ raw) 0 (TermRel ρ) (rec t s) (rec u s')
      part-agree r raw s s' q = Both.expand-agree (privately ρ raw) operations operations (finds raw) inner inner fuel gas 0 (AtRest ρ) (rest-coherent ρ) (rest-ready ρ) (rest_below ρ 0) _ _ (tree_map (still-rel ρ raw β free) r) s s' q

      all-agree : {t u : Tree} → TreeOf (Still ρ β) t u → (raw : Raw ρ) (s s' : State) → StateRel (privately ρ raw) 0 s s' → Agree (privately ρ raw) 0 (TermsRel ρ) (expand_all limit operations fuel rec t s) (expand_all limit operations fuel rec u s')
      all-agree r raw = Both.all-agree (privately ρ raw) operations operations (finds raw) limit fuel rec rec (Both.expand-agree (privately ρ raw) operations operations (finds raw) inner inner fuel gas) 0 (AtRest ρ) (rest-coherent ρ) (rest-ready ρ) (rest_below ρ 0) (tree_map (still-rel ρ raw β free) r)

      operands-agree : {x y : Term Name} → TermRel ρ x y → {t u : Tree} → TreeOf (Still ρ β) t u → (raw : Raw ρ) (s s' : State) → StateRel (privately ρ raw) 0 s s'
          → Agree (privately ρ raw) 0 (TermRel ρ) (expand_operands limit operations fuel rec x t s) (expand_operands limit operations fuel rec y u s')
      operands-agree e r raw = Both.operands-agree (privately ρ raw) operations operations (finds raw) limit fuel rec rec (Both.expand-agree (privately ρ raw) operations operations (finds raw) inner inner fuel gas) 0 (AtRest ρ) (rest-coherent ρ) (rest-ready ρ) (rest_below ρ 0) _ _ e (tree_map (still-rel ρ raw β free) r)

      -- a part before the form
      tree-before : {B : Type 0} {P : B → B → Type 0} {t u : Tree} → TreeOf (Still ρ β) t u → Unheaded p t → (f g : Term Name → M B) (s : State) → Calm ρ p s
          → ((a : Term Name) (v : State) → TermRel ρ a a → Calm ρ p v → Meets ρ p P (f a v) (g a v)) → Meets ρ p P ((◌>>=◌ (rec t) f) s) ((◌>>=◌ (rec u) g) s)
      tree-before {B} {P} {t} {u} r n f g s calm k =
          subst (λ z. Meets ρ p P ((◌>>=◌ (rec t) f) s) ((◌>>=◌ (rec z) g) s)) (still-eq ρ β r)
          (part-before ρ p (λ raw. TermRel ρ) (rec t) f g s (rec-unreached t n s) (λ raw. part-agree (still-self ρ β r) raw s s (calm raw)) λ a v e c. k a v (e (no-raw ρ p)) c)

      module _ (ahead : Ahead ρ p b rec) where
        all-before : {k : ℕ} {l : List ℕ} {t t' : Tree} → Headed p (k ∷ l) t → uses p t ≤ 1 → Hole (Still ρ β) (ChosenRules ρ β) (k ∷ place ρ p b l) t t' → (s : State) → Calm ρ p s
            → Meets ρ p (TermsRel ρ) (expand_all limit operations fuel rec t s) (expand_all limit operations fuel rec t' s)
        unfolding expand_all uses
        all-before (in-first {l = l} {h = h} {t = t} i) u (first {h' = h'} r q) s calm =
            let n = (unused-unheaded p t (omega (arith, headed-uses p i))).1 in
            part-with ρ p {R = TermRel ρ} _ _ _ _ s s (ahead β free l h h' i (omega arith) r s calm)
            (λ a v. bind-unreached p _ _ v (all-unreached p limit operations fuel rec rec-unreached n v) λ c w. give-unreached p _ w)
            λ raw a c v v' e st.
            bind-agree (privately ρ raw) 0 {R = TermsRel ρ} _ _ _ _ v v' (all-agree q raw v v' st) λ d d' w w' e' st'.
            give-agree (privately ρ raw) 0 _ _ w w' (more_cs e e') st'
        all-before (in-later {h = h} i) u (later q r) s calm =
            tree-before q (unused-unheaded p h (omega (arith, headed-uses p i))).0 _ _ s calm λ a v e c.
            part-with ρ p {R = TermsRel ρ} _ _ _ _ v v (all-before i (omega arith) r v c)
            (λ d w. give-unreached p _ w)
            λ raw d d' w w' e' st.
            give-agree (privately ρ raw) 0 _ _ w w' (more_cs e e') st

        pub operands-before : {x : Term Name} → TermRel ρ x x → {k : ℕ} {l : List ℕ} {t t' : Tree} → Headed p (k ∷ l) t → uses p t ≤ 1 → Hole (Still ρ β) (ChosenRules ρ β) (k ∷ place ρ p b l) t t'
            → (s : State) → Calm ρ p s → Meets ρ p (TermRel ρ) (expand_operands limit operations fuel rec x t s) (expand_operands limit operations fuel rec x t' s)
        unfolding expand_operands
        operands-before e i u r s calm =
            part-with ρ p {R = TermsRel ρ} _ _ _ _ s s (all-before i u r s calm)
            (λ d w. give-unreached p _ w)
            λ raw d d' w w' e' st.
            give-agree (privately ρ raw) 0 _ _ w w' (application_cs e e') st

        -- an application with the form in its head, or after it
        pub application-first : {l : List ℕ} {h h' t t' : Tree} → Headed p l h → uses p (pair h t) ≤ 1 → Hole (Still ρ β) (ChosenRules ρ β) (place ρ p b l) h h' → TreeOf (Still ρ β) t t'
            → (s : State) → Calm ρ p s → Meets ρ p (TermRel ρ) (expand_application limit operations fuel rec h t s) (expand_application limit operations fuel rec h' t' s)
        unfolding expand_application uses
        application-first {l} {h} {h'} {t} i u r q s calm =
            let n = (unused-unheaded p t (omega (arith, headed-uses p i))).1 in
            part-with ρ p {R = TermRel ρ} _ _ _ _ s s (ahead β free l h h' i (omega arith) r s calm)
            (λ a v. operands-unreached p limit operations fuel rec rec-unreached a n v)
            λ raw a c v v' e st.
            operands-agree e q raw v v' st

        pub application-later : {k : ℕ} {l : List ℕ} {h h' t t' : Tree} → TreeOf (Still ρ β) h h' → Headed p (k ∷ l) t → uses p (pair h t) ≤ 1 → Hole (Still ρ β) (ChosenRules ρ β) (k ∷ place ρ p b l) t t'
            → (s : State) → Calm ρ p s → Meets ρ p (TermRel ρ) (expand_application limit operations fuel rec h t s) (expand_application limit operations fuel rec h' t' s)
        unfolding expand_application uses
        application-later {h = h} q i u r s calm =
            tree-before q (unused-unheaded p h (omega (arith, headed-uses p i))).0 _ _ s calm λ a v e c.
            operands-before e i (omega arith) r v c

        -- (if a b c)
        pub if-before : (k : ℕ) {l : List ℕ} {t t' : Tree} → Headed p (k ∷ l) t → uses p t ≤ 1 → Hole (Still ρ β) (ChosenRules ρ β) (k ∷ place ρ p b l) t t'
            → (s : State) → Calm ρ p s → (k ≡ 0 → ⊥) → Meets ρ p (TermRel ρ) (expand_if limit operations fuel rec t s) (expand_if limit operations fuel rec t' s)
        unfolding expand_if
        if-before zero i u r s calm d = absurd (d refl)
        if-before (suc zero) {l} {t} {t'} i u r s calm d =
            test-meets ρ p 13 _ _ _ _ s s (is_list_of-rel 4 (hole-alike ρ β r)) λ _.
            part-with ρ p {R = TermRel ρ} _ _ _ _ s s (ahead β free l (element 1 t) (element 1 t') (headed-element p i) (omega (arith, uses-element p 1 t)) (hole-at r) s calm)
            (λ a v. bind-unreached p _ _ v (rec-unreached _ (other-unheaded p i u 2 (omega arith)) v) λ c w. bind-unreached p _ _ w (rec-unreached _ (other-unheaded p i u 3 (omega arith)) w) λ e z. give-unreached p _ z)
            λ raw a a' v v' e st.
            bind-agree (privately ρ raw) 0 {R = TermRel ρ} _ _ _ _ v v' (part-agree (hole-off r 2 (omega arith)) raw v v' st) λ c c' w w' e' st'.
            bind-agree (privately ρ raw) 0 {R = TermRel ρ} _ _ _ _ w w' (part-agree (hole-off r 3 (omega arith)) raw w w' st') λ f f' z z' e'' st''.
            give-agree (privately ρ raw) 0 _ _ z z' (if_cs e e' e'') st''
        if-before (suc (suc zero)) {l} {t} {t'} i u r s calm d =
            test-meets ρ p 13 _ _ _ _ s s (is_list_of-rel 4 (hole-alike ρ β r)) λ _.
            tree-before (hole-off r 1 (omega arith)) (other-unheaded p i u 1 (omega arith)) _ _ s calm λ a v e calm'.
            part-with ρ p {R = TermRel ρ} _ _ _ _ v v (ahead β free l (element 2 t) (element 2 t') (headed-element p i) (omega (arith, uses-element p 2 t)) (hole-at r) v calm')
            (λ c w. bind-unreached p _ _ w (rec-unreached _ (other-unheaded p i u 3 (omega arith)) w) λ e z. give-unreached p _ z)
            λ raw c c' w w' e' st.
            bind-agree (privately ρ raw) 0 {R = TermRel ρ} _ _ _ _ w w' (part-agree (hole-off r 3 (omega arith)) raw w w' st) λ f f' z z' e'' st'.
            give-agree (privately ρ raw) 0 _ _ z z' (if_cs e e' e'') st'
        if-before (suc (suc (suc zero))) {l} {t} {t'} i u r s calm d =
            test-meets ρ p 13 _ _ _ _ s s (is_list_of-rel 4 (hole-alike ρ β r)) λ _.
            tree-before (hole-off r 1 (omega arith)) (other-unheaded p i u 1 (omega arith)) _ _ s calm λ a v e calm'.
            tree-before (hole-off r 2 (omega arith)) (other-unheaded p i u 2 (omega arith)) _ _ v calm' λ c w e' calm''.
            part-with ρ p {R = TermRel ρ} _ _ _ _ w w (ahead β free l (element 3 t) (element 3 t') (headed-element p i) (omega (arith, uses-element p 3 t)) (hole-at r) w calm'')
            (λ f z. give-unreached p _ z)
            λ raw f f' z z' e'' st.
            give-agree (privately ρ raw) 0 _ _ z z' (if_cs e e' e'') st
        if-before (suc (suc (suc (suc k)))) {t = t} i u r s calm d =
            never ρ p (if-unreached p limit operations fuel rec rec-unreached t (other-unheaded p i u 1 (omega arith)) (other-unheaded p i u 2 (omega arith)) (other-unheaded p i u 3 (omega arith)) s)
