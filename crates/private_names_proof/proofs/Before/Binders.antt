-- Forms that bind, `lambda` and those of macros, that hold the form of the private name in their body.
use Rattle.std.specs.Prelude.{◌≡◌, Bool, false, ◌||◌, cond, List, [], ◌∷◌, map}
use Rattle.std.proofs.Math.Path.{refl, ap, subst₂}
use Rattle.std.proofs.Common.{sym, subst, arith}
use Prim.Native.Nat.{ℕ, zero, suc, ◌≤◌}
use Rattle.std.proofs.Math.ListN.{length}
use Rattle.words.specs.Lists.{any_of}
use Rattle.recipe.specs.Name.{variable, macro, Name, distinct}
use Rattle.recipe.specs.Tree.{Tree, empty, pair, names, elements, element, bind_all}
use Rattle.recipe.specs.TreeNames.{uses, uses-element, uses-bind_all}
use Rattle.core_term.specs.Term.{Term, lambda_c}
use Rattle.expansion.specs.Computation.{State, reached, M, ◌>>=◌, ◌>>◌, give, show, test, get, add_variables, add_macros}
use Rattle.expansion.specs.Forms.{is_lambda, formals, is_macros, first_names, keywords, rules_forms, bindings, read_rules, expand_lambda, expand_macros, expand}
use Rattle.private_names.specs.Statement.{is_reached_at}
use Rattle.simulation.specs.Relations.{ListRel, ends, joins}
use Rattle.simulation.proofs.RelationsLaws.{map-rel, list-map}
use Rattle.simulation.specs.Shapes.{TreeOf, empties, pairs, RuleOf}
use Rattle.simulation.proofs.ShapesLaws.{tree_map, names-rel}
use Rattle.simulation.specs.Names.Shown.{Renaming}
use Rattle.simulation.proofs.Names.ShownLaws.{not-private-not-copy, AllFine}
use Rattle.simulation.specs.Names.{Raw, NameRel}
use Rattle.simulation.proofs.LikenessLaws.{TreeRel}
use Rattle.simulation.specs.Terms.{lambda_cs}
use Rattle.simulation.proofs.Formals.{TermRel, FormalRel, same-formal}
use Rattle.simulation.proofs.StepsLaws.{privately}
use Rattle.simulation.proofs.StatesLaws.{macros-append, new-macros}
use Rattle.simulation.proofs.OutcomesLaws.{give-agree}
use Rattle.simulation.proofs.FormsKept.{is_lambda-rel, is_macros-rel, keywords-rel, rules_forms-rel, read_rules-agree, scoped-rel}
use Rattle.simulation.proofs.Agree as Both
use Rattle.simulation.specs.Form.Holes.{Hole}
use Rattle.simulation.proofs.Form.HolesLaws.{hole-at, hole-off}
use Rattle.simulation.specs.Form.Places.{Still, ChosenRules}
use Rattle.simulation.proofs.Form.PlacesLaws.{Foreign, bind_all-hole, rebind_all-foreign, AtRest, rest-coherent, rest-ready, rest_below, still-rel, still-eq, still-self}
use Rattle.simulation.specs.Form.Scopes.{Scope, rebind_all}
use Rattle.simulation.proofs.Form.{hole-alike}
use Rattle.private_names_proof.specs.Reach.Heads.{is_at}
use Rattle.private_names_proof.proofs.Reach.{give-unreached, bindings-none, read-unreached, lambda-unreached, macros-unreached}
use Rattle.private_names_proof.proofs.PathsLaws.{Headed, headed-element, headed-bind_all, other-unheaded}
use Rattle.private_names_proof.proofs.Before.Meeting.{Calm, Meets, never, part-before, part-with, test-meets, show-meets, goes-meets, get_meets, place, Ahead}
use Rattle.private_names_proof.proofs.Before.Forms.{rec-unreached}

module _ (ρ : Renaming) (p : ℕ) (limit inner : ℕ) (operations : List ℕ) (fuel gas b : ℕ) where
  abbrev rec : Tree → M (Term Name)
  rec = expand inner operations fuel gas

  module _ (β : Scope) (free : Foreign ρ β) (ahead : Ahead ρ p b rec) where
    still-names : {t u : Tree} → TreeOf (Still ρ β) t u → ListRel (Still ρ β) (names t) (names t)
    still-names r = names-rel (still-self ρ β r)

    formals-rel : {xs ys : List Name} → ListRel (Still ρ β) xs ys → ListRel (FormalRel ρ) xs xs
    formals-rel ends = ends
    formals-rel (joins {x = x} s ss) = joins (same-formal (not-private-not-copy ρ x s.not-private) refl) (formals-rel ss)

    -- (lambda xs body), with its shape's test
    lambda_of : Bool → List Name → Tree → M (Term Name)
    lambda_of c xs body = do
      test 13 c
      test 14 (distinct xs)
      s ← get
      show (bindings variable s.variables xs)
      add_variables (length xs)
      a ← rec (bind_all variable s.variables xs body)
      give (lambda_c s.variables xs a)

    lambda-is : (t : Tree) → expand_lambda limit operations fuel rec t ≡ lambda_of (is_lambda t) (formals t) (element 2 t)
    unfolding expand_lambda lambda_of
    lambda-is t = refl

    lambda-body : (c : Bool) (xs : List Name) → ListRel (Still ρ β) xs xs → {l : List ℕ} {t t' : Tree} → Headed p l t → uses p t ≤ 1 → Hole (Still ρ β) (ChosenRules ρ β) (place ρ p b l) t t'
        → (s : State) → Calm ρ p s → Meets ρ p (TermRel ρ) (lambda_of c xs t s) (lambda_of c xs t' s)
    unfolding lambda_of add_variables
    lambda-body c xs w {l} {t} {t'} i u r s calm =
        let k = s.variables in
        test-meets ρ p 13 _ _ _ _ s s refl λ _.
        test-meets ρ p 14 _ _ _ _ s s refl λ d.
        get_meets ρ p _ _ s s
        (show-meets ρ p _ _ _ _ s s (bindings-none p variable k xs) λ fine.
        goes-meets ρ p _ _ _ _ s s _ _ refl refl
        (part-with ρ p {R = TermRel ρ} _ _ _ _ _ _
        (ahead (rebind_all variable k xs β) (rebind_all-foreign ρ variable k β β w fine free) l _ _ (headed-bind_all p variable k xs i) (omega (arith, uses-bind_all p variable k xs t)) (bind_all-hole ρ variable xs xs k β w d r) _
        (λ raw. record { enough = omega arith; steps = refl; sum = refl; variables = refl; macros = (calm raw).macros }))
        (λ a v. give-unreached p _ v)
        λ raw a a' v v' e st.
        give-agree (privately ρ raw) 0 _ _ v v' (lambda_cs (formals-rel w) e) st))

    pub lambda-before : (k : ℕ) {l : List ℕ} {t t' : Tree} → Headed p (k ∷ l) t → uses p t ≤ 1 → Hole (Still ρ β) (ChosenRules ρ β) (k ∷ place ρ p b l) t t'
        → (s : State) → Calm ρ p s → Meets ρ p (TermRel ρ) (expand_lambda limit operations fuel rec t s) (expand_lambda limit operations fuel rec t' s)
    unfolding formals
    lambda-before zero {t = t} i u r s calm = never ρ p (lambda-unreached p limit operations fuel rec (rec-unreached ρ p limit inner operations fuel gas b) t (other-unheaded p i u 2 (omega arith)) s)
    lambda-before (suc zero) {t = t} i u r s calm = never ρ p (lambda-unreached p limit operations fuel rec (rec-unreached ρ p limit inner operations fuel gas b) t (other-unheaded p i u 2 (omega arith)) s)
    lambda-before (suc (suc (suc k))) {t = t} i u r s calm = never ρ p (lambda-unreached p limit operations fuel rec (rec-unreached ρ p limit inner operations fuel gas b) t (other-unheaded p i u 2 (omega arith)) s)
    lambda-before (suc (suc zero)) {t = t} {t' = t'} i u r s calm =
        let e : is_lambda t ≡ is_lambda t' = is_lambda-rel _ (λ x y a. a.0) (λ x y a. a.1) t t' (hole-alike ρ β r) in
        let f : formals t ≡ formals t' = ap names (still-eq ρ β (hole-off r 1 (omega arith))) in
        subst₂ (λ m m'. Meets ρ p (TermRel ρ) (m s) (m' s)) (sym (lambda-is t)) (sym (lambda-is t'))
        (subst₂ (λ c xs. Meets ρ p (TermRel ρ) (lambda_of (is_lambda t) (formals t) (element 2 t) s) (lambda_of c xs (element 2 t') s)) e f
        (lambda-body (is_lambda t) (formals t) (still-names (hole-off r 1 (omega arith))) (headed-element p i) (omega (arith, uses-element p 2 t)) (hole-at r) s calm))

    -- (let-syntax entries body), by its names, rules forms and body, with its shape's test
    macros_of : Bool → Name → Bool → List Name → List Tree → Tree → M (Term Name)
    macros_of inside x c ks rs body = do
      show (reached x ∷ [])
      test 13 c
      test 14 (distinct ks)
      s ← get
      let scoped = bind_all macro (length s.macros) ks
      show (bindings macro (length s.macros) ks)
      rules ← read_rules (map (cond inside scoped (λ r. r)) rs)
      add_macros rules
      rec (scoped body)

    macros-is : (inside : Bool) (x : Name) (t : Tree) → expand_macros limit operations fuel rec inside x t ≡ macros_of inside x (is_macros limit t) (keywords t) (rules_forms t) (element 2 t)
    unfolding expand_macros macros_of
    macros-is inside x t = refl

    -- rules forms in the scope of their form's names
    scoped-still : (raw : Raw ρ) (inside : Bool) (k : ℕ) {ks : List Name} → ListRel (Still ρ β) ks ks → AllFine ρ (bindings macro k ks) → {rs : List Tree} → ListRel (TreeOf (Still ρ β)) rs rs
        → ListRel (TreeRel (privately ρ raw) (AtRest ρ)) (map (cond inside (bind_all macro k ks) (λ r. r)) rs) (map (cond inside (bind_all macro k ks) (λ r. r)) rs)
    scoped-still raw inside k w fine r =
        map-rel _ _ (scoped-rel (privately ρ raw) (AtRest ρ) (rest-coherent ρ) (rest-ready ρ) inside k (list-map (still-rel ρ raw β free) w) fine) (list-map (λ t u q. tree_map (still-rel ρ raw β free) q) r)

    macros-body : (inside : Bool) (x : Name) → is_at p x ≡ false → (c : Bool) (ks : List Name) → ListRel (Still ρ β) ks ks → (rs : List Tree) → ListRel (TreeOf (Still ρ β)) rs rs
        → {l : List ℕ} {t t' : Tree} → Headed p l t → uses p t ≤ 1 → Hole (Still ρ β) (ChosenRules ρ β) (place ρ p b l) t t'
        → (s : State) → Calm ρ p s → Meets ρ p (TermRel ρ) (macros_of inside x c ks rs t s) (macros_of inside x c ks rs t' s)
    unfolding macros_of add_macros any_of is_reached_at is_at
    macros-body inside x a c ks w rs q {l} {t} {t'} i u r s calm =
        let k = length s.macros in
        show-meets ρ p _ _ _ _ s s (ap (λ b. b || false) a) λ _.
        test-meets ρ p 13 _ _ _ _ s s refl λ _.
        test-meets ρ p 14 _ _ _ _ s s refl λ d.
        get_meets ρ p _ _ s s
        (show-meets ρ p _ _ _ _ s s (bindings-none p macro k ks) λ fine.
        part-before ρ p (λ raw. ListRel (ListRel (RuleOf (NameRel ρ raw (AtRest ρ)) (NameRel ρ raw (AtRest ρ))))) _ _ _ s (read-unreached p _ s)
        (λ raw. read_rules-agree (privately ρ raw) 0 (AtRest ρ) (rest-coherent ρ) (rest-ready ρ) (scoped-still raw inside k w fine q) s s (calm raw))
        λ rules v e calm'.
        goes-meets ρ p _ _ _ _ v v _ _ refl refl
        (ahead (rebind_all macro k ks β) (rebind_all-foreign ρ macro k β β w fine free) l _ _ (headed-bind_all p macro k ks i) (omega (arith, uses-bind_all p macro k ks t)) (bind_all-hole ρ macro ks ks k β w d r) _
        (λ raw. let q' = calm' raw in record {
          enough = omega arith;
          steps = refl;
          sum = refl;
          variables = refl;
          macros = macros-append (privately ρ raw) q'.macros (new-macros (privately ρ raw) (suc v.steps) (AtRest ρ) (rest-coherent ρ) (rest-ready ρ) (rest_below ρ (suc v.steps)) (e raw));
        })))

    -- the entries of a form, as trees of their own
    entries : Tree → Tree
    entries t = pair empty (pair (element 1 t) empty)

    entries-keywords : (t : Tree) → keywords (entries t) ≡ keywords t
    unfolding keywords entries element elements
    entries-keywords t = refl

    entries-rules : (t : Tree) → rules_forms (entries t) ≡ rules_forms t
    unfolding rules_forms entries element elements
    entries-rules t = refl

    entries-still : (t t' : Tree) → TreeOf (Still ρ β) (element 1 t) (element 1 t') → TreeOf (Still ρ β) (entries t) (entries t)
    unfolding entries
    entries-still t t' r = pairs empties (pairs (still-self ρ β r) empties)

    pub macros-before : (inside : Bool) (x : Name) → is_at p x ≡ false → (k : ℕ) {l : List ℕ} {t t' : Tree} → Headed p (k ∷ l) t → uses p t ≤ 1 → Hole (Still ρ β) (ChosenRules ρ β) (k ∷ place ρ p b l) t t'
        → (s : State) → Calm ρ p s → Meets ρ p (TermRel ρ) (expand_macros limit operations fuel rec inside x t s) (expand_macros limit operations fuel rec inside x t' s)
    unfolding keywords rules_forms
    macros-before inside x a zero {t = t} i u r s calm = never ρ p (macros-unreached p limit operations fuel rec (rec-unreached ρ p limit inner operations fuel gas b) inside x a t (other-unheaded p i u 2 (omega arith)) s)
    macros-before inside x a (suc zero) {t = t} i u r s calm = never ρ p (macros-unreached p limit operations fuel rec (rec-unreached ρ p limit inner operations fuel gas b) inside x a t (other-unheaded p i u 2 (omega arith)) s)
    macros-before inside x a (suc (suc (suc k))) {t = t} i u r s calm = never ρ p (macros-unreached p limit operations fuel rec (rec-unreached ρ p limit inner operations fuel gas b) inside x a t (other-unheaded p i u 2 (omega arith)) s)
    macros-before inside x a (suc (suc zero)) {t = t} {t' = t'} i u r s calm =
        let m = hole-off r 1 (omega arith) in
        let e : is_macros limit t ≡ is_macros limit t' = is_macros-rel _ (λ x y a. a.0) (λ x y a. a.1) limit t t' (hole-alike ρ β r) in
        let f : element 1 t ≡ element 1 t' = still-eq ρ β m in
        subst₂ (λ m m'. Meets ρ p (TermRel ρ) (m s) (m' s)) (sym (macros-is inside x t)) (sym (macros-is inside x t'))
        (subst₂ (λ c z. Meets ρ p (TermRel ρ) (macros_of inside x (is_macros limit t) (keywords t) (rules_forms t) (element 2 t) s) (macros_of inside x c (first_names (elements z)) (map (element 1) (elements z)) (element 2 t') s)) e f
        (macros-body inside x a (is_macros limit t) (keywords t) (subst (λ ks. ListRel (Still ρ β) ks ks) (entries-keywords t) (keywords-rel (entries-still t t' m)))
        (rules_forms t) (subst (λ rs. ListRel (TreeOf (Still ρ β)) rs rs) (entries-rules t) (rules_forms-rel (entries-still t t' m))) (headed-element p i) (omega (arith, uses-element p 2 t)) (hole-at r) s calm))
