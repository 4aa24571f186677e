-- The run before the form is reached: `before-agree`. Parts before the form are expanded alike, the form comes to the same (crate
-- simulation's `form-agree`), and so do the parts after it (`expand-agree`).
pub mod Binders
pub mod Forms
pub mod Meeting
use Rattle.std.specs.Prelude.{◌≡◌, List, [], ◌∷◌}
use Rattle.std.proofs.Math.Path.{refl, subst, subst₂}
use Rattle.std.proofs.Common.{sym, arith}
use Rattle.std.proofs.Math.Bool.{true, false}
use Rattle.std.proofs.lemmas.Bool.{false≢true}
use Prim.Native.Nat.{ℕ, zero, suc, ◌≤◌}
use Rattle.words.specs.Lists.{any_of}
use Rattle.recipe.specs.Name.{variable, macro, Name}
use Rattle.recipe.specs.Tree.{Tree, name, pair, on_pair, tail}
use Rattle.recipe.specs.TreeNames.{uses}
use Rattle.core_term.specs.Term.{Term}
use Rattle.expansion.specs.Lookup.{quote, if, lambda, let-syntax, letrec-syntax, auxiliary, Found, bound, form, operation, nothing, lookup}
use Rattle.expansion.specs.Computation.{State, M}
use Rattle.expansion.specs.Forms.{expand_list, expand_application, expand_pair, expand_tree, expand_within, expand}
use Rattle.private_names.specs.Statement.{is_reached_at}
use Rattle.simulation.specs.Shapes.{TreeOf, empties, constants, names₂, pairs}
use Rattle.simulation.specs.Names.Shown.{Renaming}
use Rattle.simulation.specs.Terms.{variable_cs, operation_cs}
use Rattle.simulation.proofs.Formals.{TermRel}
use Rattle.simulation.specs.Outcomes.{events_of}
use Rattle.simulation.specs.Form.Holes.{Hole, first, later}
use Rattle.simulation.specs.Form.Places.{Still, ChosenRules}
use Rattle.simulation.proofs.Form.PlacesLaws.{Foreign, still-eq, still-self}
use Rattle.simulation.specs.Form.Scopes.{Scope}
use Rattle.simulation.proofs.Form.{form-agree}
use Rattle.private_names_proof.specs.Reach.Heads.{is_at}
use Rattle.private_names_proof.proofs.Reach.{operands-unreached, quote-unreached, if-unreached, lambda-unreached, use-unreached, refuse-unreached}
use Rattle.private_names_proof.proofs.PathsLaws.{later-unheaded, headed-one, unused-name, Headed, headed, in-first, in-later, headed-uses, unused-unheaded}
use Rattle.private_names_proof.proofs.Before.Meeting.{Calm, Meets, never, show-meets, place, Ahead}
use Rattle.private_names_proof.proofs.Before.Forms.{rec-unreached, operands-before, application-first, application-later, if-before}
use Rattle.private_names_proof.proofs.Before.Binders.{lambda-before, macros-before}

module _ (ρ : Renaming) (p : ℕ) where
  module _ (limit inner : ℕ) (operations : List ℕ) (fuel gas b : ℕ) where
    abbrev rec : Tree → M (Term Name)
    rec = expand inner operations fuel gas

    module _ (β : Scope) (free : Foreign ρ β) where
      module _ (ahead : Ahead ρ p b rec) where
        -- ---- a list, by what its head finds

        list-before : (f : Found) (x : Name) → is_at p x ≡ false → {k : ℕ} {l : List ℕ} {t t' : Tree} → Headed p (k ∷ l) t → uses p (pair (name x) t) ≤ 1
            → TreeOf (Still ρ β) (name x) (name x) → Hole (Still ρ β) (ChosenRules ρ β) (k ∷ place ρ p b l) t t' → (s : State) → Calm ρ p s
            → Meets ρ p (TermRel ρ) (expand_list limit operations fuel rec f x (pair (name x) t) s) (expand_list limit operations fuel rec f x (pair (name x) t') s)
        unfolding expand_list tail on_pair uses
        list-before (bound (variable n)) x a i u q r s calm = operands-before ρ p limit inner operations fuel gas b β free ahead variable_cs i (omega arith) r s calm
        list-before (bound (macro n)) x a {t = t} i u q r s calm = never ρ p (use-unreached p limit operations fuel rec (rec-unreached ρ p limit inner operations fuel gas b) n (pair (name x) t) s)
        list-before (form quote) x a {t = t} i u q r s calm = never ρ p (quote-unreached p limit operations fuel rec (rec-unreached ρ p limit inner operations fuel gas b) (pair (name x) t) s)
        list-before (form if) x a {k = k} i u q r s calm = if-before ρ p limit inner operations fuel gas b β free ahead (suc k) (in-later i) u (later q r) s calm (omega arith)
        list-before (form lambda) x a {k = k} i u q r s calm = lambda-before ρ p limit inner operations fuel gas b β free ahead (suc k) (in-later i) u (later q r) s calm
        list-before (form let-syntax) x a {k = k} i u q r s calm = macros-before ρ p limit inner operations fuel gas b β free ahead false x a (suc k) (in-later i) u (later q r) s calm
        list-before (form letrec-syntax) x a {k = k} i u q r s calm = macros-before ρ p limit inner operations fuel gas b β free ahead true x a (suc k) (in-later i) u (later q r) s calm
        list-before (form auxiliary) x a i u q r s calm = never ρ p (refuse-unreached p 12 s)
        list-before (operation n) x a i u q r s calm = operands-before ρ p limit inner operations fuel gas b β free ahead operation_cs i (omega arith) r s calm
        list-before nothing x a i u q r s calm = never ρ p (refuse-unreached p 11 s)

        -- the form itself
        list-here : (f : Found) (x : Name) {t t' : Tree} → uses p t ≡ 0 → Hole (Still ρ β) (ChosenRules ρ β) (place ρ p b []) (pair (name x) t) (pair (name x) t') → (s : State) → Calm ρ p s
            → Meets ρ p (TermRel ρ) (expand_list limit operations fuel rec f x (pair (name x) t) s) (expand_list limit operations fuel rec f x (pair (name x) t') s)
        unfolding expand_list tail on_pair
        list-here (bound (variable n)) x {t} u r s calm = never ρ p (operands-unreached p limit operations fuel rec (rec-unreached ρ p limit inner operations fuel gas b) _ (unused-unheaded p t u).1 s)
        list-here (bound (macro n)) x {t} u r s calm = never ρ p (use-unreached p limit operations fuel rec (rec-unreached ρ p limit inner operations fuel gas b) n (pair (name x) t) s)
        list-here (form quote) x {t} u r s calm = never ρ p (quote-unreached p limit operations fuel rec (rec-unreached ρ p limit inner operations fuel gas b) (pair (name x) t) s)
        list-here (form if) x {t} u r s calm =
            never ρ p (if-unreached p limit operations fuel rec (rec-unreached ρ p limit inner operations fuel gas b) (pair (name x) t) (later-unheaded p x t u 0) (later-unheaded p x t u 1) (later-unheaded p x t u 2) s)
        list-here (form lambda) x {t} u r s calm = never ρ p (lambda-unreached p limit operations fuel rec (rec-unreached ρ p limit inner operations fuel gas b) (pair (name x) t) (later-unheaded p x t u 1) s)
        list-here (form let-syntax) x u r s calm = λ e fine. form-agree ρ limit inner operations fuel gas β free false x r s calm fine
        list-here (form letrec-syntax) x u r s calm = λ e fine. form-agree ρ limit inner operations fuel gas β free true x r s calm fine
        list-here (form auxiliary) x u r s calm = never ρ p (refuse-unreached p 12 s)
        list-here (operation n) x {t} u r s calm = never ρ p (operands-unreached p limit operations fuel rec (rec-unreached ρ p limit inner operations fuel gas b) _ (unused-unheaded p t u).1 s)
        list-here nothing x u r s calm = never ρ p (refuse-unreached p 11 s)

        -- ---- an expression

        pair-list : {l : List ℕ} {h : Tree} → Headed p l h → (t : Tree) → expand_pair limit operations fuel rec h t ≡ expand_application limit operations fuel rec h t
        unfolding expand_pair
        pair-list (headed e) t = refl
        pair-list (in-first i) t = refl
        pair-list (in-later i) t = refl

        hole-list : (k : ℕ) (m : List ℕ) {h h' : Tree} → Hole (Still ρ β) (ChosenRules ρ β) (k ∷ m) h h' → (t : Tree) → expand_pair limit operations fuel rec h' t ≡ expand_application limit operations fuel rec h' t
        unfolding expand_pair
        hole-list _ m (first r q) t = refl
        hole-list _ m (later q r) t = refl

        place-list : (l : List ℕ) {h h' : Tree} → Hole (Still ρ β) (ChosenRules ρ β) (place ρ p b l) h h' → (t : Tree) → expand_pair limit operations fuel rec h' t ≡ expand_application limit operations fuel rec h' t
        place-list [] r t = hole-list 1 (b ∷ 1 ∷ []) r t
        place-list (k ∷ l) r t = hole-list k (place ρ p b l) r t

        head-before : {k : ℕ} {l : List ℕ} {h h' t t' : Tree} → TreeOf (Still ρ β) h h' → Headed p (k ∷ l) t → uses p (pair h t) ≤ 1 → Hole (Still ρ β) (ChosenRules ρ β) (k ∷ place ρ p b l) t t'
            → (s : State) → Calm ρ p s → Meets ρ p (TermRel ρ) (expand_pair limit operations fuel rec h t s) (expand_pair limit operations fuel rec h' t' s)
        unfolding expand_pair uses any_of is_reached_at
        head-before empties i u r s calm = application-later ρ p limit inner operations fuel gas b β free ahead empties i u r s calm
        head-before constants i u r s calm = application-later ρ p limit inner operations fuel gas b β free ahead constants i u r s calm
        head-before {t = t} {t' = t'} (names₂ {x = x} q) i u r s calm =
            let z : uses p (name x) ≡ 0 = omega (arith, headed-uses p i) in
            subst (λ y. Meets ρ p (TermRel ρ) (expand_pair limit operations fuel rec (name x) t s) (expand_pair limit operations fuel rec (name y) t' s)) q.eq
            (show-meets ρ p _ _ _ _ s s refl λ _. list-before (lookup operations x) x (unused-name p x z) i u (still-self ρ β (names₂ q)) r s calm)
        head-before (pairs c d) i u r s calm = application-later ρ p limit inner operations fuel gas b β free ahead (pairs c d) i u r s calm

        form-before : {x : Name} {h' t t' : Tree} → uses p t ≡ 0 → TreeOf (Still ρ β) (name x) h' → Hole (Still ρ β) (ChosenRules ρ β) (place ρ p b []) (pair (name x) t) (pair h' t')
            → (s : State) → Calm ρ p s → Meets ρ p (TermRel ρ) (expand_pair limit operations fuel rec (name x) t s) (expand_pair limit operations fuel rec h' t' s)
        unfolding expand_pair any_of is_reached_at
        form-before {x} {h'} {t} {t'} u q r s calm =
            let e : name x ≡ h' = still-eq ρ β q in
            subst (λ y. Meets ρ p (TermRel ρ) (expand_pair limit operations fuel rec (name x) t s) (expand_pair limit operations fuel rec y t' s)) e
            (show-meets ρ p _ _ _ _ s s refl λ _. list-here (lookup operations x) x u (subst (λ y. Hole (Still ρ β) (ChosenRules ρ β) (place ρ p b []) (pair (name x) t) (pair y t')) (sym e) r) s calm)

        tree-meets : (l : List ℕ) (t t' : Tree) → Headed p l t → uses p t ≤ 1 → Hole (Still ρ β) (ChosenRules ρ β) (place ρ p b l) t t'
            → (s : State) → Calm ρ p s → Meets ρ p (TermRel ρ) (expand_tree limit operations fuel rec t s) (expand_tree limit operations fuel rec t' s)
        unfolding expand_tree uses
        tree-meets l _ _ (headed {x = x} {t = t} e) u (later q r) s calm = form-before (omega (arith, headed-one p x e)) q (later q r) s calm
        tree-meets l _ _ (in-first {l = m} {h = h} {t = t} i) u (first {h' = h'} {t' = t'} r q) s calm =
            subst₂ (λ c c'. Meets ρ p (TermRel ρ) (c s) (c' s)) (sym (pair-list i t)) (sym (place-list m r t')) (application-first ρ p limit inner operations fuel gas b β free ahead i u r q s calm)
        tree-meets l _ _ (in-later i) u (later q r) s calm = head-before q i u r s calm

    -- two expansions of trees that differ in the form's template agree, where the first comes to the form
    ahead-next : Ahead ρ p b rec → Ahead ρ p b (expand_within limit inner operations fuel (suc gas))
    unfolding expand_within
    ahead-next ahead β free l t t' i u r s calm = tree-meets β free ahead l t t' i u r s calm

  pub before-agree : (limit inner : ℕ) (operations : List ℕ) (fuel gas b : ℕ) → Ahead ρ p b (expand_within limit inner operations fuel gas)
  unfolding expand_within events_of any_of
  before-agree limit inner operations fuel zero b = λ β free l t t' i u r s calm. λ e fine. absurd (false≢true e)
  before-agree limit inner operations fuel (suc gas) b = ahead-next limit inner operations fuel gas b (before-agree inner inner operations fuel gas b)
