-- What a computation reaches outside results stems from the tree at hand: where no list of an expression is headed by the unproduced name
-- of item p, its expansion shows no form reached by that name.
pub mod HeadsLaws
use Rattle.std.specs.Prelude.{◌≡◌, Bool, ◌||◌, length, get_or}
use Rattle.std.proofs.Math.Path.{refl}
use Rattle.std.proofs.Common.{ap, ◌∙◌}
use Rattle.std.proofs.Math.Bool.{true, false}
use mathlib.Core.List.{List, [], ◌∷◌, map}
use Rattle.std.proofs.Math.Option.{Option, none, some}
use Prim.Native.Nat.{ℕ, zero, suc}
use Rattle.words.specs.Lists.{any_of}
use Rattle.words.specs.TestLaws.{or-none, any_append}
use Rattle.recipe.specs.Name.{Binding, variable, macro, Name}
use Rattle.recipe.specs.Tree.{Tree, empty, constant, name, pair, names, on_name, on_pair, element, tail, mark}
use Rattle.core_term.specs.Term.{Term}
use Rattle.expansion.specs.Lookup.{quote, if, lambda, let-syntax, letrec-syntax, auxiliary, Found, bound, form, operation, nothing, lookup}
use Rattle.expansion.specs.Rules.{rules_of}
use Rattle.expansion.specs.Match.{first_fit}
use Rattle.expansion.specs.Computation.{State, looked, quoted, Events, Out, done, refused, starved, M, after, go_on, ◌>>=◌, ◌>>◌, give, refuse, show, test, or_refuse, get, add_variables, add_macros, add_step}
use Rattle.expansion.specs.Forms.{formals, keywords, bindings, read_rules, expand_all, expand_quote, expand_if, expand_lambda, expand_macros, expand_use, expand_operands, expand_list, expand_name, expand_application, expand_pair, expand_tree, expand_within, expand}
use Rattle.private_names.specs.Statement.{is_reached_at}
use Rattle.simulation.specs.Outcomes.{events_of}
use Rattle.simulation.proofs.OutcomesLaws.{events-after}
use Rattle.private_names_proof.specs.Reach.Heads.{is_at}
use Rattle.private_names_proof.proofs.Reach.HeadsLaws.{is_name_at, Unheaded, empty₁, constant₁, name₁, pair₁, UnheadedAll, empty₂, constant₂, name₂, pair₂, unheaded-element, unheaded-bind_all, unheaded-produce}

module _ (p : ℕ) where
  -- ---- what is not reached

  pub data Unreached {A : Type 0} : Out A → Type 0 where
    unreached : {o : Out A} → any_of (is_reached_at p) (events_of o) ≡ false → Unreached o

  pub none-reached : {A : Type 0} {o : Out A} → Unreached o → any_of (is_reached_at p) (events_of o) ≡ false
  none-reached (unreached e) = e

  module _ {A : Type 0} where
    pub after-unreached : (l : Events) (o : Out A) → any_of (is_reached_at p) l ≡ false → Unreached o → Unreached (after l o)
    after-unreached l o e (unreached f) =
        unreached (ap (any_of (is_reached_at p)) (events-after l o) ∙ any_append (is_reached_at p) l (events_of o) ∙ or-none _ _ e f)

    pub give-unreached : (a : A) (s : State) → Unreached (give a s)
    unfolding give events_of any_of
    give-unreached a s = unreached refl

    pub refuse-unreached : (g : ℕ) (s : State) → Unreached {A = A} (refuse g s)
    unfolding refuse events_of any_of
    refuse-unreached g s = unreached refl

    pub test-unreached : (g : ℕ) (b : Bool) (n : M A) (s : State) → Unreached (n s) → Unreached ((◌>>◌ (test g b) n) s)
    unfolding ◌>>◌ go_on test events_of any_of
    test-unreached g true n s k = after-unreached [] (n s) refl k
    test-unreached g false n s k = unreached refl

    pub show-unreached : (l : Events) (n : M A) (s : State) → any_of (is_reached_at p) l ≡ false → Unreached (n s) → Unreached ((◌>>◌ (show l) n) s)
    unfolding ◌>>◌ go_on show
    show-unreached l n s e k = after-unreached l (n s) e k

    pub goes-unreached : (m : M (Unit {0})) (n : M A) (s t : State) → m s ≡ done tt t [] → Unreached (n t) → Unreached ((◌>>◌ m n) s)
    unfolding ◌>>◌ go_on any_of
    goes-unreached m n s t e k = rw e (after-unreached [] (n t) refl k)

    pub get-unreached : (n : State → M A) (s : State) → Unreached (n s s) → Unreached ((◌>>=◌ get n) s)
    unfolding ◌>>=◌ go_on get any_of
    get-unreached n s k = after-unreached [] (n s s) refl k

  module _ {A B : Type 0} where
    pub bind-unreached : (m : M A) (f : A → M B) (s : State) → Unreached (m s) → ((a : A) (t : State) → Unreached (f a t)) → Unreached ((◌>>=◌ m f) s)
    unfolding ◌>>=◌ go_on events_of
    bind-unreached m f s h k = go (m s) h
      where
        go : (o : Out A) → Unreached o → Unreached (go_on f o)
        go (done a t l) (unreached e) = after-unreached l (f a t) e (k a t)
        go (refused g t l) (unreached e) = unreached e
        go (starved l) (unreached e) = unreached e

    pub found-unreached : (g : ℕ) (o : Option A) (f : A → M B) (s : State) → ((a : A) → Unreached (f a s)) → Unreached ((◌>>=◌ (or_refuse g o) f) s)
    unfolding ◌>>=◌ go_on or_refuse events_of any_of
    found-unreached g none f s k = unreached refl
    found-unreached g (some a) f s k = after-unreached [] (f a s) refl (k a)

  -- lookups, quoted names and bindings are no forms reached
  pub quoted-none : (xs : List Name) → any_of (is_reached_at p) (map quoted xs) ≡ false
  unfolding any_of is_reached_at
  quoted-none [] = refl
  quoted-none (x ∷ xs) = quoted-none xs

  pub looked-none : (xs : List Name) → any_of (is_reached_at p) (map looked xs) ≡ false
  unfolding any_of is_reached_at
  looked-none [] = refl
  looked-none (x ∷ xs) = looked-none xs

  pub bindings-none : (f : ℕ → Binding) (k : ℕ) (xs : List Name) → any_of (is_reached_at p) (bindings f k xs) ≡ false
  unfolding any_of is_reached_at bindings
  bindings-none f k [] = refl
  bindings-none f k (x ∷ xs) = bindings-none f (suc k) xs

  pub head-none : (t : Tree) → any_of (is_reached_at p) (on_name (λ x. looked x ∷ []) [] t) ≡ false
  unfolding any_of is_reached_at on_name
  head-none empty = refl
  head-none (constant a) = refl
  head-none (name x) = refl
  head-none (pair h t) = refl

  pub read-unreached : (rs : List Tree) (s : State) → Unreached (read_rules rs s)
  unfolding read_rules
  read-unreached [] s = give-unreached [] s
  read-unreached (r ∷ rs) s =
      show-unreached _ _ s (head-none (element 0 r))
      (found-unreached 15 (rules_of r) _ s λ first.
      bind-unreached _ _ s (read-unreached rs s) λ later t.
      give-unreached _ t)

  -- ---- forms

  module _ (limit : ℕ) (operations : List ℕ) (fuel : ℕ) (rec : Tree → M (Term Name))
      (good : (t : Tree) → Unheaded p t → (s : State) → Unreached (rec t s)) where
    pub all-unreached : {t : Tree} → UnheadedAll p t → (s : State) → Unreached (expand_all limit operations fuel rec t s)
    unfolding expand_all
    all-unreached empty₂ s = give-unreached _ s
    all-unreached constant₂ s = give-unreached _ s
    all-unreached name₂ s = give-unreached _ s
    all-unreached (pair₂ {h = h} {t = t} u v) s =
        bind-unreached _ _ s (good h u s) λ a w.
        bind-unreached _ _ w (all-unreached v w) λ b z.
        give-unreached _ z

    pub operands-unreached : (head : Term Name) {t : Tree} → UnheadedAll p t → (s : State) → Unreached (expand_operands limit operations fuel rec head t s)
    unfolding expand_operands
    operands-unreached head u s = bind-unreached _ _ s (all-unreached u s) λ a w. give-unreached _ w

    pub application-unreached : {h t : Tree} → Unheaded p h → UnheadedAll p t → (s : State) → Unreached (expand_application limit operations fuel rec h t s)
    unfolding expand_application
    application-unreached {h} u v s = bind-unreached _ _ s (good h u s) λ a w. operands-unreached a v w

    pub quote-unreached : (t : Tree) (s : State) → Unreached (expand_quote limit operations fuel rec t s)
    unfolding expand_quote
    quote-unreached t s = test-unreached 13 _ _ s (show-unreached _ _ s (quoted-none (names (element 1 t))) (give-unreached _ s))

    pub if-unreached : (t : Tree) → Unheaded p (element 1 t) → Unheaded p (element 2 t) → Unheaded p (element 3 t) → (s : State) → Unreached (expand_if limit operations fuel rec t s)
    unfolding expand_if
    if-unreached t i j k s =
        test-unreached 13 _ _ s
        (bind-unreached _ _ s (good _ i s) λ a v.
        bind-unreached _ _ v (good _ j v) λ b w.
        bind-unreached _ _ w (good _ k w) λ c z.
        give-unreached _ z)

    pub lambda-unreached : (t : Tree) → Unheaded p (element 2 t) → (s : State) → Unreached (expand_lambda limit operations fuel rec t s)
    unfolding expand_lambda add_variables
    lambda-unreached t u s =
        test-unreached 13 _ _ s
        (test-unreached 14 _ _ s
        (get-unreached _ s
        (show-unreached _ _ s (bindings-none variable s.variables (formals t))
        (goes-unreached _ _ s _ refl
        (bind-unreached _ _ _ (good _ (unheaded-bind_all p variable s.variables (formals t) u) _) λ b z.
        give-unreached _ z)))))

    pub macros-unreached : (inside : Bool) (x : Name) → is_at p x ≡ false → (t : Tree) → Unheaded p (element 2 t) → (s : State) → Unreached (expand_macros limit operations fuel rec inside x t s)
    unfolding expand_macros add_macros any_of is_reached_at is_at
    macros-unreached inside x e t u s =
        show-unreached _ _ s (ap (λ b. b || false) e)
        (test-unreached 13 _ _ s
        (test-unreached 14 _ _ s
        (get-unreached _ s
        (show-unreached _ _ s (bindings-none macro (length s.macros) (keywords t))
        (bind-unreached _ _ s (read-unreached _ s) λ rules v.
        goes-unreached _ _ v _ refl
        (good _ (unheaded-bind_all p macro (length s.macros) (keywords t) u) _))))))

    pub use-unreached : (n : ℕ) (t : Tree) (s : State) → Unreached (expand_use limit operations fuel rec n t s)
    unfolding expand_use add_step
    use-unreached n t s =
        get-unreached _ s
        (show-unreached _ _ s (looked-none (first_fit (get_or s.macros n []) (tail (mark (suc s.steps) t))).0)
        (found-unreached 16 _ _ s λ r.
        test-unreached 17 _ _ s
        (test-unreached 18 _ _ s
        (goes-unreached _ _ s _ refl
        (good _ (unheaded-produce p _).0 _)))))

    list-unreached : (f : Found) (x : Name) → is_at p x ≡ false → {t : Tree} → UnheadedAll p t → (s : State) → Unreached (expand_list limit operations fuel rec f x (pair (name x) t) s)
    unfolding expand_list tail on_pair
    list-unreached (bound (variable n)) x e u s = operands-unreached _ u s
    list-unreached (bound (macro n)) x e u s = use-unreached n _ s
    list-unreached (form quote) x e u s = quote-unreached _ s
    list-unreached (form if) x e u s =
        let v = pair₂ {h = name x} name₁ u in
        if-unreached _ (unheaded-element p 1 v) (unheaded-element p 2 v) (unheaded-element p 3 v) s
    list-unreached (form lambda) x e u s = lambda-unreached _ (unheaded-element p 2 (pair₂ {h = name x} name₁ u)) s
    list-unreached (form let-syntax) x e u s = macros-unreached false x e _ (unheaded-element p 2 (pair₂ {h = name x} name₁ u)) s
    list-unreached (form letrec-syntax) x e u s = macros-unreached true x e _ (unheaded-element p 2 (pair₂ {h = name x} name₁ u)) s
    list-unreached (form auxiliary) x e u s = refuse-unreached 12 s
    list-unreached (operation k) x e u s = operands-unreached _ u s
    list-unreached nothing x e u s = refuse-unreached 11 s

    pub name-unreached : (f : Found) (s : State) → Unreached (expand_name limit operations fuel rec f s)
    unfolding expand_name
    name-unreached (bound (variable n)) s = give-unreached _ s
    name-unreached (bound (macro n)) s = refuse-unreached 12 s
    name-unreached (form f) s = refuse-unreached 12 s
    name-unreached (operation k) s = give-unreached _ s
    name-unreached nothing s = refuse-unreached 11 s

    pair-unreached : (h : Tree) {t : Tree} → is_name_at p h ≡ false → Unheaded p h → UnheadedAll p t → (s : State) → Unreached (expand_pair limit operations fuel rec h t s)
    unfolding expand_pair any_of is_reached_at is_name_at on_name
    pair-unreached empty e u v s = application-unreached u v s
    pair-unreached (constant a) e u v s = application-unreached u v s
    pair-unreached (name x) e u v s = show-unreached _ _ s refl (list-unreached (lookup operations x) x e v s)
    pair-unreached (pair a b) e u v s = application-unreached u v s

    tree-unreached : (t : Tree) → Unheaded p t → (s : State) → Unreached (expand_tree limit operations fuel rec t s)
    unfolding expand_tree any_of is_reached_at
    tree-unreached _ empty₁ s = refuse-unreached 13 s
    tree-unreached _ constant₁ s = give-unreached _ s
    tree-unreached _ (name₁ {x = x}) s = show-unreached _ _ s refl (name-unreached (lookup operations x) s)
    tree-unreached _ (pair₁ {h = h} e u v) s = pair-unreached h e u v s

  -- Reach: what is reached outside results is a list of the tree at hand, by its head
  pub expand-unreached : (limit inner : ℕ) (operations : List ℕ) (fuel gas : ℕ) (t : Tree) → Unheaded p t → (s : State) → Unreached (expand_within limit inner operations fuel gas t s)
  unfolding expand_within events_of any_of
  expand-unreached limit inner operations fuel zero t u s = unreached refl
  expand-unreached limit inner operations fuel (suc gas) t u s =
      tree-unreached limit operations fuel (expand inner operations fuel gas) (expand-unreached inner inner operations fuel gas) t u s
