-- A watched run before the form, from it on and after it: where the run comes to the form, no test fails that holds of trees in place and
-- follows from what is kept (`place-passes`). Parts without the form have no private name, and the form itself is AtForm's.
use Rattle.std.specs.Prelude.{◌≡◌, Bool, ◌||◌, cond}
use Rattle.std.proofs.Math.Path.{refl, sym, subst, subst₂, fun_ext}
use Rattle.std.proofs.Common.{ap, ◌∙◌}
use Rattle.std.proofs.Math.Bool.{true, false}
use Rattle.std.proofs.lemmas.Bool.{false≢true}
use mathlib.Core.List.{List, [], ◌∷◌, ◌++◌, map}
use Prim.Native.Nat.{ℕ, zero, suc, ◌+◌, ◌≤◌}
use native.Mathlib.Omega.{arith}
use Rattle.std.proofs.Math.ListN.{length}
use Rattle.words.specs.Lists.{any_of}
use Rattle.words.specs.TestLaws.{any_append}
use Rattle.words.specs.Each.{Each, each_map, each_append, Given}
use Rattle.recipe.specs.Name.{variable, macro, Name}
use Rattle.recipe.specs.Tree.{Tree, empty, constant, name, pair, on_pair, element, tail, bind_all}
use Rattle.recipe.specs.TreeNames.{uses}
use Rattle.recipe.specs.Tidy.{Tidy, tidy-elements, tidy-element}
use Rattle.recipe.specs.TableTidy.{IsConstant}
use Rattle.core_term.specs.Term.{Term}
use Rattle.expansion.specs.Lookup.{quote, if, lambda, let-syntax, letrec-syntax, auxiliary, Found, bound, form, operation, nothing, lookup}
use Rattle.expansion.specs.Rules.{rules_of}
use Rattle.expansion.specs.Computation.{State, Events, Out, done, refused, starved, M, after, go_on, ◌>>=◌, ◌>>◌, give, refuse, show, test, get, add_variables, add_macros}
use Rattle.expansion.specs.Forms.{formals, keywords, rules_forms, expand_all, expand_if, expand_lambda, expand_macros, expand_operands, expand_list, expand_application, expand_pair, expand_tree, expand_within, expand}
use Rattle.expansion.specs.Outcomes.{Holds, is_done, is_refused, is_starved}
use Rattle.expansion.proofs.OutcomesLaws.{after_holds, then-holds, weaken}
use Rattle.expansion.proofs.FormLaws.{read_rules-holds}
use Rattle.private_names.specs.Statement.{is_reached_at}
use Rattle.simulation.specs.Outcomes.{events_of}
use Rattle.simulation.proofs.OutcomesLaws.{events-after}
use Rattle.private_names_proof.specs.Reach.Heads.{is_at}
use Rattle.private_names_proof.proofs.Reach.HeadsLaws.{Unheaded}
use Rattle.private_names_proof.proofs.Reach.{Unreached, unreached, none-reached, give-unreached, refuse-unreached, bind-unreached, bindings-none, read-unreached, all-unreached, operands-unreached, quote-unreached, if-unreached, lambda-unreached, macros-unreached, use-unreached, expand-unreached}
use Rattle.private_names_proof.specs.Paths.{sub}
use Rattle.private_names_proof.proofs.PathsLaws.{Headed, headed, in-first, in-later, headed-one, later-unheaded, unused-name, unused-unheaded, other-unheaded}
use Rattle.private_names_proof.specs.Invariants.Watch.{watched}
use Rattle.private_names_proof.proofs.Invariants.WatchLaws.{watched-is}
use Rattle.private_names_proof.specs.Invariants.Kinds.{Carried}
use Rattle.private_names_proof.proofs.Invariants.KindsLaws.{Sound, bound_all-sound, bound_all-tidy}
use Rattle.private_names_proof.proofs.Invariants.KeptLaws.{GoodRule, rules-later, After, Passes, fails-nowhere, keeps-give, keeps_then, KeepsAll, macros-keeps, all-keeps, operands-keeps, scoped-good, Follows, watched-keeps}
use Rattle.private_names_proof.specs.Invariants.AtForm.{InPlace, private_in}
use Rattle.private_names_proof.proofs.Invariants.AtFormLaws.{is_private_name, Copied, Public, public-good, form-rules, form-body}
use Rattle.private_names_proof.proofs.Invariants.Places.{Place, Elsewhere, place-element, place_other, place-first, place-later, place-bind_all}

-- ---- a watched computation beside the definition's: it passes where the definition's reaches the form

module _ (private : ℕ → Bool) (p : ℕ) where
  abbrev pub Passed : {A : Type 0} → Out A → Type 0
  Passed o = Passes (is_private_name private) (Copied private) IsConstant 0 o

  abbrev pub Calm : State → Type 0
  Calm s = After (is_private_name private) (Copied private) IsConstant 0 s

  abbrev pub Meets : {A : Type 0} → Out A → Out A → Type 0
  Meets o q = any_of (is_reached_at p) (events_of q) ≡ true → Passed o

  module _ {A : Type 0} where
    never : {o q : Out A} → Unreached p q → Meets o q
    never u e = absurd (false≢true (sym (none-reached p u) ∙ e))

    reached-later : (l : Events) (o : Out A) → any_of (is_reached_at p) l ≡ false → any_of (is_reached_at p) (events_of (after l o)) ≡ true → any_of (is_reached_at p) (events_of o) ≡ true
    reached-later l o f e = subst (λ b. (b || any_of (is_reached_at p) (events_of o)) ≡ true) f (sym (ap (any_of (is_reached_at p)) (events-after l o) ∙ any_append (is_reached_at p) l (events_of o)) ∙ e)

    show-meets : (l : Events) (m n : M A) (s : State) → any_of (is_reached_at p) l ≡ false → Meets (m s) (n s) → Meets ((◌>>◌ (show l) m) s) ((◌>>◌ (show l) n) s)
    unfolding ◌>>◌ go_on show
    show-meets l m n s f k e = after_holds l (m s) (k (reached-later l (n s) f e))

    test-meets : (g : ℕ) (b : Bool) (m n : M A) (s : State) → 11 ≤ g → Meets (m s) (n s) → Meets ((◌>>◌ (test g b) m) s) ((◌>>◌ (test g b) n) s)
    unfolding ◌>>◌ go_on test any_of
    test-meets g true m n s r k e = after_holds [] (m s) (k (reached-later [] (n s) refl e))
    test-meets g false m n s r k e = is_refused r

    get_meets : (m n : State → M A) (s : State) → Meets (m s s) (n s s) → Meets ((◌>>=◌ get m) s) ((◌>>=◌ get n) s)
    unfolding ◌>>=◌ go_on get any_of
    get_meets m n s k e = after_holds [] (m s s) (k (reached-later [] (n s s) refl e))

    goes-meets : (o : M (Unit {0})) (m n : M A) (s t : State) → o s ≡ done tt t [] → Meets (m t) (n t) → Meets ((◌>>◌ o m) s) ((◌>>◌ o n) s)
    unfolding ◌>>◌ go_on any_of
    goes-meets o m n s t e k = rw e (λ h. after_holds [] (m t) (k (reached-later [] (n t) refl h)))

  module _ {A B : Type 0} where
    -- a part before the form
    part-before : (Q : A → State → Type 0) (m n : M A) (f g : A → M B) (s : State) → m s ≡ n s → Holds (Unit {0}) (λ d u l. 11 ≤ d) (λ a u l. Q a u) (m s) → Unreached p (n s)
        → ((a : A) (t : State) → Q a t → Meets (f a t) (g a t)) → Meets ((◌>>=◌ m f) s) ((◌>>=◌ n g) s)
    unfolding ◌>>=◌ go_on events_of
    part-before Q m n f g s e h u k = subst (λ q. Meets (go_on f (m s)) (go_on g q)) e (go (m s) h (subst (λ q. Unreached p q) (sym e) u))
      where
        go : (o : Out A) → Holds (Unit {0}) (λ d u l. 11 ≤ d) (λ a u l. Q a u) o → Unreached p o → Meets (go_on f o) (go_on g o)
        go (done a t l) (is_done c) (unreached z) = λ r. after_holds l (f a t) (k a t c (reached-later l (g a t) z r))
        go (refused d t l) (is_refused c) v = λ r. is_refused c
        go (starved l) (is_starved c) v = λ r. is_starved c

    -- the part with the form: what comes later passes, and does not reach it
    part-with : (m n : M A) (f g : A → M B) (s : State) → Meets (m s) (n s) → ((a : A) (t : State) → Unreached p (g a t)) → ((a : A) (t : State) → Calm t → Passed (f a t)) → Meets ((◌>>=◌ m f) s) ((◌>>=◌ n g) s)
    unfolding ◌>>=◌ go_on events_of
    part-with m n f g s k u h e = then-holds _ m f s (k (first (n s) e)) λ a t l c. h a t c
      where
        or-first : (a b : Bool) → b ≡ false → (a || b) ≡ true → a ≡ true
        or-first true b e f = refl
        or-first false b e f = sym e ∙ f

        first : (o : Out A) → any_of (is_reached_at p) (events_of (go_on g o)) ≡ true → any_of (is_reached_at p) (events_of o) ≡ true
        first (done a t l) e = or-first (any_of (is_reached_at p) l) _ (none-reached p (u a t)) (sym (ap (any_of (is_reached_at p)) (events-after l (g a t)) ∙ any_append (is_reached_at p) l (events_of (g a t))) ∙ e)
        first (refused d t l) e = e
        first (starved l) e = e

-- ---- forms

module _ (N : ℕ → ℕ) (p b j n : ℕ) (private : ℕ → Bool) (c : Carried (is_private_name private) (Copied private)) (test : Tree → State → Bool) (follows : Follows (is_private_name private) (Copied private) IsConstant test)
    (limit inner : ℕ) (operations : List ℕ) (fuel gas : ℕ) where
  abbrev rec : Tree → M (Term Name)
  rec = watched test inner inner operations fuel gas

  abbrev def : Tree → M (Term Name)
  def = expand inner operations fuel gas

  abbrev At : List ℕ → Tree → Type 0
  At l t = Place N p b j n private l t

  abbrev Off : Tree → Type 0
  Off t = Elsewhere N p b j n private t

  keeps : KeepsAll (is_private_name private) (Copied private) IsConstant rec
  keeps = watched-keeps (is_private_name private) (Copied private) IsConstant c test follows inner inner operations fuel gas

  quiet : (t : Tree) → Unheaded p t → (s : State) → Unreached p (def t s)
  quiet = expand-unreached p inner inner operations fuel gas

  public : Sound (is_private_name private) (Copied private) 0 (Public private)
  public = record { good = public-good private 0; each = λ x q e. absurd (false≢true (sym q.0 ∙ e)) }

  off-passes : {t : Tree} → Off t → (s : State) → Calm private p s → Passed private p (rec t s)
  off-passes e s calm = keeps 0 (Public private) public _ e.tidy s calm

  off-quiet : {t : Tree} → Off t → (s : State) → Unreached p (def t s)
  off-quiet {t} e s = quiet t (unused-unheaded p t e.unused).0 s

  -- a part before the form
  off-before : {B : Type 0} {t : Tree} → Off t → (f g : Term Name → M B) (s : State) → Calm private p s
      → ((a : Term Name) (v : State) → Calm private p v → Meets private p (f a v) (g a v)) → Meets private p ((◌>>=◌ (rec t) f) s) ((◌>>=◌ (def t) g) s)
  off-before {B} {t} e f g s calm k =
      part-before private p (λ a v. Calm private p v) (rec t) (def t) f g s
      (watched-is test inner inner operations fuel gas t s (fails-nowhere (is_private_name private) (Copied private) IsConstant (off-passes e s calm))) (off-passes e s calm) (off-quiet e s) k

  gives : {A : Type 0} (a : A) (s : State) → Calm private p s → Passed private p (give a s)
  gives a s calm = keeps-give (is_private_name private) (Copied private) IsConstant 0 a s calm

  module _ (ahead : (l : List ℕ) (t : Tree) → At l t → (s : State) → Calm private p s → Meets private p (rec t s) (def t s)) where
    all-meets : {k : ℕ} {l : List ℕ} {t : Tree} → Headed p (k ∷ l) t → At (k ∷ l) t → (s : State) → Calm private p s → Meets private p (expand_all limit operations fuel rec t s) (expand_all limit operations fuel def t s)
    unfolding expand_all
    all-meets (in-first {l = l} {h = h} {t = t} g) i s calm =
        let a = place-first N p b j n private l h t g i in
        part-with private p _ _ _ _ s (ahead l h a.0 s calm)
        (λ x v. bind-unreached p _ _ v (all-unreached p limit operations fuel def quiet (unused-unheaded p t a.1.unused).1 v) λ y w. give-unreached p _ w)
        (λ x v d. keeps_then (is_private_name private) (Copied private) IsConstant 0 _ _ (all-keeps (is_private_name private) (Copied private) IsConstant c limit operations fuel rec keeps 0 (Public private) public a.1.tidy) (λ y w z. gives _ w z) v d)
    all-meets (in-later {k = k} {l = l} {h = h} {t = t} g) i s calm =
        let a = place-later N p b j n private k l h t g i in
        off-before a.0 _ _ s calm λ x v d.
        part-with private p _ _ _ _ v (all-meets g a.1 v d) (λ y w. give-unreached p _ w) (λ y w z. gives _ w z)

    operands-meets : (x : Term Name) {k : ℕ} {l : List ℕ} {t : Tree} → At (k ∷ l) t → (s : State) → Calm private p s → Meets private p (expand_operands limit operations fuel rec x t s) (expand_operands limit operations fuel def x t s)
    unfolding expand_operands
    operands-meets x i s calm = part-with private p _ _ _ _ s (all-meets i.headed i s calm) (λ y w. give-unreached p _ w) (λ y w z. gives _ w z)

    -- an application with the form in its head, or after it
    application-first : {l : List ℕ} {h t : Tree} → At l h × Off t → (s : State) → Calm private p s → Meets private p (expand_application limit operations fuel rec h t s) (expand_application limit operations fuel def h t s)
    unfolding expand_application
    application-first {l} {h} {t} a s calm =
        part-with private p _ _ _ _ s (ahead l h a.0 s calm)
        (λ x v. operands-unreached p limit operations fuel def quiet x (unused-unheaded p t a.1.unused).1 v)
        (λ x v d. operands-keeps (is_private_name private) (Copied private) IsConstant c limit operations fuel rec keeps 0 (Public private) public x a.1.tidy v d)

    application-later : {k : ℕ} {l : List ℕ} {h t : Tree} → Off h × At (k ∷ l) t → (s : State) → Calm private p s → Meets private p (expand_application limit operations fuel rec h t s) (expand_application limit operations fuel def h t s)
    unfolding expand_application
    application-later a s calm = off-before a.0 _ _ s calm λ x v d. operands-meets x a.1 v d

    -- (if a b c)
    if-meets : (k : ℕ) {l : List ℕ} {t : Tree} → At (suc k ∷ l) t → (s : State) → Calm private p s → Meets private p (expand_if limit operations fuel rec t s) (expand_if limit operations fuel def t s)
    unfolding expand_if
    if-meets zero {l} {t} i s calm =
        let y = place_other N p b j n private 1 l t i 2 (λ e. omega arith) in
        let z = place_other N p b j n private 1 l t i 3 (λ e. omega arith) in
        test-meets private p 13 _ _ _ s (omega arith)
        (part-with private p _ _ _ _ s (ahead l _ (place-element N p b j n private 1 l t i) s calm)
        (λ a v. bind-unreached p _ _ v (off-quiet y v) λ d w. bind-unreached p _ _ w (off-quiet z w) λ e o. give-unreached p _ o)
        (λ a v q. keeps_then (is_private_name private) (Copied private) IsConstant 0 _ _ (off-passes y) (λ d. keeps_then (is_private_name private) (Copied private) IsConstant 0 _ _ (off-passes z) (λ e w o. gives _ w o)) v q))
    if-meets (suc zero) {l} {t} i s calm =
        let z = place_other N p b j n private 2 l t i 3 (λ e. omega arith) in
        test-meets private p 13 _ _ _ s (omega arith)
        (off-before (place_other N p b j n private 2 l t i 1 (λ e. omega arith)) _ _ s calm λ a v q.
        part-with private p _ _ _ _ v (ahead l _ (place-element N p b j n private 2 l t i) v q)
        (λ d w. bind-unreached p _ _ w (off-quiet z w) λ e o. give-unreached p _ o)
        (λ d w o. keeps_then (is_private_name private) (Copied private) IsConstant 0 _ _ (off-passes z) (λ e x o. gives _ x o) w o))
    if-meets (suc (suc zero)) {l} {t} i s calm =
        test-meets private p 13 _ _ _ s (omega arith)
        (off-before (place_other N p b j n private 3 l t i 1 (λ e. omega arith)) _ _ s calm λ a v q.
        off-before (place_other N p b j n private 3 l t i 2 (λ e. omega arith)) _ _ v q λ d w o.
        part-with private p _ _ _ _ w (ahead l _ (place-element N p b j n private 3 l t i) w o) (λ e x. give-unreached p _ x) (λ e x z. gives _ x z))
    if-meets (suc (suc (suc k))) {l} {t} i s calm =
        never private p (if-unreached p limit operations fuel def quiet t (other-unheaded p i.headed (i.in_place.once p) 1 (λ e. omega arith)) (other-unheaded p i.headed (i.in_place.once p) 2 (λ e. omega arith)) (other-unheaded p i.headed (i.in_place.once p) 3 (λ e. omega arith)) s)

    -- (lambda (name ...) body)
    lambda-body : {l : List ℕ} {t : Tree} → At (2 ∷ l) t → (s : State) → Calm private p s → Meets private p (expand_lambda limit operations fuel rec t s) (expand_lambda limit operations fuel def t s)
    unfolding expand_lambda add_variables
    lambda-body {l} {t} i s calm =
        let k = s.variables in
        test-meets private p 13 _ _ _ s (omega arith)
        (test-meets private p 14 _ _ _ s (omega arith)
        (get_meets private p _ _ s
        (show-meets private p _ _ _ s (bindings-none p variable k (formals t))
        (goes-meets private p _ _ _ s _ refl
        (part-with private p _ _ _ _ _ (ahead l _ (place-bind_all N p b j n private variable k (formals t) l (element 2 t) (place-element N p b j n private 2 l t i)) _ (record { later = omega arith; rules = calm.rules }))
        (λ a v. give-unreached p _ v) (λ a v z. gives _ v z))))))

    lambda-meets : (k : ℕ) {l : List ℕ} {t : Tree} → At (suc k ∷ l) t → (s : State) → Calm private p s → Meets private p (expand_lambda limit operations fuel rec t s) (expand_lambda limit operations fuel def t s)
    lambda-meets zero {l} {t} i s calm = never private p (lambda-unreached p limit operations fuel def quiet t (other-unheaded p i.headed (i.in_place.once p) 2 (λ e. omega arith)) s)
    lambda-meets (suc zero) i s calm = lambda-body i s calm
    lambda-meets (suc (suc k)) {l} {t} i s calm = never private p (lambda-unreached p limit operations fuel def quiet t (other-unheaded p i.headed (i.in_place.once p) 2 (λ e. omega arith)) s)

    -- another let-syntax or letrec-syntax, with the form in its body
    macros-body : (inside : Bool) (x : Name) → is_at p x ≡ false → {l : List ℕ} {t : Tree} → At (2 ∷ l) t → (s : State) → Calm private p s
        → Meets private p (expand_macros limit operations fuel rec inside x t s) (expand_macros limit operations fuel def inside x t s)
    unfolding expand_macros add_macros any_of is_reached_at is_at rules_forms
    macros-body inside x a {l} {t} i s calm =
        let k = length s.macros in
        let off = place_other N p b j n private 2 l t i 1 (λ e. omega arith) in
        let rules = each_map (cond inside (bind_all macro k (keywords t)) (λ r. r)) (λ r q. scoped-good (is_private_name private) (Copied private) IsConstant c limit operations fuel rec keeps 0 (Public private) public inside k (keywords t) r q)
        (each_map (element 1) (λ r q. tidy-element 1 q) (tidy-elements off.tidy)) in
        show-meets private p _ _ _ s (ap (λ d. d || false) a)
        (test-meets private p 13 _ _ _ s (omega arith)
        (test-meets private p 14 _ _ _ s (omega arith)
        (get_meets private p _ _ s
        (show-meets private p _ _ _ s (bindings-none p macro k (keywords t))
        (part-before private p (λ new u. (u ≡ s) × Each (Each (GoodRule (is_private_name private) (Copied private) IsConstant 0)) new) _ _ _ _ s refl
        (weaken (read_rules-holds (Each (GoodRule (is_private_name private) (Copied private) IsConstant 0)) rules s (λ l _. let g : 11 ≤ 15 = omega arith in g)) (λ z. z) (λ g u l z. z) (λ new u l z. (z.unchanged, z.each)))
        (read-unreached p _ s) λ new u z.
        goes-meets private p _ _ _ u _ refl
        (ahead l _ (place-bind_all N p b j n private macro k (keywords t) l (element 2 t) (place-element N p b j n private 2 l t i)) _
        (subst (λ v. Calm private p (record { steps = v.steps; sum = v.sum; variables = v.variables; macros = v.macros ++ new })) (sym z.0)
        (record { later = omega arith; rules = each_append calm.rules (rules-later (is_private_name private) (Copied private) IsConstant (omega arith) z.1) }))))))))

    macros-meets : (inside : Bool) (x : Name) → is_at p x ≡ false → (k : ℕ) {l : List ℕ} {t : Tree} → At (suc k ∷ l) t → (s : State) → Calm private p s
        → Meets private p (expand_macros limit operations fuel rec inside x t s) (expand_macros limit operations fuel def inside x t s)
    macros-meets inside x a zero {l} {t} i s calm = never private p (macros-unreached p limit operations fuel def quiet inside x a t (other-unheaded p i.headed (i.in_place.once p) 2 (λ e. omega arith)) s)
    macros-meets inside x a (suc zero) i s calm = macros-body inside x a i s calm
    macros-meets inside x a (suc (suc k)) {l} {t} i s calm = never private p (macros-unreached p limit operations fuel def quiet inside x a t (other-unheaded p i.headed (i.in_place.once p) 2 (λ e. omega arith)) s)

    -- a list, by what its head finds
    list-meets : (f : Found) (x : Name) → is_at p x ≡ false → {k : ℕ} {l : List ℕ} {t : Tree} → At (suc k ∷ l) (pair (name x) t) → At (k ∷ l) t → (s : State) → Calm private p s
        → Meets private p (expand_list limit operations fuel rec f x (pair (name x) t) s) (expand_list limit operations fuel def f x (pair (name x) t) s)
    unfolding expand_list tail on_pair
    list-meets (bound (variable m)) x a i o s calm = operands-meets _ o s calm
    list-meets (bound (macro m)) x a {t = t} i o s calm = never private p (use-unreached p limit operations fuel def quiet m (pair (name x) t) s)
    list-meets (form quote) x a {t = t} i o s calm = never private p (quote-unreached p limit operations fuel def quiet (pair (name x) t) s)
    list-meets (form if) x a {k = k} i o s calm = if-meets k i s calm
    list-meets (form lambda) x a {k = k} i o s calm = lambda-meets k i s calm
    list-meets (form let-syntax) x a {k = k} i o s calm = macros-meets false x a k i s calm
    list-meets (form letrec-syntax) x a {k = k} i o s calm = macros-meets true x a k i s calm
    list-meets (form auxiliary) x a i o s calm = never private p (refuse-unreached p 12 s)
    list-meets (operation m) x a i o s calm = operands-meets _ o s calm
    list-meets nothing x a i o s calm = never private p (refuse-unreached p 11 s)

    -- the form, as it is reached
    form-meets : (inside : Bool) (x : Name) {t : Tree} → At [] t → (s : State) → Calm private p s → Meets private p (expand_macros limit operations fuel rec inside x t s) (expand_macros limit operations fuel def inside x t s)
    unfolding sub
    form-meets inside x {t} i s calm _ =
        let e : private_in b j n t ≡ private = fun_ext (λ q. sym (i.privates q)) in
        let body = subst (λ d. Tidy (Public d) IsConstant (element 2 t)) e (form-body IsConstant N t i.in_place b j n) in
        macros-keeps (is_private_name private) (Copied private) IsConstant c limit operations fuel rec keeps 0 inside x t
        (λ k. subst (λ d. Each (λ r. Given (Each (GoodRule (is_private_name d) (Copied d) IsConstant 0)) (rules_of r)) (map (cond inside (bind_all macro k (keywords t)) (λ r. r)) (rules_forms t))) e (form-rules IsConstant N t i.in_place b j n 0 inside k))
        (λ k. keeps 0 _ (bound_all-sound (is_private_name private) (Copied private) c macro k (keywords t) public) _ (bound_all-tidy macro k (keywords t) body))
        s calm

    list-here : (f : Found) (x : Name) {t : Tree} → uses p t ≡ 0 → At [] (pair (name x) t) → (s : State) → Calm private p s
        → Meets private p (expand_list limit operations fuel rec f x (pair (name x) t) s) (expand_list limit operations fuel def f x (pair (name x) t) s)
    unfolding expand_list tail on_pair
    list-here (bound (variable m)) x {t} u i s calm = never private p (operands-unreached p limit operations fuel def quiet _ (unused-unheaded p t u).1 s)
    list-here (bound (macro m)) x {t} u i s calm = never private p (use-unreached p limit operations fuel def quiet m (pair (name x) t) s)
    list-here (form quote) x {t} u i s calm = never private p (quote-unreached p limit operations fuel def quiet (pair (name x) t) s)
    list-here (form if) x {t} u i s calm = never private p (if-unreached p limit operations fuel def quiet (pair (name x) t) (later-unheaded p x t u 0) (later-unheaded p x t u 1) (later-unheaded p x t u 2) s)
    list-here (form lambda) x {t} u i s calm = never private p (lambda-unreached p limit operations fuel def quiet (pair (name x) t) (later-unheaded p x t u 1) s)
    list-here (form let-syntax) x u i s calm = form-meets false x i s calm
    list-here (form letrec-syntax) x u i s calm = form-meets true x i s calm
    list-here (form auxiliary) x u i s calm = never private p (refuse-unreached p 12 s)
    list-here (operation m) x {t} u i s calm = never private p (operands-unreached p limit operations fuel def quiet _ (unused-unheaded p t u).1 s)
    list-here nothing x u i s calm = never private p (refuse-unreached p 11 s)

    -- ---- an expression

    pair-list : (rec : Tree → M (Term Name)) {l : List ℕ} {h : Tree} → Headed p l h → (t : Tree) → expand_pair limit operations fuel rec h t ≡ expand_application limit operations fuel rec h t
    unfolding expand_pair
    pair-list rec (headed e) t = refl
    pair-list rec (in-first g) t = refl
    pair-list rec (in-later g) t = refl

    later-meets : (h : Tree) {k : ℕ} {l : List ℕ} {t : Tree} → At (suc k ∷ l) (pair h t) → Off h × At (k ∷ l) t → (s : State) → Calm private p s
        → Meets private p (expand_pair limit operations fuel rec h t s) (expand_pair limit operations fuel def h t s)
    unfolding expand_pair any_of is_reached_at
    later-meets empty i a s calm = application-later a s calm
    later-meets (constant d) i a s calm = application-later a s calm
    later-meets (name x) i a s calm = show-meets private p _ _ _ s refl (list-meets (lookup operations x) x (unused-name p x a.0.unused) i a.1 s calm)
    later-meets (pair g h) i a s calm = application-later a s calm

    tree-meets : {l : List ℕ} {t : Tree} → Headed p l t → At l t → (s : State) → Calm private p s → Meets private p (expand_tree limit operations fuel rec t s) (expand_tree limit operations fuel def t s)
    unfolding expand_tree expand_pair any_of is_reached_at uses
    tree-meets (headed {x = x} {t = t} e) i s calm = show-meets private p _ _ _ s refl (list-here (lookup operations x) x (omega (arith, headed-one p x e, i.in_place.once p)) i s calm)
    tree-meets (in-first {l = l} {h = h} {t = t} g) i s calm =
        subst₂ (λ m d. Meets private p (m s) (d s)) (sym (pair-list rec g t)) (sym (pair-list def g t)) (application-first (place-first N p b j n private l h t g i) s calm)
    tree-meets (in-later {k = k} {l = l} {h = h} {t = t} g) i s calm = later-meets h i (place-later N p b j n private k l h t g i) s calm

-- ---- any tree in place

module _ (N : ℕ → ℕ) (p b j n : ℕ) (private : ℕ → Bool) (c : Carried (is_private_name private) (Copied private)) (test : Tree → State → Bool) (follows : Follows (is_private_name private) (Copied private) IsConstant test)
    (rests : (t : Tree) → InPlace IsConstant N t → (s : State) → test t s ≡ true) where
  pub place-passes : (limit inner : ℕ) (operations : List ℕ) (fuel gas : ℕ) (l : List ℕ) (t : Tree) → Place N p b j n private l t → (s : State) → Calm private p s
      → Meets private p (watched test limit inner operations fuel gas t s) (expand_within limit inner operations fuel gas t s)
  unfolding watched expand_within
  place-passes limit inner operations fuel zero l t i s calm = λ e. is_starved tt
  place-passes limit inner operations fuel (suc gas) l t i s calm =
      subst (λ d. Meets private p (cond d (expand_tree limit operations fuel (watched test inner inner operations fuel gas) t) (refuse 0) s) (expand_tree limit operations fuel (expand inner operations fuel gas) t s)) (sym (rests t i.in_place s))
      (tree-meets N p b j n private c test follows limit inner operations fuel gas (place-passes inner inner operations fuel gas) i.headed i s calm)
