-- A test that follows from what is kept of the names at hand fails nowhere: `watched-keeps`. One law for each form, and one induction on gas.
use Rattle.std.specs.Prelude.{◌≡◌, refl, ◌⊎◌, Bool, cond, length}
use Rattle.std.proofs.Math.Path.{ap, subst}
use Rattle.std.proofs.Common.{sym, ◌∙◌, arith}
use Rattle.std.proofs.Math.Logic.{inl, inr}
use Rattle.std.proofs.Math.Bool.{true, false}
use mathlib.Core.List.{List, [], ◌++◌, map}
use Rattle.std.proofs.Math.Option.{Option}
use Prim.Native.Nat.{ℕ, zero, suc, ◌≤◌}
use Rattle.words.specs.Each.{Each, none_of, also, each_weaken, each_append, each-get_d, each_map, Given, missing, given, given-at, given-weaken}
use Rattle.datum.specs.Constant.{Constant}
use Rattle.recipe.specs.Name.{variable, macro, Name, mark_name, produce_name}
use Rattle.recipe.specs.Tree.{Tree, is_list, element, tail, mark, produce, bind_all}
use Rattle.recipe.specs.Tidy.{Tidy, tidy_empty, tidy_constant, tidy_name, tidy_pair, tidy-elements, tidy-element, tidy-tail, tidy-on_names}
use Rattle.core_term.specs.Term.{Term}
use Rattle.expansion.specs.Lookup.{quote, if, lambda, let-syntax, letrec-syntax, auxiliary, Found, bound, form, operation, nothing, lookup}
use Rattle.expansion.specs.Rules.{Template, Rule, rules_of}
use Rattle.expansion.specs.Match.{fit, or_next, first_fit}
use Rattle.expansion.specs.Transcribe.{transcribe}
use Rattle.expansion.specs.Computation.{State, Events, Out, refused, M, ◌>>=◌, ◌>>◌, give, refuse, show, test}
use Rattle.expansion.specs.Forms.{formals, keywords, rules_forms, expand_all, expand_quote, expand_if, expand_lambda, expand_macros, expand_use, expand_operands, expand_list, expand_name, expand_application, expand_pair, expand_tree}
use Rattle.expansion.specs.Outcomes.{Holds, is_refused, is_starved}
use Rattle.expansion.proofs.OutcomesLaws.{give_holds, refuse-holds, test-holds, show-holds, get_holds, add_variables-holds, add_macros-holds, add_step-holds, then-holds, or_refuse-holds, weaken}
use Rattle.expansion.proofs.FormLaws.{read_rules-holds}
use Rattle.expansion.specs.TidyRules.{TidyTemplate, template_variable, template_insert, template_constant, template_empty, template_pair, template_ellipsis, TidyRules}
use Rattle.expansion.proofs.TidyRulesLaws.{template-weaken, rules_of-tidy, transcribe-tidy}
use Rattle.private_names_proof.specs.Invariants.Watch.{watched, FailsNowhere}
use Rattle.private_names_proof.specs.Invariants.Kinds.{Carried}
use Rattle.private_names_proof.proofs.Invariants.KindsLaws.{Good, good-fewer, good-later, Sound, bound_all-tidy, bound_all-sound, Result, inserted, handed, inserted-from, used-from, result-sound}
use Rattle.private_names_proof.specs.Invariants.Kept.{Inserts, here, in-element, in_head, in_rest, in_tail}

-- ---- the names that a template inserts

module _ {N : Name → Type 0} {C : Constant → Type 0} where
  pub inserts-tidy : {t : Template} → TidyTemplate N C t → (x : Name) → Inserts x t → N x
  inserts-tidy template_variable x i = elim i [ ]
  inserts-tidy (template_insert f) x here = f
  inserts-tidy (template_constant c) x i = elim i [ ]
  inserts-tidy template_empty x i = elim i [ ]
  inserts-tidy (template_pair a b l) x (in_head i) = inserts-tidy a x i
  inserts-tidy (template_pair a b l) x (in_tail i) = inserts-tidy b x i
  inserts-tidy (template_ellipsis a b l) x (in-element i) = inserts-tidy a x i
  inserts-tidy (template_ellipsis a b l) x (in_rest i) = inserts-tidy b x i

  pub tidy-inserts : {t : Template} → TidyTemplate N C t → TidyTemplate (λ x. Inserts x t) C t
  tidy-inserts template_variable = template_variable
  tidy-inserts (template_insert f) = template_insert here
  tidy-inserts (template_constant c) = template_constant c
  tidy-inserts template_empty = template_empty
  tidy-inserts (template_pair a b l) = template_pair (template-weaken (λ x i. in_head i) (tidy-inserts a)) (template-weaken (λ x i. in_tail i) (tidy-inserts b)) l
  tidy-inserts (template_ellipsis a b l) = template_ellipsis (template-weaken (λ x i. in-element i) (tidy-inserts a)) (template-weaken (λ x i. in_rest i) (tidy-inserts b)) l

module _ {P : Rule → Type 0} where
  or_next-each : (r : Rule) (l : List Name) (b : Bool) (later : List Name × Option Rule) → P r → Given P later.1 → Given P (or_next r l b later).1
  unfolding or_next
  or_next-each r l true later p g = given p
  or_next-each r l false later p g = g

  first_fit-each : {rules : List Rule} (used : Tree) → Each P rules → Given P (first_fit rules used).1
  unfolding first_fit
  first_fit-each used none_of = missing
  first_fit-each used (also {x = r} {xs = rs} p ps) = or_next-each r (fit r.pattern used).0 (fit r.pattern used).1 (first_fit rs used) p (first_fit-each used ps)

module _ {Z : Type 0} (F : Name → Z) (E : Name → Type 0) (C : Constant → Type 0) where
  -- ---- rules and states

  -- a rule, after k steps
  pub record GoodRule (k : ℕ) (r : Rule) : Type 0 where
    pub good : Good F k (λ x. Inserts x r.template)
    pub tidy : TidyTemplate (λ x. Inserts x r.template) C r.template

  pub good_rules : {k : ℕ} {Q : Name → Type 0} → Good F k Q → {rules : List Rule} → TidyRules Q C rules → Each (GoodRule k) rules
  good_rules g = each_weaken (λ r a. record { good = good-fewer F (inserts-tidy a) g; tidy = tidy-inserts a })

  pub rules-later : {k l : ℕ} → k ≤ l → {macros : List (List Rule)} → Each (Each (GoodRule k)) macros → Each (Each (GoodRule l)) macros
  rules-later h = each_weaken (λ rules. each_weaken (λ r g. record { good = good-later F h g.good; tidy = g.tidy }))

  -- a state after k steps or more
  pub record After (k : ℕ) (s : State) : Type 0 where
    pub later : k ≤ s.steps
    pub rules : Each (Each (GoodRule s.steps)) s.macros

  -- no test failed
  abbrev pub Passes : {A : Type 0} → ℕ → Out A → Type 0
  Passes k o = Holds (Unit {0}) (λ g u l. 11 ≤ g) (λ a u l. After k u) o

  abbrev pub Keeps : {A : Type 0} → ℕ → M A → Type 0
  Keeps k n = (s : State) → After k s → Passes k (n s)

  module _ (k : ℕ) {A : Type 0} where
    pub keeps-give : (a : A) → Keeps k (give a)
    keeps-give a s h = give_holds a s h

    keeps-refuse : (g : ℕ) → 11 ≤ g → Keeps k (refuse {A = A} g)
    keeps-refuse g r s h = refuse-holds g s r

    keeps-test : (g : ℕ) (b : Bool) (n : M A) → 11 ≤ g → Keeps k n → Keeps k (◌>>◌ (test g b) n)
    keeps-test g b n r q s h = test-holds g b n s r λ e. q s h

    keeps-show : (l : Events) (n : M A) → Keeps k n → Keeps k (◌>>◌ (show l) n)
    keeps-show l n q s h = show-holds l n s (q s h)

  pub keeps_then : (k : ℕ) {A B : Type 0} (n : M A) (f : A → M B) → Keeps k n → ((a : A) → Keeps k (f a)) → Keeps k (◌>>=◌ n f)
  keeps_then k n f h q s a = then-holds _ n f s (h s a) λ x t l w. q x t w

  -- ---- forms

  -- an expander that keeps what is known of the names at hand
  abbrev pub KeepsAll : (Tree → M (Term Name)) → Type 1
  KeepsAll rec = (k : ℕ) (Q : Name → Type 0) → Sound F E k Q → (t : Tree) → Tidy Q C t → Keeps k (rec t)

  module _ (c : Carried F E) (limit : ℕ) (operations : List ℕ) (fuel : ℕ) (rec : Tree → M (Term Name)) (good : KeepsAll rec) where
    -- the rules of a form, and its body
    pub macros-keeps : (k : ℕ) (inside : Bool) (x : Name) (t : Tree)
        → ((j : ℕ) → Each (λ r. Given (Each (GoodRule k)) (rules_of r)) (map (cond inside (bind_all macro j (keywords t)) (λ r. r)) (rules_forms t)))
        → ((j : ℕ) → Keeps k (rec (bind_all macro j (keywords t) (element 2 t)))) → Keeps k (expand_macros limit operations fuel rec inside x t)
    unfolding expand_macros
    macros-keeps k inside x t rules body =
        keeps-show k _ _
        (keeps-test k 13 _ _ (omega arith)
        (keeps-test k 14 _ _ (omega arith) λ s h.
        get_holds _ s
        (show-holds _ _ s
        (then-holds _ _ _ s (read_rules-holds (Each (GoodRule k)) (rules (length s.macros)) s (λ l _. omega arith)) λ new u l read.
        add_macros-holds _ _ u
        (body (length s.macros) _
        (subst (λ z. After k (record { steps = z.steps; sum = z.sum; variables = z.variables; macros = z.macros ++ new })) (sym read.unchanged)
        (record { later = h.later; rules = each_append h.rules (rules-later h.later read.each) })))))))

    module _ (k : ℕ) (Q : Name → Type 0) (sd : Sound F E k Q) where
      pub all-keeps : {t : Tree} → Tidy Q C t → Keeps k (expand_all limit operations fuel rec t)
      unfolding expand_all
      all-keeps tidy_empty = keeps-give k _
      all-keeps (tidy_constant a) = keeps-give k _
      all-keeps (tidy_name x) = keeps-give k _
      all-keeps (tidy_pair h t l) = keeps_then k _ _ (good k Q sd _ h) λ a. keeps_then k _ _ (all-keeps t) λ b. keeps-give k _

      pub operands-keeps : (a : Term Name) {t : Tree} → Tidy Q C t → Keeps k (expand_operands limit operations fuel rec a t)
      unfolding expand_operands
      operands-keeps a t = keeps_then k _ _ (all-keeps t) λ b. keeps-give k _

      application-keeps : {h t : Tree} → Tidy Q C h → Tidy Q C t → Keeps k (expand_application limit operations fuel rec h t)
      unfolding expand_application
      application-keeps h t = keeps_then k _ _ (good k Q sd _ h) λ a. operands-keeps a t

      quote-keeps : (t : Tree) → Keeps k (expand_quote limit operations fuel rec t)
      unfolding expand_quote
      quote-keeps t = keeps-test k 13 _ _ (omega arith) (keeps-show k _ _ (keeps-give k _))

      if-keeps : {t : Tree} → Tidy Q C t → Keeps k (expand_if limit operations fuel rec t)
      unfolding expand_if
      if-keeps t =
          keeps-test k 13 _ _ (omega arith)
          (keeps_then k _ _ (good k Q sd _ (tidy-element 1 t)) λ a.
          keeps_then k _ _ (good k Q sd _ (tidy-element 2 t)) λ b.
          keeps_then k _ _ (good k Q sd _ (tidy-element 3 t)) λ d.
          keeps-give k _)

      lambda-keeps : {t : Tree} → Tidy Q C t → Keeps k (expand_lambda limit operations fuel rec t)
      unfolding expand_lambda
      lambda-keeps {t} a =
          keeps-test k 13 _ _ (omega arith)
          (keeps-test k 14 _ _ (omega arith) λ s h.
          get_holds _ s
          (show-holds _ _ s
          (add_variables-holds _ _ s
          (keeps_then k _ _ (good k _ (bound_all-sound F E c variable s.variables (formals t) sd) _ (bound_all-tidy variable s.variables (formals t) (tidy-element 2 a))) (λ w. keeps-give k _) _
          (record { later = h.later; rules = h.rules })))))

      -- a rules form, as it is read
      pub scoped-good : (inside : Bool) (j : ℕ) (xs : List Name) (r : Tree) → Tidy Q C r → Given (Each (GoodRule k)) (rules_of (cond inside (bind_all macro j xs) (λ r. r) r))
      scoped-good true j xs r a = given-weaken (λ rules. good_rules (bound_all-sound F E c macro j xs sd).good) (rules_of-tidy (bound_all-tidy macro j xs a))
      scoped-good false j xs r a = given-weaken (λ rules. good_rules sd.good) (rules_of-tidy a)

      form-keeps : (inside : Bool) (x : Name) {t : Tree} → Tidy Q C t → Keeps k (expand_macros limit operations fuel rec inside x t)
      unfolding rules_forms
      form-keeps inside x {t} a =
          macros-keeps k inside x t
          (λ j. each_map _ (λ r. scoped-good inside j (keywords t) r) (each_map (element 1) (λ r b. tidy-element 1 b) (tidy-elements (tidy-element 1 a))))
          (λ j. good k _ (bound_all-sound F E c macro j (keywords t) sd) _ (bound_all-tidy macro j (keywords t) (tidy-element 2 a)))

      -- a step's result, from the rule that fits and the use
      result-tidy : (m : ℕ) → k ≤ m → (r : Rule) → GoodRule m r → {t : Tree} → Tidy Q C t
          → Tidy (Result F E m (λ x. Inserts x r.template) Q) C (produce (mark (suc m) (transcribe r.pattern (tail (mark (suc m) t)) [] r.template)))
      unfolding produce mark
      result-tidy m h r g {t} a =
          let N : Name → Type 0 = λ z. Inserts z r.template ⊎ ((x : Name) × Q x × (z ≡ mark_name (suc m) x)) in
          let u : Tidy N C (tail (mark (suc m) t)) = tidy-tail (tidy-on_names (mark_name (suc m)) (λ x q. inr (x, q, refl)) a) in
          tidy-on_names produce_name go (tidy-on_names (mark_name (suc m)) (λ x q. (x, q, refl)) (transcribe-tidy r.pattern u [] (template-weaken (λ x i. inl i) g.tidy)).0)
        where
          go : (z : Name) → (x : Name) × (Inserts x r.template ⊎ ((y : Name) × Q y × (x ≡ mark_name (suc m) y))) × (z ≡ mark_name (suc m) x) → Result F E m (λ x. Inserts x r.template) Q (produce_name z)
          go z (x, inl i, e) = subst (λ w. Result F E m (λ x. Inserts x r.template) Q (produce_name w)) (sym e) (inserted x i (inserted-from F E c m x (g.good.fresh x i)))
          go z (x, inr (y, q, f), e) = subst (λ w. Result F E m (λ x. Inserts x r.template) Q (produce_name w)) (sym (e ∙ ap (mark_name (suc m)) f)) (handed y q (used-from F E c m y ((good-later F h sd.good).fresh y q)))

      use-keeps : (n : ℕ) {t : Tree} → Tidy Q C t → Keeps k (expand_use limit operations fuel rec n t)
      unfolding expand_use
      use-keeps n {t} a s h =
          let m = s.steps in
          get_holds _ s
          (show-holds _ _ s
          (or_refuse-holds 16 _ _ s (omega arith) λ r e.
          test-holds 17 _ _ s (omega arith) λ _.
          test-holds 18 _ _ s (omega arith) λ _.
          add_step-holds _ _ s
          (let g : GoodRule m r = given-at (first_fit-each (tail (mark (suc m) t)) (each-get_d n [] h.rules none_of)) e in
          weaken (good (suc m) _ (result-sound F E c g.good (good-later F h.later sd.good)) _ (result-tidy m h.later r g a) _ (record { later = omega arith; rules = rules-later (omega arith) h.rules }))
          (λ x. x) (λ g u l q. q) (λ w u l q. record { later = omega (arith, q.later, h.later); rules = q.rules }))))

      list-keeps : (f : Found) (x : Name) {t : Tree} → Tidy Q C t → Keeps k (expand_list limit operations fuel rec f x t)
      unfolding expand_list
      list-keeps (bound (variable n)) x a = operands-keeps _ (tidy-tail a)
      list-keeps (bound (macro n)) x a = use-keeps n a
      list-keeps (form quote) x {t} a = quote-keeps t
      list-keeps (form if) x a = if-keeps a
      list-keeps (form lambda) x a = lambda-keeps a
      list-keeps (form let-syntax) x a = form-keeps false x a
      list-keeps (form letrec-syntax) x a = form-keeps true x a
      list-keeps (form auxiliary) x a = keeps-refuse k 12 (omega arith)
      list-keeps (operation p) x a = operands-keeps _ (tidy-tail a)
      list-keeps nothing x a = keeps-refuse k 11 (omega arith)

      name-keeps : (f : Found) → Keeps k (expand_name limit operations fuel rec f)
      unfolding expand_name
      name-keeps (bound (variable n)) = keeps-give k _
      name-keeps (bound (macro n)) = keeps-refuse k 12 (omega arith)
      name-keeps (form f) = keeps-refuse k 12 (omega arith)
      name-keeps (operation p) = keeps-give k _
      name-keeps nothing = keeps-refuse k 11 (omega arith)

      pair_keeps : {h t : Tree} → Tidy Q C h → Tidy Q C t → is_list t ≡ true → Keeps k (expand_pair limit operations fuel rec h t)
      unfolding expand_pair
      pair_keeps tidy_empty t l = application-keeps tidy_empty t
      pair_keeps (tidy_constant a) t l = application-keeps (tidy_constant a) t
      pair_keeps (tidy_name {x} q) t l = keeps-show k _ _ (list-keeps (lookup operations x) x (tidy_pair (tidy_name q) t l))
      pair_keeps (tidy_pair a b i) t l = application-keeps (tidy_pair a b i) t

      tree-keeps : {t : Tree} → Tidy Q C t → Keeps k (expand_tree limit operations fuel rec t)
      unfolding expand_tree
      tree-keeps tidy_empty = keeps-refuse k 13 (omega arith)
      tree-keeps (tidy_constant a) = keeps-give k _
      tree-keeps (tidy_name {x} q) = keeps-show k _ _ (name-keeps (lookup operations x))
      tree-keeps (tidy_pair h t l) = pair_keeps h t l

  -- a test that follows from what is known of the names at hand
  abbrev pub Follows : (Tree → State → Bool) → Type 1
  Follows test = (k : ℕ) (Q : Name → Type 0) → Sound F E k Q → (t : Tree) → Tidy Q C t → (s : State) → k ≤ s.steps → test t s ≡ true

  pub watched-keeps : Carried F E → (test : Tree → State → Bool) → Follows test → (limit inner : ℕ) (operations : List ℕ) (fuel gas : ℕ) → KeepsAll (watched test limit inner operations fuel gas)
  unfolding watched
  watched-keeps c test follows limit inner operations fuel zero k Q sd t a s h = is_starved tt
  watched-keeps c test follows limit inner operations fuel (suc gas) k Q sd t a s h =
      subst (λ b. Passes k (cond b (expand_tree limit operations fuel (watched test inner inner operations fuel gas) t) (refuse 0) s)) (sym (follows k Q sd t a s h.later))
      (tree-keeps c limit operations fuel (watched test inner inner operations fuel gas) (watched-keeps c test follows inner inner operations fuel gas) k Q sd a s h)

  pub fails-nowhere : {A : Type 0} {k : ℕ} {o : Out A} → Passes k o → FailsNowhere o
  fails-nowhere {A} {k} p s l e = go (subst (λ q. Passes k q) e p)
    where
      go : Passes {A = A} k (refused 0 s l) → ⊥
      go (is_refused h) = omega arith
