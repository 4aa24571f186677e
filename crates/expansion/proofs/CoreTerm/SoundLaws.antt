-- Expansion makes sound terms: from a tree and a state of a world, every node of the term is one, its variables are of the world or bound
-- inside, its lambdas' first numbers go on from the state's count, its operations and names are known, and the world stays closed.
use Rattle.std.specs.Prelude.{◌≡◌, Bool, ◌&&◌, cond}
use Rattle.std.proofs.Math.Path.{refl, ap}
use Rattle.std.proofs.Common.{sym, subst, arith, leb-true}
use Rattle.std.proofs.Math.Bool.{true, false}
use mathlib.Core.List.{List, [], ◌++◌, map}
use Prim.Native.Nat.{ℕ, zero, suc, ◌+◌, ◌≤◌, ◌<◌}
use Rattle.std.proofs.Math.ListN.{length, length-map}
use Rattle.words.specs.Limits.{formals_most}
use Rattle.words.specs.Lists.{all_of}
use Rattle.words.specs.TestLaws.{and_parts, and_both}
use Rattle.words.specs.Each.{Each, each_weaken, each_map, true-each, given-at}
use Rattle.recipe.specs.Name.{macro, Name}
use Rattle.recipe.specs.Tree.{Tree, is_list, is_list_of, is_ordinary_name, elements, element, tail, mark, bind_all}
use Rattle.recipe.specs.Tidy.{tidy_empty, tidy_constant, tidy_name, tidy_pair, tidy-elements, tidy-element, tidy-names, tidy-tail, tidy-mark, tidy-produce, tidy-formals}
use Rattle.core_term.specs.Node.{is_node}
use Rattle.core_term.specs.Term.{Term, variable_c, operation_c, if_c, application_c, none_c, more_c, variables, variables_all, on_formals}
use Rattle.core_term.specs.Every.{Asked, every_datum, every, every_term}
use Rattle.core_term.specs.Check.{Scope, inside, variable_inside, first_number, known}
use Rattle.expansion.specs.Lookup.{quote, if, lambda, let-syntax, letrec-syntax, auxiliary, Found}
use Rattle.expansion.specs.Computation.{State, Out, M}
use Rattle.expansion.specs.Forms.{is_lambda, formals, keywords, rules_forms, expand_all, expand_quote, expand_if, expand_lambda, expand_macros, expand_use, expand_operands, expand_list, expand_name, expand_application, expand_pair, expand_tree, expand_within}
use Rattle.expansion.specs.Run.{told, told_all}
use Rattle.expansion.specs.Outcomes.{is_starved}
use Rattle.expansion.proofs.OutcomesLaws.{give_holds, refuse-holds, test-holds, show-holds, get_holds, add_variables-holds, add_macros-holds, add_step-holds, then-holds, or_refuse-holds, weaken}
use Rattle.expansion.proofs.FormLaws.{read_rules-holds, keywords-count}
use Rattle.expansion.specs.CoreTerm.Worlds.{World, FineTree, FineRules, Meant, meant_variable, meant_macro, meant_form, meant_operation, meant_nothing}
use Rattle.expansion.proofs.CoreTerm.WorldsLaws.{fine-mark, fine-produce, lookup-meant}
use Rattle.expansion.proofs.TidyRulesLaws.{rules_of-tidy, first_fit-tidy, transcribe-tidy}
use Rattle.expansion.specs.CoreTerm.SoundTerms.{sound}
use Rattle.expansion.proofs.CoreTerm.SoundTermsLaws.{variable-sound, operation-sound, constant-sound, lambda-sound, strip-sound}
use Rattle.expansion.specs.CoreTerm.WorldState.{Closed, Grown, widen, with_variables, with_macros}
use Rattle.expansion.proofs.CoreTerm.WorldStateLaws.{variables-fine, macros-fine, forms-fine, grown-same, grown-then, closed-grown, closed-variables, closed-macros}
use Rattle.expansion.specs.CoreTerm.Sound.{Made, Makes}

-- a lambda binds as many names as it has formals, at most 8
formals-most : {W : World} {t : Tree} → FineTree W t → is_lambda t ≡ true → length (formals t) ≤ formals_most
unfolding is_lambda formals
formals-most {t = t} f e =
    let a = and_parts (is_list_of 3 t) _ e in
    let b = and_parts (is_list (element 1 t)) _ a.1 in
    let d = and_parts (all_of is_ordinary_name (elements (element 1 t))) _ b.1 in
    omega (arith, tidy-formals (tidy-element 1 f) b.0 d.0, leb-true (length (elements (element 1 t))) formals_most d.1)

-- their numbers are of the world
formals-known : {W : World} {t : Tree} → FineTree W t → all_of W.names (map (λ x. x.number) (formals t)) ≡ true
unfolding formals
formals-known {W} f = true-each W.names (each_map (λ x. x.number) (λ x g. g.number) (tidy-names (tidy-element 1 f)))

rules_forms-fine : {W : World} {t : Tree} → FineTree W t → Each (FineTree W) (rules_forms t)
unfolding rules_forms
rules_forms-fine f = each_map (element 1) (λ c g. tidy-element 1 g) (tidy-elements (tidy-element 1 f))

-- ---- what is made

-- one after the other: the second is told how many variables are before it
made_then : {s t u : State} {b : Bool} {m : ℕ} (f : ℕ → Bool) {n : ℕ} → Made s b m t → Made t (f t.variables) n u → Made s (b && f (s.variables + m)) (m + n) u
made_then {b} f p q = record {
  passed = and_both b _ p.passed (subst (λ k. f k ≡ true) p.counted q.passed);
  counted = omega (arith, p.counted, q.counted);
  grown = grown-then p.grown q.grown;
}

-- after a change of state that binds no variable
made_after : {s t u : State} (f : ℕ → Bool) {n : ℕ} → t.variables ≡ s.variables → Grown s t → Made t (f t.variables) n u → Made s (f s.variables) n u
made_after f e g p = record { passed = subst (λ k. f k ≡ true) e p.passed; counted = omega (arith, p.counted, e); grown = grown-then g p.grown }

made_none : (s : State) {b : Bool} → b ≡ true → Made s b 0 s
made_none s e = record { passed = e; counted = omega arith; grown = grown-same refl }

module _ (limit : ℕ) (operations : List ℕ) (fuel : ℕ) where
  abbrev asks : World → Asked Scope
  asks W = sound (length operations) W.names

  -- a sound term, from a state of the world
  abbrev pub MadeTerm : World → State → Term Name → State → Type 0
  MadeTerm W s w u = Made s (every (asks W) W.variables s.variables (told w)) (variables (told w)) u

  abbrev pub MakesTerm : World → State → Out (Term Name) → Type 0
  MakesTerm W s = Makes (MadeTerm W s)

  -- an expander that makes sound terms in every world
  abbrev pub Sound : (Tree → M (Term Name)) → Type 0
  Sound rec = (W : World) (t : Tree) → FineTree W t → (s : State) → Closed W s → MakesTerm W s (rec t s)

  module _ (rec : Tree → M (Term Name)) (good : Sound rec) (W : World) where
    all_made : {t : Tree} → FineTree W t → (s : State) → Closed W s → Makes (λ ws u. Made s (every_term (asks W) W.variables s.variables (told_all ws)) (variables_all (told_all ws)) u) (expand_all limit operations fuel rec t s)
    unfolding expand_all on_formals every variables
    all_made tidy_empty s c = give_holds none_c s (made_none s refl)
    all_made (tidy_constant a) s c = give_holds none_c s (made_none s refl)
    all_made (tidy_name x) s c = give_holds none_c s (made_none s refl)
    all_made (tidy_pair h t l) s c =
        then-holds _ _ _ s (good W _ h s c) λ a u i p.
        then-holds _ _ _ u (all_made t u (closed-grown c p.grown)) λ b v j q.
        give_holds (more_c a b) v (made_then (λ k. every_term (asks W) W.variables k (told_all b)) p q)

    operands-made : (a : Term Name) {t : Tree} (s u : State) → MadeTerm W s a u → FineTree W t → Closed W u
        → MakesTerm W s (expand_operands limit operations fuel rec a t u)
    unfolding expand_operands on_formals every variables sound is_node inside variable_inside first_number known
    operands-made a s u p f c =
        then-holds _ _ _ u (all_made f u c) λ b v l q.
        give_holds (application_c a b) v (made_then (λ k. every_term (asks W) W.variables k (told_all b)) p q)

    application-made : {h t : Tree} → FineTree W h → FineTree W t → (s : State) → Closed W s → MakesTerm W s (expand_application limit operations fuel rec h t s)
    unfolding expand_application
    application-made h t s c =
        then-holds _ _ _ s (good W _ h s c) λ a u l p.
        operands-made a s u p t (closed-grown c p.grown)

    quote-made : {t : Tree} → FineTree W t → (s : State) → MakesTerm W s (expand_quote limit operations fuel rec t s)
    unfolding expand_quote on_formals every variables
    quote-made f s =
        test-holds _ _ _ s tt λ _.
        show-holds _ _ s
        (give_holds _ s (made_none s (strip-sound (length operations) W W.variables s.variables (tidy-element 1 f))))

    if-made : {t : Tree} → FineTree W t → (s : State) → Closed W s → MakesTerm W s (expand_if limit operations fuel rec t s)
    unfolding expand_if on_formals every variables sound is_node inside variable_inside first_number known
    if-made f s c =
        test-holds _ _ _ s tt λ _.
        then-holds _ _ _ s (good W _ (tidy-element 1 f) s c) λ x u i p.
        then-holds _ _ _ u (good W _ (tidy-element 2 f) u (closed-grown c p.grown)) λ y v j q.
        then-holds _ _ _ v (good W _ (tidy-element 3 f) v (closed-grown c (grown-then p.grown q.grown))) λ z w k r.
        give_holds (if_c x y z) w (made_then (λ b. every (asks W) W.variables b (told y) && every (asks W) W.variables (b + variables (told y)) (told z)) p (made_then (λ b. every (asks W) W.variables b (told z)) q r))

    lambda-made : {t : Tree} → FineTree W t → (s : State) → Closed W s → MakesTerm W s (expand_lambda limit operations fuel rec t s)
    unfolding expand_lambda on_formals every variables sound inside with_variables widen
    lambda-made {t} f s c =
        let k = s.variables in
        let n = length (formals t) in
        let same : length (map (λ x. x.number) (formals t)) ≡ n = length-map (formals t) (λ x. x.number) in
        test-holds _ _ _ s tt λ shape.
        test-holds _ _ _ s tt λ _.
        get_holds _ s
        (show-holds _ _ s
        (add_variables-holds _ _ s
        (then-holds _ _ _ _ (good (with_variables k n W) _ (variables-fine k (formals t) (tidy-element 2 f)) _ (closed-grown (closed-variables k n c) (grown-same refl))) λ w u l p.
        give_holds _ u (record {
          passed = and_both _ _ (lambda-sound (length operations) W.names W.variables k (map (λ x. x.number) (formals t)) (omega (arith, same, formals-most f shape)) (formals-known f))
              (subst (λ m. every (asks W) (with_variables k m W).variables (k + m) (told w) ≡ true) (sym same) p.passed);
          counted = omega (arith, p.counted, same);
          grown = grown-then (grown-same refl) p.grown;
        }))))

    macros-made : (inside : Bool) (x : Name) {t : Tree} → FineTree W t → (s : State) → Closed W s → MakesTerm W s (expand_macros limit operations fuel rec inside x t s)
    unfolding expand_macros with_macros
    macros-made inside x {t} f s c =
        let k = length s.macros in
        let xs = keywords t in
        show-holds _ _ s
        (test-holds _ _ _ s tt λ shape.
        test-holds _ _ _ s tt λ _.
        get_holds _ s
        (show-holds _ _ s
        (then-holds _ _ _ s (read_rules-holds (FineRules (with_macros k (length xs) W)) (each_weaken (λ r. rules_of-tidy) (forms-fine inside k xs (rules_forms-fine f))) s (λ l _. tt)) λ rules u l read.
        add_macros-holds _ _ u
        (let added : u.macros ++ rules ≡ s.macros ++ rules = ap (λ (z : State). z.macros ++ rules) read.unchanged in
        let enough : length xs ≤ length rules = omega (arith, read.count, keywords-count limit t shape, length-map (rules_forms t) (cond inside (bind_all macro k xs) (λ r. r))) in
        weaken (good (with_macros k (length xs) W) _ (macros-fine k xs (tidy-element 2 f)) _ (closed-macros (length xs) rules c enough read.each added)) (λ x. x) (λ g v j r. r) λ w v j p.
        made_after (λ b. every (asks W) W.variables b (told w)) (ap (λ (z : State). z.variables) read.unchanged) (record { more = rules; macros = added }) p))))

    use-made : (n : ℕ) → W.macros n ≡ true → {t : Tree} → FineTree W t → (s : State) → Closed W s → MakesTerm W s (expand_use limit operations fuel rec n t s)
    unfolding expand_use
    use-made n h {t} f s c =
        let m = suc s.steps in
        let used = tidy-tail (tidy-mark m (fine-mark m) f) in
        get_holds _ s
        (show-holds _ _ s
        (or_refuse-holds _ _ _ s tt λ r e.
        test-holds _ _ _ s tt λ _.
        test-holds _ _ _ s tt λ _.
        add_step-holds _ _ s
        (let template = given-at (first_fit-tidy (tail (mark m t)) (c.rules n h)) e in
        let result = (transcribe-tidy r.pattern used [] template).0 in
        weaken (good W _ (tidy-produce fine-produce (tidy-mark m (fine-mark m) result)) _ (closed-grown c (grown-same refl))) (λ x. x) (λ g v j r. r) λ w v j p.
        made_after (λ b. every (asks W) W.variables b (told w)) refl (grown-same refl) p)))

    -- a variable or an operation
    variable-made : {n : ℕ} → W.variables n ≡ true → (s : State) → MadeTerm W s (variable_c n) s
    unfolding on_formals every variables
    variable-made {n} h s = made_none s (variable-sound (length operations) W.names W.variables s.variables n h)

    operation-made : {p : ℕ} → p < length operations → (s : State) → MadeTerm W s (operation_c p) s
    unfolding on_formals every variables
    operation-made {p} h s = made_none s (operation-sound (length operations) W.names W.variables s.variables p h)

    list-made : {g : Found} → Meant W (length operations) g → (x : Name) {t : Tree} → FineTree W t → (s : State) → Closed W s → MakesTerm W s (expand_list limit operations fuel rec g x t s)
    unfolding expand_list
    list-made (meant_variable h) x f s c = operands-made _ s s (variable-made h s) (tidy-tail f) c
    list-made (meant_macro h) x f s c = use-made _ h f s c
    list-made (meant_form {f = quote}) x f s c = quote-made f s
    list-made (meant_form {f = if}) x f s c = if-made f s c
    list-made (meant_form {f = lambda}) x f s c = lambda-made f s c
    list-made (meant_form {f = let-syntax}) x f s c = macros-made false x f s c
    list-made (meant_form {f = letrec-syntax}) x f s c = macros-made true x f s c
    list-made (meant_form {f = auxiliary}) x f s c = refuse-holds 12 s tt
    list-made (meant_operation h) x f s c = operands-made _ s s (operation-made h s) (tidy-tail f) c
    list-made meant_nothing x f s c = refuse-holds 11 s tt

    bare-made : {g : Found} → Meant W (length operations) g → (s : State) → MakesTerm W s (expand_name limit operations fuel rec g s)
    unfolding expand_name
    bare-made (meant_variable h) s = give_holds _ s (variable-made h s)
    bare-made (meant_macro h) s = refuse-holds 12 s tt
    bare-made meant_form s = refuse-holds 12 s tt
    bare-made (meant_operation h) s = give_holds _ s (operation-made h s)
    bare-made meant_nothing s = refuse-holds 11 s tt

    pair_made : {h t : Tree} → FineTree W h → FineTree W t → is_list t ≡ true → (s : State) → Closed W s → MakesTerm W s (expand_pair limit operations fuel rec h t s)
    unfolding expand_pair
    pair_made tidy_empty t l s c = application-made tidy_empty t s c
    pair_made (tidy_constant a) t l s c = application-made (tidy_constant a) t s c
    pair_made (tidy_name {x} f) t l s c = show-holds _ _ s (list-made (lookup-meant operations x f) x (tidy_pair (tidy_name f) t l) s c)
    pair_made (tidy_pair a b k) t l s c = application-made (tidy_pair a b k) t s c

    tree-made : {t : Tree} → FineTree W t → (s : State) → Closed W s → MakesTerm W s (expand_tree limit operations fuel rec t s)
    unfolding expand_tree on_formals every every_datum variables
    tree-made tidy_empty s c = refuse-holds 13 s tt
    tree-made (tidy_constant {a} h) s c = give_holds _ s (made_none s (constant-sound (length operations) W.names W.variables s.variables a h))
    tree-made (tidy_name {x} f) s c = show-holds _ _ s (bare-made (lookup-meant operations x f) s)
    tree-made (tidy_pair h t l) s c = pair_made h t l s c

pub expand-made : (limit inner : ℕ) (operations : List ℕ) (fuel gas : ℕ) → Sound limit operations fuel (expand_within limit inner operations fuel gas)
unfolding expand_within
expand-made limit inner operations fuel zero W t f s c = is_starved tt
expand-made limit inner operations fuel (suc gas) W t f s c =
    tree-made limit operations fuel _ (expand-made _ _ operations fuel gas) W f s c
