-- What a computation spends, of a tree of size k: gas of k and the fuel left is enough; every step is paid for; core words are at most
-- 3 × (k + the fuel spent), and new variables and macros together at most k + the fuel spent.
use Rattle.std.specs.Prelude.{◌≡◌, Bool, cond, ℕ, zero, suc, ◌+◌, ◌*◌, ◌≤◌, eqb, length, get_or}
use Rattle.std.proofs.Math.Path.{refl}
use Rattle.std.proofs.Common.{◌∙◌, leb-true, eqb-true}
use Rattle.std.proofs.Math.Bool.{true, false}
use mathlib.Core.List.{List, [], ◌∷◌}
use native.Mathlib.Omega.{arith}
use Rattle.std.proofs.Math.ListN.{length-append, length-map}
use Rattle.words.specs.Limits.{core_rate}
use Rattle.words.specs.TestLaws.{and_parts}
use Rattle.words.specs.Each.{each_all, given-any}
use Rattle.datum.specs.ConstantLaws.{words-few}
use Rattle.datum.specs.Datum.{constant_d}
use Rattle.recipe.specs.Name.{Binding, variable, macro, Name}
use Rattle.recipe.specs.Tree.{Tree, empty, constant, name, pair, size, strip, strip_tail, on_pair, is_list, is_list_of, elements, element, tail, mark, produce, bind_all}
use Rattle.recipe.specs.TreeLaws.{size-positive, element-size, names-size, total_size, elements-size, mark-size, produce-size, bind_all-size}
use Rattle.core_term.specs.Term.{Term, variable_c, operation_c, datum_c, if_c, application_c, none_c, more_c, on_formals}
use Rattle.core_term.specs.Node.{node_words}
use Rattle.core_term.specs.Words.{datum_words, data_words, encode}
use Rattle.expansion.specs.Lookup.{quote, if, lambda, let-syntax, letrec-syntax, auxiliary, Found, bound, form, operation, nothing, lookup}
use Rattle.expansion.specs.Transcribe.{transcribe}
use Rattle.expansion.specs.Computation.{State, M}
use Rattle.expansion.specs.Forms.{is_lambda, formals, is_macros, keywords, rules_forms, expand_all, expand_quote, expand_if, expand_lambda, expand_macros, expand_use, expand_operands, expand_list, expand_name, expand_application, expand_pair, expand_tree, expand_within}
use Rattle.expansion.specs.Run.{words_of, words_of_all}
use Rattle.expansion.proofs.FormLaws.{rules-added, read_rules-holds}
use Rattle.expansion.proofs.OutcomesLaws.{give_holds, refuse-holds, test-holds, show-holds, get_holds, add_variables-holds, add_macros-holds, add_step-holds, then-holds, or_refuse-holds, weaken}
use Rattle.expansion.specs.Bounds.Budget.{Solvent, Spends, SpendsTerm, Spent, Thrifty}

-- ---- sizes

four-size : (ts : List Tree) → length ts ≡ 4 → size (get_or ts 1 empty) + size (get_or ts 2 empty) + size (get_or ts 3 empty) ≤ total_size ts
unfolding total_size
four-size [] e = absurd (omega arith)
four-size (a ∷ []) e = absurd (omega arith)
four-size (a ∷ b ∷ []) e = absurd (omega arith)
four-size (a ∷ b ∷ c ∷ []) e = absurd (omega arith)
four-size (a ∷ b ∷ c ∷ d ∷ ts) e = omega arith

three-size : (ts : List Tree) → length ts ≡ 3 → size (get_or ts 1 empty) + size (get_or ts 2 empty) ≤ total_size ts
unfolding total_size
three-size [] e = absurd (omega arith)
three-size (a ∷ []) e = absurd (omega arith)
three-size (a ∷ b ∷ []) e = absurd (omega arith)
three-size (a ∷ b ∷ c ∷ ts) e = omega arith

is_list_of-length : (n : ℕ) (t : Tree) → is_list_of n t ≡ true → length (elements t) ≡ n
unfolding is_list_of
is_list_of-length n t h = eqb-true _ _ (and_parts (is_list t) (eqb (length (elements t)) n) h).1

-- the three parts of an if
if-size : (t : Tree) → is_list_of 4 t ≡ true → size (element 1 t) + size (element 2 t) + size (element 3 t) + 5 ≤ size t
unfolding element
if-size t h = let e = is_list_of-length 4 t h in omega (arith, four-size (elements t) e, elements-size t, e)

-- what a form binds, and its body
form-size : (f : ℕ → Binding) (k : ℕ) (xs : List Name) (t : Tree) → is_list_of 3 t ≡ true → size (element 1 t) + size (bind_all f k xs (element 2 t)) + 4 ≤ size t
unfolding element
form-size f k xs t h = let e = is_list_of-length 3 t h in rw (bind_all-size f k xs (element 2 t)) (omega (arith, three-size (elements t) e, elements-size t, e))

lambda-size : (f : ℕ → Binding) (k : ℕ) (xs : List Name) (t : Tree) → is_lambda t ≡ true → length (formals t) + size (bind_all f k xs (element 2 t)) + 4 ≤ size t
unfolding is_lambda formals
lambda-size f k xs t h = omega (arith, form-size f k xs t (and_parts (is_list_of 3 t) _ h).0, names-size (element 1 t))

macros-size : (limit : ℕ) (f : ℕ → Binding) (k : ℕ) (xs : List Name) (t : Tree) → is_macros limit t ≡ true → length (rules_forms t) + size (bind_all f k xs (element 2 t)) + 4 ≤ size t
unfolding is_macros rules_forms
macros-size limit f k xs t h = omega (arith, form-size f k xs t (and_parts (is_list_of 3 t) _ h).0, elements-size (element 1 t), length-map (elements (element 1 t)) (element 1))

-- a quoted datum has at most three words an item; a list's elements leave room for its code and count
mutual
  unfolding datum_words node_words strip size

  pub datum-words : (t : Tree) → length (datum_words (strip t)) ≤ core_rate * size t
  datum-words empty = omega arith
  datum-words (constant a) = omega (arith, (words-few a).1)
  datum-words (name x) = omega arith
  datum-words (pair h t) = simp length-append (omega (arith, datum-words h, tail-words t))

  tail-words : (t : Tree) → length (data_words (strip_tail t)) + 2 ≤ core_rate * size t
  tail-words empty = omega arith
  tail-words (constant a) = omega arith
  tail-words (name x) = omega arith
  tail-words (pair h t) = simp length-append (omega (arith, datum-words h, tail-words t))

-- ---- what is spent

module _ (limit : ℕ) (operations : List ℕ) (fuel : ℕ) where
  -- no fuel
  nothing-spent : (k : ℕ) (s : State) (n : ℕ) → Solvent fuel s → n ≤ core_rate * k → Spent fuel k s n s
  nothing-spent k s n low h = record { grown = omega arith; solvent = low; words = omega arith; bindings = omega arith }

  module _ (gas : ℕ) (rec : Tree → M (Term Name)) (good : Thrifty fuel gas rec) where
    all-spends : (t : Tree) (s : State) → Solvent fuel s → size t + fuel ≤ gas + s.sum → Spends fuel (size t) s (λ w. length (words_of_all w) + 2) (expand_all limit operations fuel rec t s)
    unfolding expand_all size on_formals encode node_words
    all-spends empty s low g = give_holds none_c s (nothing-spent 1 s 2 low (omega arith))
    all-spends (constant a) s low g = give_holds none_c s (nothing-spent 1 s 2 low (omega arith))
    all-spends (name x) s low g = give_holds none_c s (nothing-spent 1 s 2 low (omega arith))
    all-spends (pair h t) s low g =
        then-holds _ _ _ s (good h s low (omega arith)) λ a u l q.
        then-holds _ _ _ u (all-spends t u q.solvent (omega arith)) λ b v k r.
        give_holds (more_c a b) v (record { grown = omega arith; solvent = r.solvent; words = simp length-append (omega arith); bindings = omega arith })

    -- after a head that is paid for by k
    operands-spends : (k : ℕ) (a : Term Name) (t : Tree) (s : State) → Solvent fuel s → size t + fuel ≤ gas + s.sum → length (words_of a) ≤ 2 * k
        → SpendsTerm fuel (k + size t) s (expand_operands limit operations fuel rec a t s)
    unfolding expand_operands on_formals encode node_words
    operands-spends k a t s low g e =
        then-holds _ _ _ s (all-spends t s low g) λ b u l q.
        give_holds (application_c a b) u (record { grown = omega arith; solvent = q.solvent; words = simp length-append (omega arith); bindings = omega arith })

    -- after a variable or an operation
    named-spends : (a : Term Name) (h t : Tree) (s : State) → Solvent fuel s → size (pair h t) + fuel ≤ suc gas + s.sum → length (words_of a) ≡ 2
        → SpendsTerm fuel (size (pair h t)) s (expand_operands limit operations fuel rec a (tail (pair h t)) s)
    unfolding size tail on_pair
    named-spends a h t s low g e =
        weaken (operands-spends 1 a t s low (omega arith) (omega arith)) (λ x. x) (λ g u l r. r) λ w u l q.
        record { grown = q.grown; solvent = q.solvent; words = omega (arith, q.words, size-positive h); bindings = omega (arith, q.bindings) }

    application-spends : (h t : Tree) (s : State) → Solvent fuel s → size (pair h t) + fuel ≤ suc gas + s.sum → SpendsTerm fuel (size (pair h t)) s (expand_application limit operations fuel rec h t s)
    unfolding expand_application expand_operands size on_formals encode node_words
    application-spends h t s low g =
        then-holds _ _ _ s (good h s low (omega arith)) λ a u l q.
        then-holds _ _ _ u (all-spends t u q.solvent (omega arith)) λ b v k r.
        give_holds (application_c a b) v (record { grown = omega arith; solvent = r.solvent; words = simp length-append (omega arith); bindings = omega arith })

    quote-spends : (t : Tree) (s : State) → Solvent fuel s → SpendsTerm fuel (size t) s (expand_quote limit operations fuel rec t s)
    unfolding expand_quote on_formals encode node_words
    quote-spends t s low =
        test-holds _ _ _ s low λ _.
        show-holds _ _ s
        (give_holds _ s (nothing-spent (size t) s _ low (omega (arith, datum-words (element 1 t), element-size 1 t))))

    if-spends : (t : Tree) (s : State) → Solvent fuel s → size t + fuel ≤ suc gas + s.sum → SpendsTerm fuel (size t) s (expand_if limit operations fuel rec t s)
    unfolding expand_if on_formals encode node_words
    if-spends t s low g =
        test-holds _ _ _ s low λ h.
        then-holds _ _ _ s (good (element 1 t) s low (omega (arith, if-size t h))) λ a u i q.
        then-holds _ _ _ u (good (element 2 t) u q.solvent (omega (arith, if-size t h, q.grown))) λ b v j r.
        then-holds _ _ _ v (good (element 3 t) v r.solvent (omega (arith, if-size t h, q.grown, r.grown))) λ c w k p.
        give_holds (if_c a b c) w (record { grown = omega arith; solvent = p.solvent; words = simp length-append (omega (arith, if-size t h)); bindings = omega (arith, if-size t h) })

    lambda-spends : (t : Tree) (s : State) → Solvent fuel s → size t + fuel ≤ suc gas + s.sum → SpendsTerm fuel (size t) s (expand_lambda limit operations fuel rec t s)
    unfolding expand_lambda on_formals encode node_words
    lambda-spends t s low g =
        test-holds _ _ _ s low λ shape.
        test-holds _ _ _ s low λ _.
        get_holds _ s
        (show-holds _ _ s
        (add_variables-holds _ _ s
        (let e = lambda-size variable s.variables (formals t) t shape in
        then-holds _ _ _ _ (good _ _ (record { paid = low.paid; bounded = low.bounded }) (omega (arith, e))) λ w u l q.
        give_holds _ u (record { grown = q.grown; solvent = q.solvent; words = simp length-append (omega (arith, e, q.words, length-map (formals t) (λ x. x.number))); bindings = omega (arith, e, q.bindings) }))))

    macros-spends : (inside : Bool) (x : Name) (t : Tree) (s : State) → Solvent fuel s → size t + fuel ≤ suc gas + s.sum → SpendsTerm fuel (size t) s (expand_macros limit operations fuel rec inside x t s)
    unfolding expand_macros
    macros-spends inside x t s low g =
        show-holds _ _ s
        (test-holds _ _ _ s low λ shape.
        test-holds _ _ _ s low λ _.
        get_holds _ s
        (show-holds _ _ s
        (then-holds _ _ _ s (read_rules-holds (λ r. Unit {0}) (each_all _ (λ r. given-any _)) s (λ l _. low)) λ rules u l read.
        add_macros-holds _ _ u
        (let e = macros-size limit macro (length s.macros) (keywords t) t shape in
        let same = rules-added (cond inside (bind_all macro (length s.macros) (keywords t)) (λ r. r)) (rules_forms t) read in
        weaken (good _ _ (record { paid = omega (arith, same, low); bounded = omega (arith, same, low) }) (omega (arith, same, e))) (λ x. x) (λ g v k r. r) λ w v k q.
        record { grown = omega (arith, q.grown, same); solvent = q.solvent; words = omega (arith, q.words, same, e); bindings = omega (arith, q.bindings, same, e) }))))

    use-spends : (n : ℕ) (t : Tree) (s : State) → Solvent fuel s → size t + fuel ≤ suc gas + s.sum → SpendsTerm fuel (size t) s (expand_use limit operations fuel rec n t s)
    unfolding expand_use
    use-spends n t s low g =
        get_holds _ s
        (show-holds _ _ s
        (or_refuse-holds _ _ _ s low λ r _.
        test-holds _ _ _ s low λ _.
        test-holds _ _ _ s low λ enough.
        add_step-holds _ _ s
        (let result : Tree = transcribe r.pattern (tail (mark (suc s.steps) t)) [] r.template in
        let e : size (produce (mark (suc s.steps) result)) ≡ size result = produce-size (mark (suc s.steps) result) ∙ mark-size (suc s.steps) result in
        let solvent : Solvent fuel _ = record { paid = omega (arith, low.paid, size-positive result); bounded = omega (arith, leb-true) } in
        weaken (good _ _ solvent (omega (arith, e, size-positive t))) (λ x. x) (λ g u k q. q) λ w u k q.
        record { grown = omega (arith, q.grown); solvent = q.solvent; words = omega (arith, e, q.words); bindings = omega (arith, e, q.bindings) })))

    list-spends : (f : Found) (x : Name) (h t : Tree) (s : State) → Solvent fuel s → size (pair h t) + fuel ≤ suc gas + s.sum → SpendsTerm fuel (size (pair h t)) s (expand_list limit operations fuel rec f x (pair h t) s)
    unfolding expand_list on_formals encode node_words
    list-spends (bound (variable n)) x h t s low g = named-spends (variable_c n) h t s low g refl
    list-spends (bound (macro n)) x h t s low g = use-spends n (pair h t) s low g
    list-spends (form quote) x h t s low g = quote-spends (pair h t) s low
    list-spends (form if) x h t s low g = if-spends (pair h t) s low g
    list-spends (form lambda) x h t s low g = lambda-spends (pair h t) s low g
    list-spends (form let-syntax) x h t s low g = macros-spends false x (pair h t) s low g
    list-spends (form letrec-syntax) x h t s low g = macros-spends true x (pair h t) s low g
    list-spends (form auxiliary) x h t s low g = refuse-holds 12 s low
    list-spends (operation p) x h t s low g = named-spends (operation_c p) h t s low g refl
    list-spends nothing x h t s low g = refuse-holds 11 s low

    name-spends : (f : Found) (s : State) → Solvent fuel s → SpendsTerm fuel 1 s (expand_name limit operations fuel rec f s)
    unfolding expand_name on_formals encode node_words
    name-spends (bound (variable n)) s low = give_holds (variable_c n) s (nothing-spent 1 s 2 low (omega arith))
    name-spends (bound (macro n)) s low = refuse-holds 12 s low
    name-spends (form f) s low = refuse-holds 12 s low
    name-spends (operation p) s low = give_holds (operation_c p) s (nothing-spent 1 s 2 low (omega arith))
    name-spends nothing s low = refuse-holds 11 s low

    pair-spends : (h t : Tree) (s : State) → Solvent fuel s → size (pair h t) + fuel ≤ suc gas + s.sum → SpendsTerm fuel (size (pair h t)) s (expand_pair limit operations fuel rec h t s)
    unfolding expand_pair
    pair-spends empty t s low g = application-spends empty t s low g
    pair-spends (constant a) t s low g = application-spends (constant a) t s low g
    pair-spends (name x) t s low g = show-holds _ _ s (list-spends (lookup operations x) x (name x) t s low g)
    pair-spends (pair a b) t s low g = application-spends (pair a b) t s low g

    tree-spends : Thrifty fuel (suc gas) (expand_tree limit operations fuel rec)
    unfolding expand_tree size on_formals encode node_words datum_words
    tree-spends empty s low g = refuse-holds 13 s low
    tree-spends (constant a) s low g = give_holds (datum_c (constant_d a)) s (nothing-spent 1 s _ low (omega (arith, (words-few a).1)))
    tree-spends (name x) s low g = show-holds _ _ s (name-spends (lookup operations x) s low)
    tree-spends (pair h t) s low g = pair-spends h t s low g

pub expand-spends : (limit inner : ℕ) (operations : List ℕ) (fuel gas : ℕ) → Thrifty fuel gas (expand_within limit inner operations fuel gas)
unfolding expand_within
expand-spends limit inner operations fuel zero t s low g = absurd (omega (arith, size-positive t))
expand-spends limit inner operations fuel (suc gas) t s low g =
    tree-spends limit operations fuel gas _ (expand-spends _ _ operations fuel gas) t s low g
