-- What every computation keeps to, on its way from one state to another: counts only grow, the variables and macros that its events bind
-- are numbered in order from the state's counts on, and it is refused on grounds 11 to 18 alone.
use Rattle.std.specs.Prelude.{◌≡◌, Bool, cond, List, [], ◌++◌, ℕ, zero, suc, ◌+◌, ◌≤◌, get_or}
use Rattle.std.proofs.Math.Path.{refl, subst}
use Rattle.std.proofs.Common.{ap, ap₂, ◌∙◌, append-nil, append_assoc, arith}
use Rattle.std.proofs.Math.Bool.{true, false}
use Rattle.std.proofs.Math.Option.{Option}
use Rattle.std.proofs.Math.ListN.{length}
use Rattle.words.specs.Each.{Each, none_of, also, each_all, each-mapped, given-any}
use Rattle.recipe.specs.Name.{variable, macro, Name}
use Rattle.recipe.specs.Tree.{Tree, empty, constant, name, pair, names, element, tail, mark, bind_all}
use Rattle.core_term.specs.Term.{Term}
use Rattle.expansion.specs.Lookup.{quote, if, lambda, let-syntax, letrec-syntax, auxiliary, Found, bound, form, operation, nothing, lookup}
use Rattle.expansion.specs.Match.{first_fit}
use Rattle.expansion.specs.Computation.{State, looked, quoted, Events, Out, M, ◌>>=◌, ◌>>◌, give, refuse, show, test, or_refuse, get}
use Rattle.expansion.specs.Forms.{formals, keywords, rules_forms, bindings, expand_all, expand_quote, expand_if, expand_lambda, expand_macros, expand_use, expand_operands, expand_list, expand_name, expand_application, expand_pair, expand_tree, expand_within}
use Rattle.expansion.specs.Outcomes.{Holds, is_starved}
use Rattle.expansion.proofs.OutcomesLaws.{give_holds, refuse-holds, test-holds, show-holds, get_holds, add_variables-holds, add_macros-holds, add_step-holds, then-holds, or_refuse-holds, weaken}
use Rattle.expansion.specs.FormLaws.{Unbinding, looking, quoting, reaching}
use Rattle.expansion.proofs.FormLaws.{rules-added, read_rules-holds, keywords-count}
use Rattle.expansion.specs.Ways.Bindings.{variable_number, macro_number, bound_by, up_from}
use Rattle.expansion.proofs.Ways.BindingsLaws.{bound_by-append, up_from-append, unbinding-binds, variables-bind, macros-bind, no-macros-bind, no-variables-bind}
use Rattle.expansion.specs.Ways.{Broken, Keeps, Way}

-- ---- on the way from one state to another

way_then : {s t u : State} {late : ℕ} {l k : Events} → Way s t 0 l → Way t u late k → Way s u late (l ++ k)
way_then {s} {t} {l = l} {k = k} p q =
    let e : length t.macros ≡ length s.macros + p.m = omega (arith, p.macros) in
    record {
      v = p.v + q.v;
      m = p.m + q.m;
      variables-bound = bound_by-append variable_number l k ∙ ap₂ ◌++◌ p.variables-bound (q.variables-bound ∙ ap (λ j. up_from j q.v) p.variables) ∙ up_from-append s.variables p.v q.v;
      macros-bound = bound_by-append macro_number l k ∙ ap₂ ◌++◌ p.macros-bound (q.macros-bound ∙ ap (λ j. up_from j q.m) e) ∙ up_from-append (length s.macros) p.m q.m;
      steps = omega (arith, p.steps, q.steps);
      sum = omega (arith, p.sum, q.sum);
      variables = omega (arith, p.variables, q.variables);
      macros = omega (arith, p.macros, q.macros);
      macros-grown = omega (arith, p.macros-grown, q.macros-grown);
    }

broken-after : {s t u : State} {g : ℕ} {l k : Events} → Way s t 0 l → Broken t g u k → Broken s g u (l ++ k)
broken-after p q = record { ground_number = q.ground_number; late = q.late; way = way_then p q.way }

-- no binding is made, and counts stay
way-none : (s : State) {l : Events} → Each Unbinding l → Way s s 0 l
unfolding up_from
way-none s h = record { v = 0; m = 0; variables-bound = unbinding-binds variable_number h; macros-bound = unbinding-binds macro_number h; steps = omega arith; sum = omega arith; variables = omega arith; macros = omega arith; macros-grown = omega arith }

broken-here : (s : State) (g : ℕ) → (11 ≤ g) × (g ≤ 18) → Broken s g s []
broken-here s g r = record { ground_number = r; late = 0; way = way-none s none_of }

-- ---- a computation that keeps to the way, from every state

-- after l, on the way from s to t
module _ {A : Type 0} {s t : State} {l : Events} (w : Way s t 0 l) where
  holds_after : (o : Out A) → Holds (Unit {0}) (Broken t) (λ a u k. Way t u 0 k) o → Holds (Unit {0}) (λ g u k. Broken s g u (l ++ k)) (λ a u k. Way s u 0 (l ++ k)) o
  holds_after o h = weaken h (λ x. x) (λ g u k q. broken-after w q) (λ a u k q. way_then w q)

module _ {A : Type 0} where
  keeps-give : (a : A) → Keeps (give a)
  keeps-give a s = give_holds a s (way-none s none_of)

  keeps-refuse : (g : ℕ) → (11 ≤ g) × (g ≤ 18) → Keeps (refuse {A = A} g)
  keeps-refuse g r s = refuse-holds g s (broken-here s g r)

  keeps-get : (f : State → M A) → ((z : State) → Keeps (f z)) → Keeps (◌>>=◌ get f)
  keeps-get f k s = get_holds f s (k s s)

  keeps-test : (g : ℕ) (b : Bool) (n : M A) → (11 ≤ g) × (g ≤ 18) → (b ≡ true → Keeps n) → Keeps (◌>>◌ (test g b) n)
  keeps-test g b n r k s = test-holds g b n s (broken-here s g r) λ e. k e s

  keeps-show : (l : Events) (n : M A) → Each Unbinding l → Keeps n → Keeps (◌>>◌ (show l) n)
  keeps-show l n h k s = show-holds l n s (holds_after (way-none s h) (n s) (k s))

module _ {A B : Type 0} where
  keeps_then : (n : M A) (f : A → M B) → Keeps n → ((a : A) → Keeps (f a)) → Keeps (◌>>=◌ n f)
  keeps_then n f h k s = then-holds _ n f s (h s) λ a t l w. holds_after w (f a t) (k a t)

  keeps-or_refuse : (g : ℕ) (o : Option A) (f : A → M B) → (11 ≤ g) × (g ≤ 18) → ((a : A) → Keeps (f a)) → Keeps (◌>>=◌ (or_refuse g o) f)
  keeps-or_refuse g o f r k s = or_refuse-holds g o f s (broken-here s g r) λ a e. k a s

-- ---- forms

-- a lambda's names are bound, and counted at once
lambda-way : (s u : State) (xs : List Name) → u.steps ≡ s.steps → u.sum ≡ s.sum → u.variables ≡ s.variables + length xs → u.macros ≡ s.macros → Way s u 0 (bindings variable s.variables xs)
unfolding up_from
lambda-way s u xs a b c d =
    let e = ap length d in
    record {
      v = length xs;
      m = 0;
      variables-bound = variables-bind s.variables xs;
      macros-bound = no-macros-bind s.variables xs;
      steps = omega (arith, a);
      sum = omega (arith, b);
      variables = c;
      macros = omega (arith, e);
      macros-grown = omega (arith, e);
    }

-- macros' names are bound before their rules are read (l), and counted afterwards
macros-way : (s u : State) (xs : List Name) (late : ℕ) {l : Events} → Each Unbinding l → u.steps ≡ s.steps → u.sum ≡ s.sum → u.variables ≡ s.variables
    → length u.macros + late ≡ length s.macros + length xs → length s.macros ≤ length u.macros → Way s u late (bindings macro (length s.macros) xs ++ l)
unfolding up_from
macros-way s u xs late {l} h a b c d f =
    let k = length s.macros in
    record {
      v = 0;
      m = length xs;
      variables-bound = bound_by-append variable_number (bindings macro k xs) l ∙ ap₂ ◌++◌ (no-variables-bind k xs) (unbinding-binds variable_number h);
      macros-bound = bound_by-append macro_number (bindings macro k xs) l ∙ ap₂ ◌++◌ (macros-bind k xs) (unbinding-binds macro_number h) ∙ append-nil (up_from k (length xs));
      steps = omega (arith, a);
      sum = omega (arith, b);
      variables = omega (arith, c);
      macros = d;
      macros-grown = f;
    }

-- a step is counted
step-way : (s u : State) (n : ℕ) → u.steps ≡ suc s.steps → u.sum ≡ s.sum + n → u.variables ≡ s.variables → u.macros ≡ s.macros → Way s u 0 []
unfolding up_from bound_by
step-way s u n a b c d =
    let e = ap length d in
    record {
      v = 0;
      m = 0;
      variables-bound = refl;
      macros-bound = refl;
      steps = omega (arith, a);
      sum = omega (arith, b);
      variables = omega (arith, c);
      macros = omega (arith, e);
      macros-grown = omega (arith, e);
    }

module _ (limit : ℕ) (operations : List ℕ) (fuel : ℕ) (rec : Tree → M (Term Name)) (good : (t : Tree) → Keeps (rec t)) where
  all-keeps : (t : Tree) → Keeps (expand_all limit operations fuel rec t)
  unfolding expand_all
  all-keeps empty = keeps-give _
  all-keeps (constant a) = keeps-give _
  all-keeps (name x) = keeps-give _
  all-keeps (pair h t) = keeps_then _ _ (good h) λ a. keeps_then _ _ (all-keeps t) λ b. keeps-give _

  operands-keeps : (a : Term Name) (t : Tree) → Keeps (expand_operands limit operations fuel rec a t)
  unfolding expand_operands
  operands-keeps a t = keeps_then _ _ (all-keeps t) λ b. keeps-give _

  application-keeps : (h t : Tree) → Keeps (expand_application limit operations fuel rec h t)
  unfolding expand_application
  application-keeps h t = keeps_then _ _ (good h) λ a. operands-keeps a t

  quote-keeps : (t : Tree) → Keeps (expand_quote limit operations fuel rec t)
  unfolding expand_quote
  quote-keeps t = keeps-test 13 _ _ (omega arith) λ _. keeps-show _ _ (each-mapped quoted (λ x. quoting) (names (element 1 t))) (keeps-give _)

  if-keeps : (t : Tree) → Keeps (expand_if limit operations fuel rec t)
  unfolding expand_if
  if-keeps t = keeps-test 13 _ _ (omega arith) λ _. keeps_then _ _ (good _) λ a. keeps_then _ _ (good _) λ b. keeps_then _ _ (good _) λ c. keeps-give _

  lambda-keeps : (t : Tree) → Keeps (expand_lambda limit operations fuel rec t)
  unfolding expand_lambda
  lambda-keeps t =
      keeps-test 13 _ _ (omega arith) λ _.
      keeps-test 14 _ _ (omega arith) λ _ s.
      get_holds _ s
      (show-holds _ _ s
      (add_variables-holds _ _ s
      (holds_after (lambda-way s _ (formals t) refl refl refl refl) _ (keeps_then _ _ (good _) (λ w. keeps-give _) _))))

  macros-keeps : (inside : Bool) (x : Name) (t : Tree) → Keeps (expand_macros limit operations fuel rec inside x t)
  unfolding expand_macros
  macros-keeps inside x t =
      keeps-show _ _ (also reaching none_of)
      (keeps-test 13 _ _ (omega arith) λ shape.
      keeps-test 14 _ _ (omega arith) λ _ s.
      get_holds _ s
      (show-holds _ _ s
      (then-holds _ _ _ s (read_rules-holds (λ r. Unit {0}) (each_all _ (λ r. given-any _)) s (λ l h. record { ground_number = omega arith; late = length (keywords t); way = macros-way s s (keywords t) _ h refl refl refl refl (omega arith) })) λ rules u l read.
      add_macros-holds _ _ u
      (let ev = bindings macro (length s.macros) (keywords t) in
      let same = rules-added (cond inside (bind_all macro (length s.macros) (keywords t)) (λ r. r)) (rules_forms t) read in
      let count = keywords-count limit t shape in
      let w : Way s _ 0 (ev ++ l) = macros-way s _ (keywords t) 0 read.shown same.steps same.sum same.variables (omega (arith, same, count)) (omega (arith, same)) in
      weaken (good _ _) (λ x. x) (λ g v k q. subst (Broken s g v) (append_assoc ev l k) (broken-after w q)) (λ a v k q. subst (Way s v 0) (append_assoc ev l k) (way_then w q))))))

  use-keeps : (n : ℕ) (t : Tree) → Keeps (expand_use limit operations fuel rec n t)
  unfolding expand_use
  use-keeps n t =
      keeps-get _ λ z.
      keeps-show _ _ (each-mapped looked (λ x. looking) (first_fit (get_or z.macros n []) (tail (mark (suc z.steps) t))).0)
      (keeps-or_refuse 16 _ _ (omega arith) λ r.
      keeps-test 17 _ _ (omega arith) λ _.
      keeps-test 18 _ _ (omega arith) λ _ s.
      add_step-holds _ _ s
      (holds_after (step-way s _ _ refl refl refl refl) _ (good _ _)))

  list-keeps : (f : Found) (x : Name) (t : Tree) → Keeps (expand_list limit operations fuel rec f x t)
  unfolding expand_list
  list-keeps (bound (variable n)) x t = operands-keeps _ _
  list-keeps (bound (macro n)) x t = use-keeps n t
  list-keeps (form quote) x t = quote-keeps t
  list-keeps (form if) x t = if-keeps t
  list-keeps (form lambda) x t = lambda-keeps t
  list-keeps (form let-syntax) x t = macros-keeps false x t
  list-keeps (form letrec-syntax) x t = macros-keeps true x t
  list-keeps (form auxiliary) x t = keeps-refuse 12 (omega arith)
  list-keeps (operation p) x t = operands-keeps _ _
  list-keeps nothing x t = keeps-refuse 11 (omega arith)

  name-keeps : (f : Found) → Keeps (expand_name limit operations fuel rec f)
  unfolding expand_name
  name-keeps (bound (variable n)) = keeps-give _
  name-keeps (bound (macro n)) = keeps-refuse 12 (omega arith)
  name-keeps (form f) = keeps-refuse 12 (omega arith)
  name-keeps (operation p) = keeps-give _
  name-keeps nothing = keeps-refuse 11 (omega arith)

  pair_keeps : (h t : Tree) → Keeps (expand_pair limit operations fuel rec h t)
  unfolding expand_pair
  pair_keeps empty t = application-keeps _ t
  pair_keeps (constant a) t = application-keeps _ t
  pair_keeps (name x) t = keeps-show _ _ (also looking none_of) (list-keeps (lookup operations x) x (pair (name x) t))
  pair_keeps (pair a b) t = application-keeps _ t

  tree-keeps : (t : Tree) → Keeps (expand_tree limit operations fuel rec t)
  unfolding expand_tree
  tree-keeps empty = keeps-refuse 13 (omega arith)
  tree-keeps (constant a) = keeps-give _
  tree-keeps (name x) = keeps-show _ _ (also looking none_of) (name-keeps (lookup operations x))
  tree-keeps (pair h t) = pair_keeps h t

pub expand-keeps : (limit inner : ℕ) (operations : List ℕ) (fuel gas : ℕ) (t : Tree) → Keeps (expand_within limit inner operations fuel gas t)
unfolding expand_within
expand-keeps limit inner operations fuel zero t = λ s. is_starved tt
expand-keeps limit inner operations fuel (suc gas) t = tree-keeps limit operations fuel _ (expand-keeps _ _ operations fuel gas) t
