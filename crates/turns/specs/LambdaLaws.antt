-- Laws of a lambda's turn: its names are bound, and its body stands for it.
use Rattle.std.specs.Prelude.{◌≡◌, true, false, List, [], ◌∷◌, map, ℕ, ◌+◌, ◌*◌, ◌^◌, ◌≤◌, ◌<◌, Ok, Err}
use Rattle.std.proofs.Math.Path.{refl, ap, ap₂, subst}
use Rattle.std.proofs.Common.{sym, ◌∙◌, arith}
use Rattle.std.proofs.Math.ListN.{length, length-map}
use Rattle.words.specs.TestLaws.{and_parts}
use Rattle.recipe.specs.Name.{variable, Name, distinct}
use Rattle.recipe.specs.Tree.{Tree, pair, size, is_list_of, elements, element, bind_all}
use Rattle.recipe.specs.TreeLaws.{size-positive, names-size, bind_all-size}
use Rattle.recipe.specs.Tidy.{tidy-element, tidy-bind_all}
use Rattle.core_term.specs.Term.{Term, lambda_c, on_formals}
use Rattle.core_term.specs.Node.{node_words, lambda_code}
use Rattle.core_term.specs.Words.{encode}
use Rattle.expansion.specs.Run.{words_of}
use Rattle.expansion.specs.Computation.{State, M}
use Rattle.expansion.specs.Forms.{is_lambda, formals, expand_lambda}
use Rattle.arena.specs.Arena.{tree_at}
use Rattle.arena.specs.Lists.{Means, Counts}
use Rattle.forms.specs.Binders as F
use Rattle.forms.specs.declared.shapes.Bound.TheVariants.{Formals}
use Rattle.forms.specs.Binders.{AllNames, names_in, Space, Scoped}
use Rattle.forms.proofs.ScopeLaws.{scoped-tree, proper, lambda-names, formals-are, formals-count}
use Rattle.forms.specs.NumberLaws.{numbers_in}
use Rattle.forms.specs.Quotes.{Written}
use Rattle.forms.specs.QuoteLaws.{written_then}
use Rattle.turns.specs.declared.answers.Reached.{Reached}
use Rattle.turns.specs.declared.answers.Refused.{Refused}
use Rattle.turns.specs.declared.answers.Turn.{Turn}
use Rattle.turns.specs.declared.answers.Turn.TheVariants.{Again, Operands, Over}
use Rattle.turns.specs.Ends.{End, finished, refused_end, halted, end_of, then, needs, with_variables}
use Rattle.turns.specs.EndLaws.{lambda-end}
use Rattle.turns.specs.Numbers.{widened}
use Rattle.turns.specs.Memory.{tables, state_at, CoreRoom, work_need, core_need, variable_need, macro_need, Proper, Ready, Kept}
use Rattle.turns.specs.MemoryLaws.{macros_at-settled, macros-kept, put-long}
use Rattle.turns.specs.Turns.{Left, turn_of, Ends, Follows}
use Rattle.turns.specs.Answers.{Refuses}
use Rattle.turns.specs.LeafLaws.{refused-ends}
use Rattle.turns.specs.SpreadLaws.{cons, listed, Prefixed, left_after}
use Rattle.turns.specs.Scopes.{Roomy, lambda_words, Bound, BoundLeft, LambdaBound, LambdaRefused, LambdaLeft}

-- ---- sizes

pub three-sizes : (t : Tree) → is_list_of 3 t ≡ true → size (element 1 t) + size (element 2 t) + 5 ≤ size t
unfolding size element elements
three-sizes t e =
    let c1 = cons t 2 (listed 3 t e) in
    let c2 = cons c1.rest 1 c1.more in
    let c3 = cons c2.rest 0 c2.more in
    let is : t ≡ pair c1.first (pair c2.first (pair c3.first c3.rest)) = c1.is ∙ ap (pair c1.first) (c2.is ∙ ap (pair c2.first) c3.is) in
    rw is (omega (arith, size-positive c1.first, size-positive c3.rest))

pub lambda-sizes : (t : Tree) → is_lambda t ≡ true → length (formals t) + size (element 2 t) + 5 ≤ size t
unfolding is_lambda formals
lambda-sizes t e = omega (arith, three-sizes t (and_parts (is_list_of 3 t) _ e).0, names-size (element 1 t))

-- ---- what the code needs, and what it leaves

module _ (work core : List ℕ) (node w : ℕ) (r : Reached) (roomy : Roomy work core node w r) (shape : is_lambda (tree_at work node w) ≡ true) where
  abbrev tree : Tree
  tree = tree_at work node w

  pub lambda-proper : F.ListTails tree
  lambda-proper = proper roomy.placed.proper

  pub lambda-space : Space (formals tree) work node w r.variables w r.top
  lambda-space =
      let sizes = lambda-sizes tree shape in
      record {
        fits = omega (arith, sizes, roomy.fits);
        small = omega (arith, sizes, roomy.small);
        numbers = omega (arith, sizes, roomy.few);
        node-below = roomy.placed.node-below;
        w-below = roomy.placed.wrap-below;
        parent-below = roomy.placed.wrap-below;
      }

  pub lambda-core : CoreRoom core r.at 3
  lambda-core = let sizes = lambda-sizes tree shape in record { fits = omega (arith, sizes, roomy.core-fits); small = omega (arith, sizes, roomy.core-small) }

  module _ (list count : ℕ) (list-is : Means work node list (element 1)) (count-is : Counts work list count) where
    pub lambda-count : count ≡ length (formals tree)
    lambda-count = count-is.is w ∙ ap (λ (t : Tree). length (elements t)) (list-is.is w) ∙ sym (formals-count tree shape lambda-proper)

    pub lambda-few : r.variables + count < 2 ^ 32
    lambda-few = omega (arith, lambda-count, lambda-sizes tree shape, roomy.few)

    names-are : names_in Formals (tree_at work list w) ≡ formals tree
    names-are = ap (names_in Formals) (list-is.is w) ∙ formals-are tree shape lambda-proper

    all-names : AllNames Formals (tree_at work list w)
    all-names = subst (AllNames Formals) (sym (list-is.is w)) (lambda-names tree shape)

    -- room for the numbers, behind three words
    module _ (core₁ : List ℕ) (at : ℕ) (header : Written (lambda_code ∷ r.variables ∷ count ∷ []) core core₁ r.at at) where
      pub numbers-room : length core₁ ≡ length core → (v : ℕ) × (AllNames Formals (tree_at work list v)) × (at + length (names_in Formals (tree_at work list v)) ≤ length core₁)
      numbers-room e = (w, all-names, omega (arith, e, header.end, ap length names-are, lambda-sizes tree shape, roomy.core-fits))

      module _ (core' : List ℕ) (end : ℕ) (numbers : (v : ℕ) → AllNames Formals (tree_at work list v) → Written (numbers_in (tree_at work list v)) core₁ core' at end) where
        named : Written (map (λ x. x.number) (formals tree)) core₁ core' at end
        named = subst (λ (xs : List Name). Written (map (λ x. x.number) xs) core₁ core' at end) names-are (numbers w all-names)

        pub numbers-small : end < 2 ^ 32
        numbers-small = omega (arith, header.end, named.end, length-map (formals tree) (λ x. x.number), lambda-sizes tree shape, roomy.core-small)

        put_all : Written (lambda_words r.variables (formals tree)) core core' r.at end
        put_all =
            let n : count ≡ length (map (λ x. x.number) (formals tree)) = lambda-count ∙ sym (length-map (formals tree) (λ x. x.number)) in
            subst (λ (k : ℕ). Written (lambda_code ∷ r.variables ∷ k ∷ map (λ x. x.number) (formals tree)) core core' r.at end) n
            (written_then r.at core (lambda_code ∷ r.variables ∷ count ∷ []) (map (λ x. x.number) (formals tree)) core₁ core' at end
            (omega (arith, header.end, lambda-sizes tree shape, roomy.core-fits)) header named)

        pub bound_by : (body wrap top : ℕ) (work' : List ℕ) → Means work node body (element 2) → Scoped variable r.variables (formals tree) w work work' r.top wrap top
            → (q : Reached) → q ≡ widened top end count r → Bound tree r work work' core core' body wrap q
        unfolding widened
        bound_by body wrap top work' body_is scoped q e =
            subst (Bound tree r work work' core core' body wrap) (sym e)
            (record {
              body_is = scoped-tree variable r.variables (formals tree) w work work' r.top wrap top scoped body (omega (arith, body_is.low, roomy.placed.node-below)) ∙ ap (bind_all variable r.variables (formals tree)) (body_is.is w);
              body_below = omega (arith, body_is.low, roomy.placed.node-below);
              wrap-below = scoped.wrap-below;
              numbers = ap₂ (λ (t n : ℕ). widened t end n r) scoped.end_is lambda-count;
              put = put_all;
              kept = scoped.kept;
            })

-- ---- the turn

lambda-prefixed : (first : ℕ) (xs : List Name) (e : End (Term Name)) → Prefixed words_of words_of (lambda_c first xs) (lambda_words first xs) e
unfolding on_formals encode node_words
lambda-prefixed first xs (finished v s) = refl
lambda-prefixed first xs (refused_end k s) = tt
lambda-prefixed first xs halted = tt

module _ (limit : ℕ) (operations : List ℕ) (fuel : ℕ) (t : Tree) (r : Reached) (work work' core core' macros : List ℕ)
    (turn : (expand : Tree → M (Term Name)) (s : State) → turn_of limit operations fuel expand t s ≡ end_of (expand_lambda limit operations fuel expand t s)) where
  pub lambda-refused : (y : Refused) → LambdaRefused t r y → Ends limit operations fuel t r (tables work core macros) (tables work' core' macros) (Err y)
  lambda-refused y x =
      refused-ends limit operations fuel t r (tables work core macros) (tables work' core' macros) x.ground_number
      (λ expand s. turn expand s ∙ lambda-end limit operations fuel expand t s ∙ x.is _ s)
      y x.refuses

  module _ (node w : ℕ) (q : Reached) (x : LambdaBound t r work work' core core' node w q) (good : Proper t)
      (ready : Ready fuel (size t) r (tables work core macros)) (long : length work' ≡ length work) where
    b : Bound t r work work' core core' node w q
    b = x.bound

    sizes : length (formals t) + size (element 2 t) + 5 ≤ size t
    sizes = lambda-sizes t x.shape

    body-size : size (tree_at work' node w) ≡ size (element 2 t)
    body-size = ap size b.body_is ∙ bind_all-size variable r.variables (formals t) (element 2 t)

    lambda-kept : Kept fuel (size t) (size (tree_at work' node w)) r q (tables work core macros) (tables work' core' macros)
    unfolding work_need core_need variable_need macro_need widened
    lambda-kept =
        let top-is : q.top ≡ r.top + 9 * length (formals t) = ap (λ (z : Reached). z.top) b.numbers in
        let steps-are : q.steps ≡ r.steps = ap (λ (z : Reached). z.steps) b.numbers in
        let sum_is : q.sum ≡ r.sum = ap (λ (z : Reached). z.sum) b.numbers in
        let variables-are : q.variables ≡ r.variables + length (formals t) = ap (λ (z : Reached). z.variables) b.numbers in
        let macros-are : q.macros ≡ r.macros = ap (λ (z : Reached). z.macros) b.numbers in
        let at-is : q.at ≡ r.at + (3 + length (formals t)) = omega (arith, b.put.end, length-map (formals t) (λ x. x.number)) in
        record {
          work-long = long;
          core-long = put-long (lambda_words r.variables (formals t)) r.at core core' q.at (omega (arith, ready.core-room, sizes, length-map (formals t) (λ x. x.number))) b.put;
          macros-long = refl;
          arena = b.kept;
          known = refl;
          top-grows = omega arith;
          macros-grow = omega arith;
          sum-grows = omega arith;
          spent = omega (arith, ready.spent);
          stepped = omega (arith, ready.stepped);
          work-spent = rw (top-is, sum_is, body-size) (omega (arith, sizes));
          core-spent = rw (at-is, sum_is, body-size) (omega (arith, sizes));
          variables-spent = rw (variables-are, sum_is, body-size) (omega (arith, sizes));
          macros-spent = rw (macros-are, sum_is, body-size) (omega (arith, sizes));
          macros-are = macros-kept r q (tables work core macros) (tables work' core' macros) ready.macros-are (omega arith) macros-are b.kept refl;
        }

    lambda-state : state_at (tables work' core' macros) q ≡ with_variables (length (formals t)) (state_at (tables work core macros) r)
    unfolding state_at with_variables widened
    lambda-state =
        ap (state_at (tables work' core' macros)) b.numbers
        ∙ rw (macros_at-settled work work' macros macros r.top b.kept r.macros refl ready.macros-are.below)

    lambda-turn : (expand : Tree → M (Term Name)) (s : State) → s.variables ≡ r.variables → turn_of limit operations fuel expand t s
        ≡ then (λ body u. finished (lambda_c r.variables (formals t) body) u) (end_of (expand (bind_all variable r.variables (formals t) (element 2 t)) (with_variables (length (formals t)) s)))
    unfolding needs
    lambda-turn expand s e = turn expand s ∙ lambda-end limit operations fuel expand t s ∙ rw (x.shape, x.apart, e)

    pub lambda-follows : Follows limit operations fuel t r (tables work core macros) (tables work' core' macros) node w q
    unfolding state_at core_need
    lambda-follows =
        let s = state_at (tables work core macros) r in
        let k = lambda-kept in
        let at-is : q.at ≡ r.at + (3 + length (formals t)) = omega (arith, b.put.end, length-map (formals t) (λ x. x.number)) in
        record {
          kept = k;
          placed = record {
            node-below = omega (arith, b.body_below, k.top-grows);
            wrap-below = b.wrap-below;
            proper = rw b.body_is (tidy-bind_all variable r.variables (formals t) (λ j h l y p. tt) (tidy-element 2 good));
          };
          falls = omega (arith, body-size, sizes, k.sum-grows);
          means = λ expand a last l.
              subst (λ (e : End (Term Name)). Left words_of r core last e a)
              (sym (lambda-turn expand s refl))
              (left_after words_of words_of (lambda_c r.variables (formals t)) (lambda_words r.variables (formals t)) r q core core' last
              (end_of (expand (bind_all variable r.variables (formals t) (element 2 t)) (with_variables (length (formals t)) s))) a
              (lambda-prefixed r.variables (formals t) (end_of (expand (bind_all variable r.variables (formals t) (element 2 t)) (with_variables (length (formals t)) s)))) b.put (omega (arith, ready.core-room, sizes))
              (subst (λ (z : State). Left words_of q core' last (end_of (expand (bind_all variable r.variables (formals t) (element 2 t)) z)) a) lambda-state
              (subst (λ (z : Tree). Left words_of q core' last (end_of (expand z (state_at (tables work' core' macros) q))) a) b.body_is l)));
        }

-- ---- the tests

module _ (t : Tree) (r : Reached) where
  pub lambda-unshaped : (x : Refused) → is_lambda t ≡ false → Refuses 13 r x → LambdaRefused t r x
  unfolding needs
  lambda-unshaped x shape e = record { ground_number = 13; is = λ z s. rw shape; refuses = e }

  pub lambda-alike : (x : Refused) → is_lambda t ≡ true → distinct (formals t) ≡ false → Refuses 14 r x → LambdaRefused t r x
  unfolding needs
  lambda-alike x shape same e = record { ground_number = 14; is = λ z s. rw (shape, same); refuses = e }

  pub lambda-left : (work work' core core' : List ℕ) (a : Turn) → is_lambda t ≡ true → distinct (formals t) ≡ true → BoundLeft t r work work' core core' a → LambdaLeft t r work work' core core' (Ok a)
  lambda-left work work' core core' (Again n w q) shape apart b = record { shape = shape; apart = apart; bound = b }
  lambda-left work work' core core' (Operands l w q) shape apart b = absurd b
  lambda-left work work' core core' (Over q) shape apart b = absurd b
