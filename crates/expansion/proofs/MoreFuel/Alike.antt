-- The expansion of an expression on one fuel beside its expansion on more, by one induction over the gas: every line of every form is the
-- same for both, but for the test of a step's cost.
use Rattle.std.proofs.Common.{ap, arith}
use Rattle.std.specs.Prelude.{Bool, List, ℕ, zero, suc, ◌≤◌}
use Rattle.words.specs.Each.{each_all, given-any}
use Rattle.recipe.specs.Name.{variable, macro, Name}
use Rattle.recipe.specs.Tree.{Tree, empty, constant, name, pair}
use Rattle.core_term.specs.Term.{Term}
use Rattle.expansion.specs.Lookup.{quote, if, lambda, let-syntax, letrec-syntax, auxiliary, Found, bound, form, operation, nothing, lookup}
use Rattle.expansion.specs.Computation.{State, M}
use Rattle.expansion.specs.Forms.{read_rules, expand_all, expand_quote, expand_if, expand_lambda, expand_macros, expand_use, expand_operands, expand_list, expand_name, expand_application, expand_pair, expand_tree, expand_within}
use Rattle.expansion.proofs.OutcomesLaws.{weaken}
use Rattle.expansion.proofs.FormLaws.{read_rules-holds}
use Rattle.expansion.proofs.WaysLaws.{expand-keeps}
use Rattle.expansion.specs.MoreFuel.Tries.{Tries, starves}
use Rattle.expansion.proofs.MoreFuel.TriesLaws.{same-tries, give-tries, refuse-tries, test-tries, show-tries, get-tries, add_variables-tries, add_macros-tries, step-tries, then-tries, or_refuse-tries}

-- rules are read alike
rules-tries : (let-be : ℕ → Bool) (fuel : ℕ) (rs : List Tree) (s : State) → Tries let-be fuel s (read_rules rs s) (read_rules rs s)
rules-tries let-be fuel rs s =
    same-tries let-be fuel s _ (weaken (read_rules-holds (λ r. Unit {0}) (each_all _ (λ r. given-any _)) s (λ l _. omega arith))
    (λ x. x) (λ g u l q. q) (λ a u l q. omega (arith, ap (λ (z : State). z.sum) q.unchanged)))

module _ (let-be : ℕ → Bool) (limit : ℕ) (operations : List ℕ) (fuel more : ℕ) (h : fuel ≤ more) (rec rec' : Tree → M (Term Name)) (good : (t : Tree) (s : State) → Tries let-be fuel s (rec t s) (rec' t s)) where
  all-tries : (t : Tree) (s : State) → Tries let-be fuel s (expand_all limit operations fuel rec t s) (expand_all limit operations more rec' t s)
  unfolding expand_all
  all-tries empty s = give-tries let-be fuel _ s
  all-tries (constant a) s = give-tries let-be fuel _ s
  all-tries (name x) s = give-tries let-be fuel _ s
  all-tries (pair h t) s = then-tries let-be fuel _ _ _ _ s (good h s) λ a u. then-tries let-be fuel _ _ _ _ u (all-tries t u) λ b v. give-tries let-be fuel _ v

  operands-tries : (a : Term Name) (t : Tree) (s : State) → Tries let-be fuel s (expand_operands limit operations fuel rec a t s) (expand_operands limit operations more rec' a t s)
  unfolding expand_operands
  operands-tries a t s = then-tries let-be fuel _ _ _ _ s (all-tries t s) λ b u. give-tries let-be fuel _ u

  application-tries : (a t : Tree) (s : State) → Tries let-be fuel s (expand_application limit operations fuel rec a t s) (expand_application limit operations more rec' a t s)
  unfolding expand_application
  application-tries a t s = then-tries let-be fuel _ _ _ _ s (good a s) λ b u. operands-tries b t u

  quote-tries : (t : Tree) (s : State) → Tries let-be fuel s (expand_quote limit operations fuel rec t s) (expand_quote limit operations more rec' t s)
  unfolding expand_quote
  quote-tries t s = test-tries let-be fuel _ _ _ _ s (show-tries let-be fuel _ _ _ s (give-tries let-be fuel _ s))

  if-tries : (t : Tree) (s : State) → Tries let-be fuel s (expand_if limit operations fuel rec t s) (expand_if limit operations more rec' t s)
  unfolding expand_if
  if-tries t s =
      test-tries let-be fuel _ _ _ _ s
      (then-tries let-be fuel _ _ _ _ s (good _ s) λ a u.
      then-tries let-be fuel _ _ _ _ u (good _ u) λ b v.
      then-tries let-be fuel _ _ _ _ v (good _ v) λ c w.
      give-tries let-be fuel _ w)

  lambda-tries : (t : Tree) (s : State) → Tries let-be fuel s (expand_lambda limit operations fuel rec t s) (expand_lambda limit operations more rec' t s)
  unfolding expand_lambda
  lambda-tries t s =
      test-tries let-be fuel _ _ _ _ s
      (test-tries let-be fuel _ _ _ _ s
      (get-tries let-be fuel _ _ s
      (show-tries let-be fuel _ _ _ s
      (add_variables-tries let-be fuel _ _ _ s λ u.
      then-tries let-be fuel _ _ _ _ u (good _ u) λ b v.
      give-tries let-be fuel _ v))))

  macros-tries : (inside : Bool) (x : Name) (t : Tree) (s : State) → Tries let-be fuel s (expand_macros limit operations fuel rec inside x t s) (expand_macros limit operations more rec' inside x t s)
  unfolding expand_macros
  macros-tries inside x t s =
      show-tries let-be fuel _ _ _ s
      (test-tries let-be fuel _ _ _ _ s
      (test-tries let-be fuel _ _ _ _ s
      (get-tries let-be fuel _ _ s
      (show-tries let-be fuel _ _ _ s
      (then-tries let-be fuel _ _ _ _ s (rules-tries let-be fuel _ s) λ rules u.
      add_macros-tries let-be fuel _ _ _ u λ v.
      good _ v)))))

  use-tries : (n : ℕ) (t : Tree) (s : State) → Tries let-be fuel s (expand_use limit operations fuel rec n t s) (expand_use limit operations more rec' n t s)
  unfolding expand_use
  use-tries n t s =
      get-tries let-be fuel _ _ s
      (show-tries let-be fuel _ _ _ s
      (or_refuse-tries let-be fuel _ _ _ _ s λ r.
      test-tries let-be fuel _ _ _ _ s
      (step-tries let-be fuel more h _ _ _ s λ u.
      good _ u)))

  list-tries : (f : Found) (x : Name) (t : Tree) (s : State) → Tries let-be fuel s (expand_list limit operations fuel rec f x t s) (expand_list limit operations more rec' f x t s)
  unfolding expand_list
  list-tries (bound (variable n)) x t s = operands-tries _ _ s
  list-tries (bound (macro n)) x t s = use-tries n t s
  list-tries (form quote) x t s = quote-tries t s
  list-tries (form if) x t s = if-tries t s
  list-tries (form lambda) x t s = lambda-tries t s
  list-tries (form let-syntax) x t s = macros-tries _ x t s
  list-tries (form letrec-syntax) x t s = macros-tries _ x t s
  list-tries (form auxiliary) x t s = refuse-tries let-be fuel 12 s
  list-tries (operation p) x t s = operands-tries _ _ s
  list-tries nothing x t s = refuse-tries let-be fuel 11 s

  name-tries : (f : Found) (s : State) → Tries let-be fuel s (expand_name limit operations fuel rec f s) (expand_name limit operations more rec' f s)
  unfolding expand_name
  name-tries (bound (variable n)) s = give-tries let-be fuel _ s
  name-tries (bound (macro n)) s = refuse-tries let-be fuel 12 s
  name-tries (form f) s = refuse-tries let-be fuel 12 s
  name-tries (operation p) s = give-tries let-be fuel _ s
  name-tries nothing s = refuse-tries let-be fuel 11 s

  pair-tries : (a t : Tree) (s : State) → Tries let-be fuel s (expand_pair limit operations fuel rec a t s) (expand_pair limit operations more rec' a t s)
  unfolding expand_pair
  pair-tries empty t s = application-tries _ t s
  pair-tries (constant a) t s = application-tries _ t s
  pair-tries (name x) t s = show-tries let-be fuel _ _ _ s (list-tries (lookup operations x) x (pair (name x) t) s)
  pair-tries (pair a b) t s = application-tries _ t s

  pub tree-tries : (t : Tree) (s : State) → Tries let-be fuel s (expand_tree limit operations fuel rec t s) (expand_tree limit operations more rec' t s)
  unfolding expand_tree
  tree-tries empty s = refuse-tries let-be fuel 13 s
  tree-tries (constant a) s = give-tries let-be fuel _ s
  tree-tries (name x) s = show-tries let-be fuel _ _ _ s (name-tries (lookup operations x) s)
  tree-tries (pair a t) s = pair-tries a t s

-- with no less gas
pub expand-tries : (let-be : ℕ → Bool) (limit inner : ℕ) (operations : List ℕ) (fuel more gas gas' : ℕ) → fuel ≤ more → gas ≤ gas'
    → (t : Tree) (s : State) → Tries let-be fuel s (expand_within limit inner operations fuel gas t s) (expand_within limit inner operations more gas' t s)
unfolding expand_within
expand-tries let-be limit inner operations fuel more zero gas' h g t s =
    record { grown = weaken (expand-keeps limit inner operations more gas' t s) (λ x. x) (λ g u l q. q.way.sum) (λ a u l q. q.sum); beside = starves }
expand-tries let-be limit inner operations fuel more (suc gas) zero h g t s = absurd (omega arith)
expand-tries let-be limit inner operations fuel more (suc gas) (suc gas') h g t s =
    tree-tries let-be limit operations fuel more h _ _ (expand-tries let-be _ _ operations fuel more gas gas' h (omega arith)) t s
