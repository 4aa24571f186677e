-- A run that tests each expression before it expands it, and refuses on ground 0, which no expansion does, where the test fails.
-- Where no test fails it is the run itself: `watched-is`.
use Rattle.std.specs.Prelude.{◌≡◌, refl, Bool, cond, List, []}
use Rattle.std.proofs.Math.Bool.{true, false}
use Prim.Native.Nat.{ℕ, zero, suc}
use Rattle.recipe.specs.Name.{variable, macro, Name}
use Rattle.recipe.specs.Tree.{Tree, empty, constant, name, pair}
use Rattle.core_term.specs.Term.{Term}
use Rattle.expansion.specs.Lookup.{quote, if, lambda, let-syntax, letrec-syntax, auxiliary, Found, bound, form, operation, nothing, lookup}
use Rattle.expansion.specs.Computation.{State, Events, Out, done, refused, starved, M, after, go_on, ◌>>=◌, ◌>>◌, refuse}
use Rattle.expansion.specs.Forms.{expand_all, expand_quote, expand_if, expand_lambda, expand_macros, expand_use, expand_operands, expand_list, expand_name, expand_application, expand_pair, expand_tree, expand_within, expand}
use Rattle.private_names_proof.specs.Invariants.Watch.{FailsNowhere, watched}

-- ---- it is the run up to the first test that fails

data UpTo {A : Type 0} : Out A → Out A → Type 0 where
  equal : {o : Out A} → UpTo o o
  failed : {s : State} {l : Events} {o : Out A} → UpTo (refused 0 s l) o

module _ {A : Type 0} where
  after-up_to : (l : Events) {o q : Out A} → UpTo o q → UpTo (after l o) (after l q)
  unfolding after
  after-up_to l equal = equal
  after-up_to l failed = failed

  up_to-is : {o q : Out A} → UpTo o q → FailsNowhere o → o ≡ q
  up_to-is equal h = refl
  up_to-is (failed {s = s} {l = l}) h = absurd (h s l refl)

module _ {A B : Type 0} where
  go_on-up_to : (f g : A → M B) → ((a : A) (s : State) → UpTo (f a s) (g a s)) → {o q : Out A} → UpTo o q → UpTo (go_on f o) (go_on g q)
  unfolding go_on
  go_on-up_to f g h (equal {o = done a s l}) = after-up_to l (h a s)
  go_on-up_to f g h (equal {o = refused k s l}) = equal
  go_on-up_to f g h (equal {o = starved l}) = equal
  go_on-up_to f g h failed = failed

  bind-up_to : (m n : M A) (f g : A → M B) (s : State) → UpTo (m s) (n s) → ((a : A) (t : State) → UpTo (f a t) (g a t)) → UpTo ((◌>>=◌ m f) s) ((◌>>=◌ n g) s)
  unfolding ◌>>=◌
  bind-up_to m n f g s r h = go_on-up_to f g h r

  then-up_to : (m : M A) (f g : M B) (s : State) → ((t : State) → UpTo (f t) (g t)) → UpTo ((◌>>◌ m f) s) ((◌>>◌ m g) s)
  unfolding ◌>>◌
  then-up_to m f g s h = go_on-up_to (λ a. f) (λ a. g) (λ a t. h t) equal

module _ (limit : ℕ) (operations : List ℕ) (fuel : ℕ) (rec rec' : Tree → M (Term Name)) (good : (t : Tree) (s : State) → UpTo (rec t s) (rec' t s)) where
  all-up_to : (t : Tree) (s : State) → UpTo (expand_all limit operations fuel rec t s) (expand_all limit operations fuel rec' t s)
  unfolding expand_all
  all-up_to empty s = equal
  all-up_to (constant a) s = equal
  all-up_to (name x) s = equal
  all-up_to (pair h t) s = bind-up_to _ _ _ _ s (good h s) λ a u. bind-up_to _ _ _ _ u (all-up_to t u) λ b v. equal

  operands-up_to : (a : Term Name) (t : Tree) (s : State) → UpTo (expand_operands limit operations fuel rec a t s) (expand_operands limit operations fuel rec' a t s)
  unfolding expand_operands
  operands-up_to a t s = bind-up_to _ _ _ _ s (all-up_to t s) λ b v. equal

  application-up_to : (h t : Tree) (s : State) → UpTo (expand_application limit operations fuel rec h t s) (expand_application limit operations fuel rec' h t s)
  unfolding expand_application
  application-up_to h t s = bind-up_to _ _ _ _ s (good h s) λ a u. operands-up_to a t u

  quote-up_to : (t : Tree) (s : State) → UpTo (expand_quote limit operations fuel rec t s) (expand_quote limit operations fuel rec' t s)
  unfolding expand_quote
  quote-up_to t s = equal

  if-up_to : (t : Tree) (s : State) → UpTo (expand_if limit operations fuel rec t s) (expand_if limit operations fuel rec' t s)
  unfolding expand_if
  if-up_to t s = then-up_to _ _ _ s λ u. bind-up_to _ _ _ _ u (good _ u) λ a v. bind-up_to _ _ _ _ v (good _ v) λ b w. bind-up_to _ _ _ _ w (good _ w) λ d z. equal

  lambda-up_to : (t : Tree) (s : State) → UpTo (expand_lambda limit operations fuel rec t s) (expand_lambda limit operations fuel rec' t s)
  unfolding expand_lambda
  lambda-up_to t s = then-up_to _ _ _ s λ u. then-up_to _ _ _ u λ v. bind-up_to _ _ _ _ v equal λ z w. then-up_to _ _ _ w λ o. then-up_to _ _ _ o λ q. bind-up_to _ _ _ _ q (good _ q) λ b r. equal

  macros-up_to : (inside : Bool) (x : Name) (t : Tree) (s : State) → UpTo (expand_macros limit operations fuel rec inside x t s) (expand_macros limit operations fuel rec' inside x t s)
  unfolding expand_macros
  macros-up_to inside x t s =
      then-up_to _ _ _ s λ u. then-up_to _ _ _ u λ v. then-up_to _ _ _ v λ w. bind-up_to _ _ _ _ w equal λ z o. then-up_to _ _ _ o λ q. bind-up_to _ _ _ _ q equal λ rules r. then-up_to _ _ _ r λ e. good _ e

  use-up_to : (n : ℕ) (t : Tree) (s : State) → UpTo (expand_use limit operations fuel rec n t s) (expand_use limit operations fuel rec' n t s)
  unfolding expand_use
  use-up_to n t s = bind-up_to _ _ _ _ s equal λ z u. then-up_to _ _ _ u λ v. bind-up_to _ _ _ _ v equal λ r w. then-up_to _ _ _ w λ o. then-up_to _ _ _ o λ q. then-up_to _ _ _ q λ e. good _ e

  list-up_to : (f : Found) (x : Name) (t : Tree) (s : State) → UpTo (expand_list limit operations fuel rec f x t s) (expand_list limit operations fuel rec' f x t s)
  unfolding expand_list
  list-up_to (bound (variable n)) x t s = operands-up_to _ _ s
  list-up_to (bound (macro n)) x t s = use-up_to n t s
  list-up_to (form quote) x t s = quote-up_to t s
  list-up_to (form if) x t s = if-up_to t s
  list-up_to (form lambda) x t s = lambda-up_to t s
  list-up_to (form let-syntax) x t s = macros-up_to false x t s
  list-up_to (form letrec-syntax) x t s = macros-up_to true x t s
  list-up_to (form auxiliary) x t s = equal
  list-up_to (operation p) x t s = operands-up_to _ _ s
  list-up_to nothing x t s = equal

  name-up_to : (f : Found) (s : State) → UpTo (expand_name limit operations fuel rec f s) (expand_name limit operations fuel rec' f s)
  unfolding expand_name
  name-up_to (bound (variable n)) s = equal
  name-up_to (bound (macro n)) s = equal
  name-up_to (form f) s = equal
  name-up_to (operation p) s = equal
  name-up_to nothing s = equal

  pair-up_to : (h t : Tree) (s : State) → UpTo (expand_pair limit operations fuel rec h t s) (expand_pair limit operations fuel rec' h t s)
  unfolding expand_pair
  pair-up_to empty t s = application-up_to empty t s
  pair-up_to (constant a) t s = application-up_to (constant a) t s
  pair-up_to (name x) t s = then-up_to _ _ _ s λ u. list-up_to (lookup operations x) x (pair (name x) t) u
  pair-up_to (pair a b) t s = application-up_to (pair a b) t s

  tree-up_to : (t : Tree) (s : State) → UpTo (expand_tree limit operations fuel rec t s) (expand_tree limit operations fuel rec' t s)
  unfolding expand_tree
  tree-up_to empty s = equal
  tree-up_to (constant a) s = equal
  tree-up_to (name x) s = then-up_to _ _ _ s λ u. name-up_to (lookup operations x) u
  tree-up_to (pair h t) s = pair-up_to h t s

module _ (test : Tree → State → Bool) where
  watched-up_to : (limit inner : ℕ) (operations : List ℕ) (fuel gas : ℕ) (t : Tree) (s : State) → UpTo (watched test limit inner operations fuel gas t s) (expand_within limit inner operations fuel gas t s)
  unfolding watched expand_within refuse
  watched-up_to limit inner operations fuel zero t s = equal
  watched-up_to limit inner operations fuel (suc gas) t s =
      go (test t s) (tree-up_to limit operations fuel (watched test inner inner operations fuel gas) (expand inner operations fuel gas) (watched-up_to inner inner operations fuel gas) t s)
    where
      go : (b : Bool) → UpTo (expand_tree limit operations fuel (watched test inner inner operations fuel gas) t s) (expand_tree limit operations fuel (expand inner operations fuel gas) t s)
          → UpTo (cond b (expand_tree limit operations fuel (watched test inner inner operations fuel gas) t) (refuse 0) s) (expand_tree limit operations fuel (expand inner operations fuel gas) t s)
      go true r = r
      go false r = failed

  pub watched-is : (limit inner : ℕ) (operations : List ℕ) (fuel gas : ℕ) (t : Tree) (s : State) → FailsNowhere (watched test limit inner operations fuel gas t s)
      → watched test limit inner operations fuel gas t s ≡ expand_within limit inner operations fuel gas t s
  watched-is limit inner operations fuel gas t s h = up_to-is (watched-up_to limit inner operations fuel gas t s) h
