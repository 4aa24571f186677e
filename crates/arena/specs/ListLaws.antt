-- Laws of lists in the arena: what a node can be, and what is answered, one law for each way through the code.
use Rattle.std.specs.Prelude.{◌≡◌, ℕ, zero, suc, ◌+◌, ◌-◌, ◌<◌, Bool, true, false, not, List, [], length, ◌==◌, ◌≢◌}
use Rattle.std.proofs.Math.Path.{refl, sym}
use Rattle.std.proofs.Common.{ap, subst, ◌∙◌}
use native.Mathlib.Omega.{arith}
use borrow.Author.Tests.{eqb-true, eqb-false, eq-eqb, ne_eqb}
use Rattle.datum.specs.Constant.{Constant}
use Rattle.recipe.specs.Name.{Name, is_ordinary, is_ellipsis, is_wildcard}
use Rattle.recipe.specs.Tree.{Tree, empty, constant, name, pair, on_empty, on_name, on_pair, is_name, is_ordinary_name, is_list, is_list_of, elements, element, tail, past}
use Rattle.recipe.specs.TreeLaws.{element-past}
use Rattle.arena.specs.Offsets.{KIND, HEAD, TAIL}
use Rattle.arena.specs.Arena.{word_at, reference_at, name_at, constant_at, tree_at, number_of}
use Rattle.words.specs.ListLaws.{either}
use Rattle.arena.specs.ArenaLaws.{word_at-some, word_at-none, reference_at-most, reference_at-falls}
use Rattle.arena.specs.NodeLaws.{tree_at-empty, tree_at-name, tree_at-pair, tree_at-constant, name_at-number}
use Rattle.arena.specs.Lists.{Means, Counts, Tests, Counted, Skipped}

-- ---- what a node can be

-- node 0 is the empty list
pub tree_at-none : (work : List ℕ) (w : ℕ) → tree_at work 0 w ≡ empty
tree_at-none work w = tree_at-empty work 0 w (word_at-none work 3 (omega arith))

module _ (work : List ℕ) (node w : ℕ) where
  pub tree-cases : (P : Tree → Type 0) → (word_at work node KIND ≡ 0 → P empty) → (word_at work node KIND ≡ 3 → P (name (name_at work node w))) → (word_at work node KIND ≡ 4 → P (pair (tree_at work (reference_at work node HEAD) w) (tree_at work (reference_at work node TAIL) w))) → ((word_at work node KIND ≢ 0) → (word_at work node KIND ≢ 3) → (word_at work node KIND ≢ 4) → P (constant (constant_at work node))) → P (tree_at work node w)
  tree-cases P e n p c =
      let kind = word_at work node KIND in
      either (kind == 0)
      (λ t. subst P (sym (tree_at-empty work node w (eqb-true kind 0 t))) (e (eqb-true kind 0 t)))
      (λ t.
      either (kind == 3)
      (λ u. subst P (sym (tree_at-name work node w (eqb-true kind 3 u))) (n (eqb-true kind 3 u)))
      (λ u.
      either (kind == 4)
      (λ v. subst P (sym (tree_at-pair work node w (eqb-true kind 4 v))) (p (eqb-true kind 4 v)))
      (λ v. subst P (sym (tree_at-constant work node w (eqb-false kind 0 t) (eqb-false kind 3 u) (eqb-false kind 4 v))) (c (eqb-false kind 0 t) (eqb-false kind 3 u) (eqb-false kind 4 v)))))

  pub no_name : {A : Type 0} (f : Name → A) (a : A) → (word_at work node KIND ≢ 3) → on_name f a (tree_at work node w) ≡ a
  unfolding on_name
  no_name f a n = tree-cases (λ t. on_name f a t ≡ a) (λ e. refl) (λ e. absurd (n e)) (λ e. refl) (λ p q r. refl)

  pub no-elements : (word_at work node KIND ≢ 4) → elements (tree_at work node w) ≡ []
  unfolding elements
  no-elements n = tree-cases (λ t. elements t ≡ []) (λ e. refl) (λ e. refl) (λ e. absurd (n e)) (λ p q r. refl)

module _ (work : List ℕ) (node kind : ℕ) (kind-is : kind ≡ word_at work node KIND) where
  -- what holds of every tree that is no pair
  pub no-pair : (P : Tree → Type 0) → P empty → ((x : Name) → P (name x)) → ((a : Constant) → P (constant a)) → (kind ≢ 4)
      → (w : ℕ) → P (tree_at work node w)
  no-pair P e n c other w = tree-cases work node w P (λ z. e) (λ z. n _) (λ z. absurd (other (kind-is ∙ z))) (λ p q r. c _)

  pub a_pair : kind ≡ 4 → (w : ℕ) → tree_at work node w ≡ pair (tree_at work (reference_at work node HEAD) w) (tree_at work (reference_at work node TAIL) w)
  a_pair e w = tree_at-pair work node w (sym kind-is ∙ e)

  pub kind-some : kind ≡ 4 → 0 < node
  kind-some e = word_at-some work node 3 (omega arith) (λ z. omega arith)

  -- ---- first and rest

  pub first-none : (kind ≢ 4) → Means work node 0 (element 0)
  unfolding element elements
  first-none other = record { is = λ w. tree_at-none work w ∙ no-pair (λ t. empty ≡ element 0 t) refl (λ x. refl) (λ a. refl) other w; low = omega arith }

  pub first_some : kind ≡ 4 → (r : ℕ) → r ≡ reference_at work node HEAD → Means work node r (element 0)
  unfolding element elements
  first_some e r h = record { is = λ w. rw (h, a_pair e w) refl; low = omega (arith, reference_at-most work node 2) }

  pub rest-none : (kind ≢ 4) → Means work node 0 tail
  unfolding tail on_pair
  rest-none other = record { is = λ w. tree_at-none work w ∙ no-pair (λ t. empty ≡ tail t) refl (λ x. refl) (λ a. refl) other w; low = omega arith }

  pub rest_some : kind ≡ 4 → (r : ℕ) → r ≡ reference_at work node TAIL → Means work node r tail
  unfolding tail on_pair
  rest_some e r h = record { is = λ w. rw (h, a_pair e w) refl; low = omega (arith, reference_at-most work node 1) }

  -- ---- counting

  -- the elements of a list are k, and those of the node
  pub count_none : (list k : ℕ) → (kind ≢ 4) → Counted work list node k → Counts work list k
  count_none list k other c =
      record {
        is = λ w. sym (c.is w ∙ ap (λ (l : List Tree). k + length l) (no-elements work node w (λ z. other (kind-is ∙ z))) ∙ omega arith);
        low = omega (arith, c.low);
      }

  pub count-more : (list k r : ℕ) → kind ≡ 4 → r ≡ reference_at work node TAIL → Counted work list node k → Counted work list r (k + 1)
  unfolding elements
  count-more list k r e h c =
      record {
        is = λ w. c.is w ∙ rw (h, a_pair e w) (omega arith);
        low = omega (arith, c.low, reference_at-falls work node 1 (kind-some e));
      }

  -- ---- tests

  pub name-test : Tests is_name work node (kind == 3)
  unfolding is_name on_name
  name-test w =
      tree-cases work node w (λ t. (kind == 3) ≡ is_name t)
      (λ z. ne_eqb kind 3 (λ y. omega arith)) (λ z. eq-eqb kind 3 (kind-is ∙ z)) (λ z. ne_eqb kind 3 (λ y. omega arith)) (λ p q r. ne_eqb kind 3 (λ y. q (sym kind-is ∙ y)))

  pub list-empty : kind ≡ 0 → Tests is_list work node true
  unfolding is_list on_empty
  list-empty e w = rw (tree_at-empty work node w (sym kind-is ∙ e))

  pub list-pair : (kind ≢ 0) → Tests is_list work node (kind == 4)
  unfolding is_list on_empty on_pair
  list-pair other w =
      tree-cases work node w (λ t. (kind == 4) ≡ is_list t)
      (λ z. absurd (other (kind-is ∙ z))) (λ z. ne_eqb kind 4 (λ y. omega arith)) (λ z. eq-eqb kind 4 (kind-is ∙ z)) (λ p q r. ne_eqb kind 4 (λ y. r (sym kind-is ∙ y)))

-- a pair's parts stand below it
pub pair-falls : (work : List ℕ) (node k : ℕ) → word_at work node KIND ≡ 4 → reference_at work node k < node
pair-falls work node k e = reference_at-falls work node k (kind-some work node _ refl e)

pub count-begins : (work : List ℕ) (list : ℕ) → Counted work list list 0
count-begins work list = record { is = λ w. omega arith; low = omega arith }

-- ---- walking to an element

module _ (work : List ℕ) (list n : ℕ) where
  pub skip-begins : Skipped work list n list n
  skip-begins = record { is = λ w. refl; low = omega arith }

  pub skip-more : (node k r : ℕ) → (k ≢ 0) → Means work node r tail → Skipped work list n node k → Skipped work list n r (k - 1)
  unfolding past
  skip-more node zero r p m c = absurd (p refl)
  skip-more node (suc k) r p m c =
      let e : suc k - 1 ≡ k = omega arith in
      record {
        is = λ w. c.is w ∙ rw (e, m.is w) refl;
        low = omega (arith, m.low, c.low);
      }

  pub skip-ends : (node k : ℕ) → k ≡ 0 → Skipped work list n node k → Means work list node (past n)
  unfolding past
  skip-ends node k e c = record { is = λ w. sym (c.is w ∙ rw e refl); low = c.low }

  pub skip_first : (node r : ℕ) → Means work list node (past n) → Means work node r (element 0) → Means work list r (element n)
  skip_first node r c m = record { is = λ w. m.is w ∙ ap (element 0) (c.is w) ∙ element-past n (tree_at work list w); low = omega (arith, m.low, c.low) }

-- ---- lists of n elements

module _ (work : List ℕ) (node n : ℕ) (r : Bool) (listed : Tests is_list work node r) where
  pub list_of : (k : ℕ) → r ≡ true → Counts work node k → Tests (is_list_of n) work node (k == n)
  unfolding is_list_of
  list_of k e c w = rw (sym (listed w) ∙ e, c.is w)

  pub list-not : r ≡ false → Tests (is_list_of n) work node false
  unfolding is_list_of
  list-not e w = rw (sym (listed w) ∙ e)

-- ---- names that may be bound

module _ (work : List ℕ) (node kind : ℕ) (kind-is : kind ≡ word_at work node KIND) where
  pub ordinary-other : (kind ≢ 3) → Tests is_ordinary_name work node false
  unfolding is_ordinary_name
  ordinary-other other w = sym (no_name work node w is_ordinary false (λ z. other (kind-is ∙ z)))

  module _ (number : ℕ) (number_is : number ≡ number_of work node) (a-name : kind ≡ 3) where
    number_same : (w : ℕ) → (name_at work node w).number ≡ number
    number_same w = name_at-number work node w ∙ sym number_is

    pub ordinary-ellipsis : number ≡ 6 → Tests is_ordinary_name work node false
    unfolding is_ordinary_name on_name is_ordinary is_ellipsis is_wildcard
    ordinary-ellipsis e w = rw (tree_at-name work node w (sym kind-is ∙ a-name), number_same w, e)

    pub ordinary-last : (number ≢ 6) → Tests is_ordinary_name work node (not (number == 7))
    unfolding is_ordinary_name on_name is_ordinary is_ellipsis is_wildcard
    ordinary-last e w = rw (tree_at-name work node w (sym kind-is ∙ a-name), number_same w, ne_eqb number 6 e)
