-- Laws of nodes: what a tree in the arena means depends on the words below it alone; what each kind of node means; and that
-- waiting on a tree is carrying through it.
use Rattle.std.specs.Prelude.{◌≡◌, ℕ, zero, suc, ◌<◌, ◌≤◌, List, take, ◌==◌, ◌≢◌}
use Rattle.std.proofs.Math.Path.{refl, ap, ap₂}
use Rattle.std.proofs.Common.{sym, ◌∙◌, arith}
use borrow.Author.Tests.{ne_eqb}
use Rattle.words.specs.Lists.{within}
use Rattle.recipe.specs.Name.{Name}
use Rattle.recipe.specs.Tree.{Tree, empty, constant, name, pair, on_names}
use Rattle.recipe.specs.Table.{by_kind}
use Rattle.arena.specs.Offsets.{KIND, OWN, HEAD, TAIL}
use Rattle.arena.specs.Arena.{word_at, reference_at, wrap_at, origin_name, node_name, number_of, name_at, constant_at, tree_step, tree_from, tree_at}
use Rattle.words.specs.ListLaws.{either}
use Rattle.arena.specs.ArenaLaws.{Reads, from-below, from-whole, word_at-below, reference_at-below, reference_at-falls, take_less, wrap_at-below, wrap_at-none, wrap_at-number}

-- a name's number is its node's, whatever waits on it
pub name_at-number : (work : List ℕ) (node w : ℕ) → (name_at work node w).number ≡ number_of work node
unfolding name_at number_of
name_at-number work node w = wrap_at-number work w _ ∙ wrap_at-number work _ _

-- ---- what a node means depends on the words below it alone

by_kind-cong : (k : ℕ) (n n' p p' c c' : Tree) → n ≡ n' → p ≡ p' → c ≡ c' → by_kind k empty n p c ≡ by_kind k empty n' p' c'
by_kind-cong k n n' p p' c c' e f g = rw (e, f, g)

module _ (a b : List ℕ) (node w : ℕ) (some_word : 0 < node) (e : take node a ≡ take node b) (d : take w a ≡ take w b) where
  pub name_at-agree : name_at a node w ≡ name_at b node w
  unfolding name_at node_name
  name_at-agree =
      let own = reference_at a node OWN in
      let l : own ≤ node = omega (arith, reference_at-falls a node 1 some_word) in
      wrap_at-below a b w d _
      ∙ ap (wrap_at b w) (wrap_at-below a b own (take_less a b own node l e) _ ∙ ap₂ (wrap_at b) (reference_at-below a b node 1 (omega arith) e) (ap origin_name (word_at-below a b node 2 (omega arith) e)))

  constant_at-agree : constant_at a node ≡ constant_at b node
  unfolding constant_at
  constant_at-agree = rw (word_at-below a b node 3 (omega arith) e, word_at-below a b node 2 (omega arith) e, word_at-below a b node 1 (omega arith) e)

  tree_step-agree : (f g : ℕ → ℕ → Tree) → ((r : ℕ) → r < node → f r w ≡ g r w) → tree_step a f node w ≡ tree_step b g node w
  unfolding tree_step
  tree_step-agree f g same =
      let child : (k : ℕ) → 0 < k → f (reference_at a node k) w ≡ g (reference_at b node k) w = λ k p. same _ (reference_at-falls a node k some_word) ∙ ap (λ (r : ℕ). g r w) (reference_at-below a b node k p e) in
      rw (word_at-below a b node 3 (omega arith) e)
      (by_kind-cong (word_at b node KIND) _ _ _ _ _ _ (ap name name_at-agree) (ap₂ pair (child 2 (omega arith)) (child 1 (omega arith))) (ap constant constant_at-agree))

tree_from-none : (work : List ℕ) (gas w : ℕ) → tree_from work gas 0 w ≡ empty
unfolding tree_from tree_step by_kind word_at within
tree_from-none work zero w = refl
tree_from-none work (suc gas) w = refl

reads-tree : (work : List ℕ) (w : ℕ) → Reads (λ g node. tree_from work g node w) (λ f node. tree_step work (λ r v. f r) node w) empty
unfolding tree_from tree_step
reads-tree work w = record { steps = λ g node. refl; ends = λ g. tree_from-none work g w }

-- appending above changes no earlier meaning
pub tree_at-below : (a b : List ℕ) (node w : ℕ) → take node a ≡ take node b → take w a ≡ take w b → tree_at a node w ≡ tree_at b node w
unfolding tree_at
tree_at-below a b node w e d =
    from-below (reads-tree a w) (reads-tree b w) a b (λ at p q f g same. tree_step-agree a b at w p q d (λ r v. f r) (λ r v. g r) same) node e

-- ---- what each node means

tree_at-step : (work : List ℕ) (node w : ℕ) → tree_at work node w ≡ tree_step work (tree_at work) node w
unfolding tree_at tree_from tree_step by_kind word_at within
tree_at-step work zero w = refl
tree_at-step work (suc node) w =
    from-whole (reads-tree work w) (λ at p f g same. tree_step-agree work work at w p refl refl (λ r v. f r) (λ r v. g r) same) (suc node) (omega arith)

module _ (work : List ℕ) (node w : ℕ) where
  pub tree_at-empty : word_at work node KIND ≡ 0 → tree_at work node w ≡ empty
  unfolding tree_step by_kind
  tree_at-empty e = tree_at-step work node w ∙ rw e refl

  pub tree_at-name : word_at work node KIND ≡ 3 → tree_at work node w ≡ name (name_at work node w)
  unfolding tree_step by_kind
  tree_at-name e = tree_at-step work node w ∙ rw e refl

  -- opening a list hands its wrap on
  pub tree_at-pair : word_at work node KIND ≡ 4 → tree_at work node w ≡ pair (tree_at work (reference_at work node HEAD) w) (tree_at work (reference_at work node TAIL) w)
  unfolding tree_step by_kind
  tree_at-pair e = tree_at-step work node w ∙ rw e refl

  pub tree_at-constant : (word_at work node KIND ≢ 0) → (word_at work node KIND ≢ 3) → (word_at work node KIND ≢ 4) → tree_at work node w ≡ constant (constant_at work node)
  unfolding tree_step by_kind
  tree_at-constant a b c = tree_at-step work node w ∙ rw (ne_eqb _ _ a, ne_eqb _ _ b, ne_eqb _ _ c)

-- ---- waiting is carrying through

name_at-wrap : (work : List ℕ) (node w : ℕ) → name_at work node w ≡ wrap_at work w (name_at work node 0)
unfolding name_at
name_at-wrap work node w = ap (wrap_at work w) (sym (wrap_at-none work _))

on_names-by_kind : (f : Name → Name) (k : ℕ) (n p c : Tree) → on_names f (by_kind k empty n p c) ≡ by_kind k empty (on_names f n) (on_names f p) (on_names f c)
unfolding by_kind on_names
on_names-by_kind f k n p c =
    either (k == 0) (λ t. rw t refl) (λ t. either (k == 3) (λ u. rw (t, u) refl) (λ u. either (k == 4) (λ v. rw (t, u, v) refl) (λ v. rw (t, u, v) refl)))

tree_from-wrap : (work : List ℕ) (gas node w : ℕ) → tree_from work gas node w ≡ on_names (wrap_at work w) (tree_from work gas node 0)
unfolding tree_from tree_step on_names
tree_from-wrap work zero node w = refl
tree_from-wrap work (suc gas) node w =
    by_kind-cong (word_at work node KIND) _ _ _ _ _ _ (ap name (name_at-wrap work node w)) (ap₂ pair (tree_from-wrap work gas _ w) (tree_from-wrap work gas _ w)) refl
    ∙ sym (on_names-by_kind (wrap_at work w) (word_at work node KIND) _ _ _)

-- what waits on a tree is carried through it
pub tree_at-wrap : (work : List ℕ) (node w : ℕ) → tree_at work node w ≡ on_names (wrap_at work w) (tree_at work node 0)
unfolding tree_at
tree_at-wrap work node w = tree_from-wrap work node node w
