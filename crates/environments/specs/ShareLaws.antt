-- Laws of what an ellipsis takes of a list, and of what it leaves: a list is gone along with a second node ahead of the first by as many
-- elements as follow the ellipsis, so that the ellipsis takes an element where the second node is a pair.
use Rattle.std.specs.Prelude.{◌≡◌, Some, None, ℕ, zero, suc, ◌+◌, ◌-◌, ◌≤◌, List, [], length, ◌==◌, ◌≢◌}
use Rattle.std.proofs.Math.Path.{refl, sym, ap}
use Rattle.std.proofs.Common.{◌∙◌, arith, eqb-true, le-leb}
use Rattle.std.proofs.lemmas.Bool.{eqb-false, lt-leb}
use Rattle.words.specs.ListLaws.{either}
use Rattle.recipe.specs.Tree.{Tree, empty, constant, name, pair, on_pair, elements, tail, past}
use Rattle.expansion.specs.Match.{share}
use Rattle.arena.specs.Arena.{word_at, reference_at, tree_at}
use Rattle.arena.specs.Lists.{Means, Counts, Counted, Skipped}
use Rattle.arena.specs.ListLaws.{no-elements, a_pair, rest_some, count-begins, count-more, count_none, skip-begins, skip-more, skip-ends}
use Rattle.environments.specs.Parts.{Shares, After, LooksAhead}

-- ---- on trees

elements-tail : (t : Tree) → length (elements (tail t)) ≡ length (elements t) - 1
unfolding elements tail on_pair
elements-tail empty = refl
elements-tail (constant a) = refl
elements-tail (name x) = refl
elements-tail (pair h t) = omega arith

elements-past : (n : ℕ) (t : Tree) → length (elements (past n t)) ≡ length (elements t) - n
unfolding past
elements-past zero t = omega arith
elements-past (suc n) t = elements-past n (tail t) ∙ omega (arith, elements-tail t)

pub past-tail : (n : ℕ) (t : Tree) → past n (tail t) ≡ tail (past n t)
unfolding past
past-tail zero t = refl
past-tail (suc n) t = past-tail n (tail t)

share-none-left : (n : ℕ) (t : Tree) → elements (past n t) ≡ [] → share n t ≡ 0
unfolding share
share-none-left n t e = sym (elements-past n t) ∙ ap length e

share-one-more : (n : ℕ) (t h u : Tree) → past n t ≡ pair h u → share n t ≡ suc (share n (tail t))
unfolding share elements
share-one-more n t h u e =
    let l : length (elements t) - n ≡ suc (length (elements u)) = sym (elements-past n t) ∙ ap (λ (x : Tree). length (elements x)) e in
    omega (arith, l, elements-tail t)

-- ---- counting

module _ (work : List ℕ) (p list n c : ℕ) (n-is : n ≡ word_at work p 4) (counted : Counts work list c) where
  pub share-none : c ≤ n → Shares work p list 0
  unfolding share
  share-none h w = rw (← n-is, ← counted.is w) (omega arith)

  pub share-some : Shares work p list (c - n)
  unfolding share
  share-some w = rw (← n-is, ← counted.is w) refl

-- ---- the node behind as many elements as follow

-- what is left of the list's first n elements is the node's first k
pub record Skipping (work : List ℕ) (list n node k : ℕ) : Type 0 where
  pub skipped : Skipped work list n node k
  pub counted : Counted work list node (n - k)
  pub within : k ≤ n

module _ (work : List ℕ) (p list n : ℕ) (n-is : n ≡ word_at work p 4) where
  pub skipping_begins : Skipping work list n list n
  skipping_begins =
      let e : n - n ≡ 0 = omega arith in
      record { skipped = skip-begins work list n; counted = rw e (count-begins work list); within = omega arith }

  module _ (node k : ℕ) (inv : Skipping work list n node k) where
    pub skipping-ends : k ≡ 0 → LooksAhead work p list (Some node)
    skipping-ends e = (
      λ w. le-leb (word_at work p 4) (length (elements (tree_at work list w))) (omega (arith, e, n-is, inv.counted.is w)),
      rw (← n-is) (skip-ends work list n node k e inv.skipped),
    )

    module _ (kind : ℕ) (kind-is : kind ≡ word_at work node 3) (more : k ≡ 0 → ⊥) where
      pub skipping-short : (kind ≢ 4) → LooksAhead work p list None
      skipping-short other w = lt-leb (word_at work p 4) (length (elements (tree_at work list w))) (omega (arith, more, n-is, inv.within, (count_none work node kind kind-is list (n - k) other inv.counted).is w))

      pub skipping-more : (r : ℕ) → kind ≡ 4 → r ≡ reference_at work node 1 → Skipping work list n r (k - 1)
      skipping-more r e h =
          let c : n - (k - 1) ≡ n - k + 1 = omega (arith, more, inv.within) in
          record {
            skipped = skip-more work list n node k r more (rest_some work node kind kind-is e r h) inv.skipped;
            counted = rw c (count-more work node kind kind-is list (n - k) r e h inv.counted);
            within = omega (arith, inv.within);
          }

-- ---- two nodes

-- the second is the list at the first after n elements
abbrev pub AheadBy : (work : List ℕ) (n node ahead : ℕ) → Type 0
AheadBy work n node ahead = (w : ℕ) → tree_at work ahead w ≡ past n (tree_at work node w)

module _ (work : List ℕ) (n node ahead kind : ℕ) (kind-is : kind ≡ word_at work ahead 3) (is-ahead : AheadBy work n node ahead) where
  pub takes_none : (kind ≢ 4) → (w : ℕ) → share n (tree_at work node w) ≡ 0
  takes_none other w = share-none-left n (tree_at work node w) (ap elements (sym (is-ahead w)) ∙ no-elements work ahead w (λ z. other (kind-is ∙ z)))

  module _ (e : kind ≡ 4) where
    pub takes_one : (w : ℕ) → share n (tree_at work node w) ≡ suc (share n (tail (tree_at work node w)))
    takes_one w = share-one-more n (tree_at work node w) _ _ (sym (is-ahead w) ∙ a_pair work ahead kind kind-is e w)

    pub node-pair : word_at work node 3 ≡ 4
    unfolding share
    node-pair =
        either (word_at work node 3 == 4) (eqb-true (word_at work node 3) 4)
        (λ f.
        let l : length (elements (tree_at work node 0)) ≡ 0 = ap length (no-elements work node 0 (eqb-false (word_at work node 3) 4 f)) in
        absurd (omega (arith, l, takes_one 0)))

    pub ahead_more : (next further : ℕ) → next ≡ reference_at work node 1 → further ≡ reference_at work ahead 1 → AheadBy work n next further
    ahead_more next further next-is further-is w =
        (rest_some work ahead kind kind-is e further further-is).is w ∙ ap tail (is-ahead w) ∙ sym (past-tail n (tree_at work node w))
        ∙ ap (past n) (sym ((rest_some work node (word_at work node 3) refl node-pair next next-is).is w))

-- ---- going to what follows

-- what the ellipsis leaves of the node it leaves of the list
pub record Left (work : List ℕ) (p list node ahead : ℕ) : Type 0 where
  pub is : (w : ℕ) → past (share (word_at work p 4) (tree_at work list w)) (tree_at work list w) ≡ past (share (word_at work p 4) (tree_at work node w)) (tree_at work node w)
  pub is-ahead : AheadBy work (word_at work p 4) node ahead
  pub low : node ≤ list

pub ahead-begins : (work : List ℕ) (p list n ahead : ℕ) → n ≡ word_at work p 4 → Means work list ahead (past n) → AheadBy work (word_at work p 4) list ahead
ahead-begins work p list n ahead n-is m w = m.is w ∙ ap (λ (c : ℕ). past c (tree_at work list w)) n-is

module _ (work : List ℕ) (p list : ℕ) where
  pub left-begins : (ahead : ℕ) → AheadBy work (word_at work p 4) list ahead → Left work p list list ahead
  left-begins ahead a = record { is = λ w. refl; is-ahead = a; low = omega arith }

  module _ (node ahead kind : ℕ) (kind-is : kind ≡ word_at work ahead 3) (inv : Left work p list node ahead) where
    pub left-more : (next further : ℕ) → kind ≡ 4 → next ≡ reference_at work node 1 → further ≡ reference_at work ahead 1 → Left work p list next further
    unfolding past
    left-more next further e next-is further-is =
        let m = rest_some work node (word_at work node 3) refl (node-pair work (word_at work p 4) node ahead kind kind-is inv.is-ahead e) next next-is in
        record {
          is = λ w. inv.is w ∙ rw (takes_one work (word_at work p 4) node ahead kind kind-is inv.is-ahead e w, m.is w) refl;
          is-ahead = ahead_more work (word_at work p 4) node ahead kind kind-is inv.is-ahead e next further next-is further-is;
          low = omega (arith, inv.low, m.low);
        }

    pub left-ends : (kind ≢ 4) → After work p list node
    unfolding past
    left-ends other = record { is = λ w. sym (inv.is w ∙ rw (takes_none work (word_at work p 4) node ahead kind kind-is inv.is-ahead other w) refl); low = inv.low }
