-- What opening a node tells, under whatever wrap waits on it, and laws of it in the code's shape.
use Rattle.std.specs.Prelude.{◌≡◌, ℕ, ◌<◌, List, ◌≢◌}
use Rattle.std.proofs.Common.{sym, ◌∙◌, arith}
use Rattle.recipe.specs.Tree.{empty, constant, name, pair}
use Rattle.arena.specs.Offsets.{KIND, ORIGIN, OWN, HEAD, TAIL, FIRST, SECOND}
use Rattle.arena.specs.Arena.{word_at, reference_at, name_at, constant_at, tree_at}
use Rattle.arena.specs.ArenaLaws.{word_at-some, reference_at-falls}
use Rattle.arena.specs.NodeLaws.{tree_at-empty, tree_at-name, tree_at-pair, tree_at-constant}
use Rattle.arena.specs.declared.nodes.Node.{Node}
use Rattle.arena.specs.declared.nodes.Node.TheVariants.{Empty, Name, Pair, Constant}

pub record OpensName (work : List ℕ) (node origin own : ℕ) : Type 0 where
  pub origin-is : origin ≡ word_at work node ORIGIN
  pub own_is : own ≡ reference_at work node OWN
  pub tree : (w : ℕ) → tree_at work node w ≡ name (name_at work node w)

-- head and tail stand below
pub record OpensPair (work : List ℕ) (node head tail : ℕ) : Type 0 where
  pub head-falls : head < node
  pub tail-falls : tail < node
  pub tree : (w : ℕ) → tree_at work node w ≡ pair (tree_at work head w) (tree_at work tail w)

-- a constant's kind is no other node's
pub record OpensConstant (work : List ℕ) (node k a b : ℕ) : Type 0 where
  pub not-empty : k ≡ 0 → ⊥
  pub not-name : k ≡ 3 → ⊥
  pub not-pair : k ≡ 4 → ⊥
  pub tree : (w : ℕ) → tree_at work node w ≡ constant (record { kind = k; first = a; second = b })

abbrev pub Opens : List ℕ → ℕ → Node → Type 0
Opens work node Empty = (w : ℕ) → tree_at work node w ≡ empty
Opens work node (Name origin own) = OpensName work node origin own
Opens work node (Pair head tail) = OpensPair work node head tail
Opens work node (Constant k a b) = OpensConstant work node k a b

module _ (work : List ℕ) (node kind : ℕ) (kind-is : kind ≡ word_at work node KIND) where
  pub opens-empty : kind ≡ 0 → Opens work node Empty
  opens-empty e w = tree_at-empty work node w (sym kind-is ∙ e)

  pub opens-name : (origin own : ℕ) → kind ≡ 3 → origin ≡ word_at work node ORIGIN → own ≡ reference_at work node OWN → Opens work node (Name origin own)
  opens-name origin own e p q = record { origin-is = p; own_is = q; tree = λ w. tree_at-name work node w (sym kind-is ∙ e) }

  pub opens-pair : (head tail : ℕ) → kind ≡ 4 → head ≡ reference_at work node HEAD → tail ≡ reference_at work node TAIL → Opens work node (Pair head tail)
  opens-pair head tail e p q =
      let some : 0 < node = word_at-some work node 3 (omega arith) (λ z. omega (arith, kind-is ∙ z)) in
      record {
        head-falls = rw p (reference_at-falls work node 2 some);
        tail-falls = rw q (reference_at-falls work node 1 some);
        tree = λ w. rw (p, q) (tree_at-pair work node w (sym kind-is ∙ e));
      }

  pub opens-constant : (a b : ℕ) → (kind ≢ 0) → (kind ≢ 3) → (kind ≢ 4) → a ≡ word_at work node FIRST → b ≡ word_at work node SECOND → Opens work node (Constant kind a b)
  unfolding constant_at
  opens-constant a b x y z p q =
      record {
        not-empty = x;
        not-name = y;
        not-pair = z;
        tree = λ w. rw (kind-is, p, q) (tree_at-constant work node w (λ h. x (kind-is ∙ h)) (λ h. y (kind-is ∙ h)) (λ h. z (kind-is ∙ h)));
      }
