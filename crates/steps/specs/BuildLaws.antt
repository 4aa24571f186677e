-- Laws of building, one for each way through the code: fresh nodes, and trees whose items are paid for one by one.
use Rattle.std.specs.Prelude.{◌≡◌, Option, None, List, ℕ, ◌+◌, ◌*◌, ◌-◌, ◌≤◌, ltb, length, take}
use Rattle.std.proofs.Math.Path.{refl, ap, ap₂}
use Rattle.std.proofs.Common.{sym, subst, ◌∙◌, arith}
use Rattle.recipe.specs.Name.{Name, mark_name, produce_name}
use Rattle.recipe.specs.Tree.{Tree, empty, constant, name, pair, size, on_names, produce}
use Rattle.recipe.specs.TreeLaws.{size-positive}
use Rattle.arena.specs.Arena.{word_at, reference_at, step_limit, marked, give_key, is_own, rebound, wrap_at, origin_name, node_name, name_at, constant_at, tree_at}
use Rattle.words.specs.ListLaws.{either}
use Rattle.arena.specs.ArenaLaws.{take_less, reference_at-most, wrap_at-none, wrap_at-keeps}
use Rattle.arena.specs.NodeLaws.{tree_at-empty, tree_at-name, tree_at-pair, tree_at-constant}
use Rattle.arena.specs.Cells.{Room, Wrapped, Grown}
use Rattle.arena.specs.CellLaws.{tree-kept}
use Rattle.steps.specs.declared.copy.Built.{Built}
use Rattle.steps.specs.Build.{node_words, built, Fresh, Paid, Unpaid, Pays, Waiting}

-- ---- names are produced before or after what waits on them

marked-produce : (m : ℕ) (x y : Name) → x ≡ produce_name y → marked m x ≡ produce_name (marked m y)
unfolding marked mark_name produce_name
marked-produce m x y e = rw e (either (ltb m step_limit) (λ t. rw t refl) (λ t. rw t refl))

rebound-produce : (work : List ℕ) (f : ℕ → Name → Name) (w : ℕ) (x y : Name) → x ≡ produce_name y → rebound work f w x ≡ produce_name (rebound work f w y)
unfolding rebound is_own give_key produce_name
rebound-produce work f w x y e = rw e (either (is_own work f w y) (λ t. rw t refl) (λ t. rw t refl))

wrap_at-produce : (work : List ℕ) (w : ℕ) (x : Name) → wrap_at work w (produce_name x) ≡ produce_name (wrap_at work w x)
wrap_at-produce work w x = wrap_at-keeps work (λ a b. a ≡ produce_name b) marked-produce (rebound-produce work) w (produce_name x) x refl

-- ---- nodes of one item

fresh-one : (A : Tree) (old new : List ℕ) (top r : ℕ) → r ≡ top + 3 → take top new ≡ take top old → (tree_at new r 0 ≡ produce A) → Fresh A old new top r
fresh-one A old new top r e k m = record { above = omega arith; most = omega arith; kept = k; means = m }

pub fresh-empty : (old new : List ℕ) (top r : ℕ) → Grown (λ w. empty) old new top r → Fresh empty old new top r
unfolding produce on_names
fresh-empty old new top r g = fresh-one _ old new top r g.end g.kept (g.means 0 (omega arith))

pub fresh-constant : (old new : List ℕ) (top r k a b : ℕ) → Grown (λ w. constant (record { kind = k; first = a; second = b })) old new top r → Fresh (constant (record { kind = k; first = a; second = b })) old new top r
unfolding produce on_names
fresh-constant old new top r k a b g = fresh-one _ old new top r g.end g.kept (g.means 0 (omega arith))

module _ (old : List ℕ) (top node w word origin own : ℕ) (word-is : word ≡ word_at old node 2) (produced : origin_name origin ≡ produce_name (origin_name word)) (own_is : own ≡ reference_at old node 1) where
  origin-is : origin_name origin ≡ produce_name (node_name old node)
  unfolding node_name
  origin-is = produced ∙ ap (λ (o : ℕ). produce_name (origin_name o)) word-is

  pub fresh-bare : (new : List ℕ) (r : ℕ) → own ≡ 0 → Grown (λ v. name (wrap_at old v (wrap_at old w (origin_name origin)))) old new top r → Fresh (name (name_at old node w)) old new top r
  unfolding produce on_names name_at
  fresh-bare new r e g =
      fresh-one _ old new top r g.end g.kept
      (g.means 0 (omega arith)
      ∙ ap name
      (wrap_at-none old _
      ∙ ap (wrap_at old w) origin-is
      ∙ wrap_at-produce old w _
      ∙ ap (λ (x : Name). produce_name (wrap_at old w x)) (sym (rw (← own_is, e) (wrap_at-none old _)))))

  pub fresh-joined : (one new : List ℕ) (j r : ℕ) → Wrapped (λ x. wrap_at old w (wrap_at old own x)) 3 old one top j → Grown (λ v. name (wrap_at one v (wrap_at one j (origin_name origin)))) one new j r → Fresh (name (name_at old node w)) old new top r
  unfolding produce on_names name_at
  fresh-joined one new j r f g =
      record {
        above = omega (arith, f.end, g.end);
        most = omega (arith, f.end, g.end);
        kept = take_less new one top j (omega (arith, f.end)) g.kept ∙ f.kept;
        means =
            g.means 0 (omega arith)
            ∙ ap name
            (wrap_at-none one _
            ∙ f.means _
            ∙ ap (λ (x : Name). wrap_at old w (wrap_at old own x)) origin-is
            ∙ ap (wrap_at old w) (wrap_at-produce old own _)
            ∙ wrap_at-produce old w _
            ∙ ap (λ (v : ℕ). produce_name (wrap_at old w (wrap_at old v (node_name old node)))) own_is);
      }

-- ---- room

pub room-less : (work : List ℕ) (top : ℕ) → Room work top 6 → Room work top 3
room-less work top r = record { fits = omega (arith, r.fits); small = omega (arith, r.small) }

-- fuel for an item is room for its node
pub room-node : (work : List ℕ) (top fuel : ℕ) → (fuel ≡ 0 → ⊥) → Room work top (node_words * fuel) → Room work top 6
room-node work top fuel h r = record { fits = omega (arith, r.fits); small = omega (arith, r.small) }

-- what is left has the room that is left
pub room-left : (old new : List ℕ) (top fuel r left n : ℕ) → length new ≡ length old → r + n ≤ top + node_words * fuel → Room old top (node_words * fuel) → Room new r n
room-left old new top fuel r left n long h room = record { fits = omega (arith, room.fits); small = omega (arith, room.small) }

-- ---- trees whose items are paid for

pub pays-is : (A B : Tree) (old new : List ℕ) (top fuel : ℕ) → A ≡ B → (r : Option Built) → Pays A old new top fuel r → Pays B old new top fuel r
pays-is A B old new top fuel e r p = subst (λ (t : Tree). Pays t old new top fuel r) e p

-- every tree has an item
pub unpaid-none : (A : Tree) (old : List ℕ) (top fuel : ℕ) → fuel ≡ 0 → Unpaid A old old top fuel
unpaid-none A old top fuel e = record { over = omega (arith, size-positive A); kept = refl }

pub paid-one : (A : Tree) (old new : List ℕ) (top fuel r left : ℕ) → (fuel ≡ 0 → ⊥) → left ≡ fuel - 1 → (size A ≡ 1) → Fresh A old new top r → Paid A old new top fuel r left
paid-one A old new top fuel r left h e one f =
    record { spent = omega (arith, one); above = f.above; most = omega (arith, f.most); kept = f.kept; means = f.means }

-- a pair: its own item first, then the tail, then the head
module _ (A B : Tree) (old one : List ℕ) (top fuel left : ℕ) (some-fuel : fuel ≡ 0 → ⊥) (left_is : left ≡ fuel - 1) where
  pub unpaid-tail : Unpaid B old one top left → Unpaid (pair A B) old one top fuel
  unfolding size
  unpaid-tail b = record { over = omega (arith, b.over); kept = b.kept }

  module _ (t f : ℕ) (b : Paid B old one top left t f) (two : List ℕ) where
    pub unpaid-head : Unpaid A one two t f → Unpaid (pair A B) old two top fuel
    unfolding size
    unpaid-head a = record { over = omega (arith, a.over, b.spent); kept = take_less two one top t b.above a.kept ∙ b.kept }

    module _ (h g : ℕ) (a : Paid A one two t f h g) where
      pub pair-most : h + 3 + node_words * g ≤ top + node_words * fuel
      pair-most = omega (arith, a.most, b.most)

      pub paid-pair : (new : List ℕ) (r : ℕ) → Grown (λ w. pair (tree_at two h w) (tree_at two t w)) two new h r → Paid (pair A B) old new top fuel r g
      unfolding produce on_names size
      paid-pair new r p =
          record {
            spent = omega (arith, a.spent, b.spent);
            above = omega (arith, a.above, b.above, p.end);
            most = omega (arith, pair-most, p.end);
            kept = take_less new one top t b.above (take_less new two t h a.above p.kept ∙ a.kept) ∙ b.kept;
            means =
                p.means 0 (omega arith)
                ∙ ap₂ pair a.means (tree-kept one two t t 0 (omega arith) (omega arith) a.kept ∙ b.means);
          }

-- ---- copies of a tree

module _ (old : List ℕ) (top fuel node w left : ℕ) (some-fuel : fuel ≡ 0 → ⊥) (left_is : left ≡ fuel - 1) (kind : ℕ) (kind-is : kind ≡ word_at old node 3) where
  pub copied-empty : (new : List ℕ) (r : ℕ) → kind ≡ 0 → Grown (λ v. empty) old new top r → Pays (tree_at old node w) old new top fuel (built r left)
  unfolding size
  copied-empty new r e g =
      pays-is empty _ old new top fuel (sym (tree_at-empty old node w (sym kind-is ∙ e))) (built r left)
      (paid-one empty old new top fuel r left some-fuel left_is refl (fresh-empty old new top r g))

  pub copied-name : (new : List ℕ) (r : ℕ) → kind ≡ 3 → Fresh (name (name_at old node w)) old new top r → Pays (tree_at old node w) old new top fuel (built r left)
  unfolding size
  copied-name new r e f =
      pays-is (name (name_at old node w)) _ old new top fuel (sym (tree_at-name old node w (sym kind-is ∙ e))) (built r left)
      (paid-one (name (name_at old node w)) old new top fuel r left some-fuel left_is refl f)

  pub copied-constant : (new : List ℕ) (r a b : ℕ) → (kind ≡ 0 → ⊥) → (kind ≡ 3 → ⊥) → (word_at old node 3 ≡ 4 → ⊥) → a ≡ word_at old node 2 → b ≡ word_at old node 1 → Grown (λ v. constant (record { kind = kind; first = a; second = b })) old new top r → Pays (tree_at old node w) old new top fuel (built r left)
  unfolding constant_at size
  copied-constant new r a b n0 n3 n4 a-is b-is g =
      pays-is (constant (record { kind = kind; first = a; second = b })) _ old new top fuel
      (rw (kind-is, a-is, b-is) (sym (tree_at-constant old node w (λ z. n0 (kind-is ∙ z)) (λ z. n3 (kind-is ∙ z)) n4))) (built r left)
      (paid-one _ old new top fuel r left some-fuel left_is refl (fresh-constant old new top r kind a b g))

  module _ (head tail : ℕ) (e : kind ≡ 4) (head-is : head ≡ reference_at old node 2) (tail-is : tail ≡ reference_at old node 1) (waits : Waiting old top fuel node w) where
    pair_is : pair (tree_at old head w) (tree_at old tail w) ≡ tree_at old node w
    pair_is = sym (tree_at-pair old node w (sym kind-is ∙ e) ∙ rw (head-is, tail-is) refl)

    pub waiting-tail : Waiting old top left tail w
    waiting-tail =
        record {
          room = room-left old old top fuel top left (node_words * left) refl (omega arith) waits.room;
          node-below = omega (arith, waits.node-below, reference_at-most old node 1);
          wrap-below = waits.wrap-below;
        }

    pub copied-tail-costly : (one : List ℕ) → Unpaid (tree_at old tail w) old one top left → Pays (tree_at old node w) old one top fuel None
    copied-tail-costly one b = pays-is _ _ old one top fuel pair_is None (unpaid-tail (tree_at old head w) (tree_at old tail w) old one top fuel left some-fuel left_is b)

    module _ (one : List ℕ) (t f : ℕ) (b : Paid (tree_at old tail w) old one top left t f) (long : length one ≡ length old) where
      head-same : tree_at one head w ≡ tree_at old head w
      head-same = tree-kept old one top head w (omega (arith, waits.node-below, reference_at-most old node 2)) waits.wrap-below b.kept

      pub waiting-head : Waiting one t f head w
      waiting-head =
          record {
            room = room-left old one top fuel t f (node_words * f) long (omega (arith, b.most)) waits.room;
            node-below = omega (arith, waits.node-below, reference_at-most old node 2, b.above);
            wrap-below = omega (arith, waits.wrap-below, b.above);
          }

      pub copied-head-costly : (two : List ℕ) → Unpaid (tree_at one head w) one two t f → Pays (tree_at old node w) old two top fuel None
      copied-head-costly two a =
          pays-is _ _ old two top fuel pair_is None
          (unpaid-head (tree_at old head w) (tree_at old tail w) old one top fuel left some-fuel left_is t f b two (pays-is _ _ one two t f head-same None a))

      module _ (two : List ℕ) (h g : ℕ) (a : Paid (tree_at one head w) one two t f h g) where
        head-paid : Paid (tree_at old head w) one two t f h g
        head-paid = pays-is _ _ one two t f head-same (built h g) a

        pub copied-room : length two ≡ length one → Room two h 3
        copied-room far =
            room-left old two top fuel h g 3 (far ∙ long)
            (omega (arith, pair-most (tree_at old head w) (tree_at old tail w) old one top fuel left some-fuel left_is t f b two h g head-paid)) waits.room

        pub copied-pair : (new : List ℕ) (r : ℕ) → Grown (λ v. pair (tree_at two h v) (tree_at two t v)) two new h r → Pays (tree_at old node w) old new top fuel (built r g)
        copied-pair new r p =
            pays-is _ _ old new top fuel pair_is (built r g)
            (paid-pair (tree_at old head w) (tree_at old tail w) old one top fuel left some-fuel left_is t f b two h g head-paid new r p)
