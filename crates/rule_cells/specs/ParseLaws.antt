-- Laws of parsing that patterns and templates share: what is asked of the parts, and what grows.
use Rattle.std.specs.Prelude.{◌≡◌, refl, List, ℕ, suc, ◌+◌, ◌*◌, ◌≤◌, ◌<◌, length, take}
use Rattle.std.proofs.Math.Path.{ap}
use Rattle.std.proofs.Common.{◌∙◌, arith}
use Rattle.recipe.specs.Tree.{Tree, pair, size}
use Rattle.recipe.specs.TreeLaws.{size-positive}
use Rattle.arena.specs.Offsets.{KIND, HEAD, TAIL}
use Rattle.arena.specs.Arena.{word_at, reference_at, tree_at}
use Rattle.arena.specs.ArenaLaws.{take_less}
use Rattle.arena.specs.NodeLaws.{tree_at-pair}
use Rattle.arena.specs.Cells.{Room}
use Rattle.arena.specs.CellLaws.{tree-kept}
use Rattle.arena.specs.ListLaws.{pair-falls}
use Rattle.rule_cells.specs.Parse.{Asks, Grows}

-- ---- what grows

pub grows-nothing : (t : Tree) (old : List ℕ) (top : ℕ) → Grows t old old top 0 top
grows-nothing t old top = record { at_most = omega arith; up = omega arith; words = omega arith; kept = refl }

pub grows-leaf : (t : Tree) (old new : List ℕ) (top r : ℕ) → r ≡ top + 5 → take top new ≡ take top old → Grows t old new top r r
grows-leaf t old new top r e kept = record { at_most = omega arith; up = omega arith; words = omega (arith, size-positive t); kept = kept }

-- a cell over one part
pub grows-over : (t h : Tree) (old mid new : List ℕ) (top a upper r : ℕ) → Grows h old mid top a upper → size h < size t → r ≡ upper + 5 → take upper new ≡ take upper mid → Grows t old new top r r
grows-over t h old mid new top a upper r g l e kept =
    record { at_most = omega arith; up = omega (arith, g.up); words = omega (arith, g.words); kept = take_less new mid top upper g.up kept ∙ g.kept }

-- a refusal after the first part
pub kept-both : (h : Tree) (old mid new : List ℕ) (top a upper : ℕ) → Grows h old mid top a upper → take upper new ≡ take upper mid → take top new ≡ take top old
kept-both h old mid new top a upper g e = take_less new mid top upper g.up e ∙ g.kept

-- ---- what is asked of the parts of a pair

module _ (work : List ℕ) (node w top : ℕ) (asks : Asks work node w top) where
  -- room for a leaf's cell
  pub room-leaf : Room work top 5
  room-leaf = let l = size-positive (tree_at work node w) in record { fits = omega (arith, asks.room.fits); small = omega (arith, asks.room.small) }

  module _ (head rest : ℕ) (e : word_at work node KIND ≡ 4) (f : head ≡ reference_at work node HEAD) (g : rest ≡ reference_at work node TAIL) where
    pub tree_is : tree_at work node w ≡ pair (tree_at work head w) (tree_at work rest w)
    tree_is = rw (tree_at-pair work node w e, f, g) refl

    pub size_is : size (tree_at work node w) ≡ suc (size (tree_at work head w) + size (tree_at work rest w))
    unfolding size
    size_is = ap size tree_is

    pub head-below : head < node
    head-below = omega (arith, pair-falls work node HEAD e)

    pub rest_below : rest < node
    rest_below = omega (arith, pair-falls work node TAIL e)

    pub asks-head : Asks work head w top
    asks-head =
        record {
          node-below = omega (arith, head-below, asks.node-below);
          wrap-below = asks.wrap-below;
          room = record { fits = omega (arith, asks.room.fits, size_is); small = omega (arith, asks.room.small, size_is) };
        }

    pub asks-tail : Asks work rest w top
    asks-tail =
        record {
          node-below = omega (arith, rest_below, asks.node-below);
          wrap-below = asks.wrap-below;
          room = record { fits = omega (arith, asks.room.fits, size_is); small = omega (arith, asks.room.small, size_is) };
        }

    -- after the cells of the head
    module _ (mid : List ℕ) (a upper : ℕ) (same_length : length mid ≡ length work) (grows : Grows (tree_at work head w) work mid top a upper) where
      pub rest-kept : tree_at mid rest w ≡ tree_at work rest w
      rest-kept = tree-kept work mid top rest w (omega (arith, rest_below, asks.node-below)) asks.wrap-below grows.kept

      pub asks_rest : Asks mid rest w upper
      asks_rest =
          record {
            node-below = omega (arith, rest_below, asks.node-below, grows.up);
            wrap-below = omega (arith, asks.wrap-below, grows.up);
            room = record {
              fits = rw rest-kept (omega (arith, asks.room.fits, size_is, grows.words));
              small = rw rest-kept (omega (arith, asks.room.small, size_is, grows.words));
            };
          }

      pub room-over : Room mid upper 5
      room-over = record { fits = omega (arith, asks.room.fits, size_is, grows.words); small = omega (arith, asks.room.small, size_is, grows.words) }

      -- and after those of the rest
      pub room-pair : (last : List ℕ) (b higher : ℕ) → length last ≡ length mid → Grows (tree_at mid rest w) mid last upper b higher → Room last higher 5
      room-pair last b higher same k =
          let s : higher ≤ upper + 5 * size (tree_at work rest w) = rw rest-kept at k.words in
          record { fits = omega (arith, asks.room.fits, size_is, grows.words); small = omega (arith, asks.room.small, size_is, grows.words) }

      -- a pair's cell over both
      pub grows-pair : (last new : List ℕ) (b higher r : ℕ) → Grows (tree_at mid rest w) mid last upper b higher → r ≡ higher + 5 → take higher new ≡ take higher last → Grows (tree_at work node w) work new top r r
      grows-pair last new b higher r k re kept =
          let k' : Grows (tree_at work rest w) mid last upper b higher = rw rest-kept at k in
          record {
            at_most = omega arith;
            up = omega (arith, grows.up, k.up);
            words = omega (arith, grows.words, k'.words, size_is);
            kept = take_less new last top higher (omega (arith, grows.up, k.up)) kept ∙ take_less last mid top upper grows.up k.kept ∙ grows.kept;
          }
