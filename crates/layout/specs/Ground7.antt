-- Laws of ground 7 as a whole, one for each way through `is_layout`.
use Rattle.std.specs.Prelude.{◌≡◌, true, false, ◌&&◌, List, ℕ, ◌*◌, ◌<◌, ◌≤◌, eqb, length}
use Rattle.std.proofs.Common.{sym, ◌∙◌, eq-eqb, ne_eqb}
use Rattle.std.proofs.Math.Bool.{and-false, and_assoc}
use Rattle.words.specs.Limits.{items_least, items_most}
use Rattle.words.specs.Lists.{all_of}
use Rattle.recipe.specs.Tree.{is_list, is_list_of, element}
use Rattle.recipe.specs.Table.{items, references, is_item, is_referred_once, tree_of, item_count, is_layout}
use Rattle.words.specs.TestLaws.{within-is, outside_below, outside_above}
use Rattle.layout.specs.Counts.{items_good}

module _ (ws : List ℕ) where
  pub uneven : (length ws ≡ 3 * item_count ws → ⊥) → is_layout ws ≡ false
  unfolding is_layout
  uneven h = rw (ne_eqb (length ws) (3 * item_count ws) h)

  pub too_few : item_count ws < items_least → is_layout ws ≡ false
  unfolding is_layout
  too_few h = rw (outside_below items_least items_most (item_count ws) h) (and-false (eqb (length ws) (3 * item_count ws)))

  pub too_many : items_most < item_count ws → is_layout ws ≡ false
  unfolding is_layout
  too_many h = rw (outside_above items_least items_most (item_count ws) h) (and-false (eqb (length ws) (3 * item_count ws)))

  module _ (e : length ws ≡ 3 * item_count ws) (a : items_least ≤ item_count ws) (b : item_count ws ≤ items_most) where
    -- what is left to test
    then : is_layout ws ≡ (items_good ws (item_count ws) && (is_list_of 2 (tree_of ws) && is_list (element 0 (tree_of ws))))
    unfolding is_layout
    then =
        rw (eq-eqb (length ws) (3 * item_count ws) e, within-is items_least items_most (item_count ws) a b)
        (sym (and_assoc (all_of (is_item ws (item_count ws)) (items 0 ws)) (all_of (is_referred_once (references (items 0 ws))) (items 0 ws)) (is_list_of 2 (tree_of ws) && is_list (element 0 (tree_of ws)))))

    pub unfit : items_good ws (item_count ws) ≡ false → is_layout ws ≡ false
    unfit f = then ∙ rw f

    pub by-item-0 : items_good ws (item_count ws) ≡ true → is_layout ws ≡ (is_list_of 2 (tree_of ws) && is_list (element 0 (tree_of ws)))
    by-item-0 f = then ∙ rw f
