-- Laws of one item that should be a name, one for each way through `is_fit`.
use Rattle.std.specs.Prelude.{◌≡◌, Bool, List, ℕ, ◌<◌, ◌≤◌, ltb}
use Rattle.std.proofs.Math.Path.{refl}
use Rattle.std.proofs.Common.{sym, ◌∙◌, eqb-true, lt-ltb, le-ltb}
use Rattle.std.proofs.Math.Bool.{true, false}
use Rattle.std.proofs.Math.Dec.{eqb}
use Rattle.std.proofs.lemmas.Bool.{eqb-false}
use Rattle.words.specs.Limits.{names_most}
use Rattle.words.specs.ListLaws.{never}
use Rattle.recipe.specs.Name.{plain_name}
use Rattle.recipe.specs.Tree.{on_name, name}
use Rattle.recipe.specs.Table.{kind_at, item_count}
use Rattle.recipe.specs.TreeFrom.{tree_from, head_at}
use Rattle.recipe.specs.Layout.{Layout}
use Rattle.recipe.proofs.LayoutLaws.{layout_name, empty_tree, name_tree, pair_tree, constant_tree}
use Rattle.layout.specs.DistinctNames.{is_fit, passes}

-- item i is a name that passes
pub record FitItem (fit : ℕ → Bool) (ws : List ℕ) (i : ℕ) : Type 0 where
  pub below : head_at ws i < names_most
  pub good : fit (head_at ws i) ≡ true
  pub tree : tree_from ws i ≡ name (plain_name (head_at ws i) i)

module _ (ws : List ℕ) (l : Layout ws) (i : ℕ) (h : i < item_count ws) where
  module _ (fit : ℕ → Bool) where
    pub fit-other : (kind_at ws i ≡ 3 → ⊥) → is_fit fit (tree_from ws i) ≡ false
    unfolding is_fit on_name
    fit-other k = by (eqb (kind_at ws i) 0) refl (eqb (kind_at ws i) 4) refl
      where
        by : (a : Bool) → eqb (kind_at ws i) 0 ≡ a → (b : Bool) → eqb (kind_at ws i) 4 ≡ b → is_fit fit (tree_from ws i) ≡ false
        by true p b q = rw (empty_tree ws l i h (eqb-true (kind_at ws i) 0 p))
        by false p true q = rw (pair_tree ws l i h (eqb-true (kind_at ws i) 4 q))
        by false p false q = rw (constant_tree ws l i h (eqb-false (kind_at ws i) 0 p) k (eqb-false (kind_at ws i) 4 q))

    fit-name : kind_at ws i ≡ 3 → is_fit fit (tree_from ws i) ≡ fit (head_at ws i)
    unfolding is_fit on_name plain_name
    fit-name k = rw (name_tree ws l i h k)

    -- what passes is a name item
    pub fit-item : is_fit fit (tree_from ws i) ≡ true → FitItem fit ws i
    fit-item e = by (eqb (kind_at ws i) 3) refl
      where
        by : (a : Bool) → eqb (kind_at ws i) 3 ≡ a → FitItem fit ws i
        by false p = never e (fit-other (eqb-false (kind_at ws i) 3 p))
        by true p =
            let k : kind_at ws i ≡ 3 = eqb-true (kind_at ws i) 3 p in
            record { below = layout_name ws l i h k; good = sym (fit-name k) ∙ e; tree = name_tree ws l i h k }

  module _ (low : ℕ) (k : kind_at ws i ≡ 3) where
    pub fit_low : head_at ws i < low → is_fit (passes low) (tree_from ws i) ≡ true
    unfolding passes
    fit_low a = fit-name (passes low) k ∙ rw (lt-ltb (head_at ws i) low a)

    pub fit-else : low ≤ head_at ws i → is_fit (passes low) (tree_from ws i) ≡ ltb 7 (head_at ws i)
    unfolding passes
    fit-else a = fit-name (passes low) k ∙ rw (le-ltb (head_at ws i) low a)
