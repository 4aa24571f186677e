-- The names of a table's tree: every one is as its item holds it, and each item of a table of the layout is the origin of at most one.
use Rattle.std.specs.Prelude.{◌≡◌, Bool, List, [], ◌∷◌, get_or}
use Rattle.std.proofs.Math.Path.{refl}
use Rattle.std.proofs.Common.{ap, ◌∙◌}
use Rattle.std.proofs.Math.Bool.{true, false, cond}
use Prim.Native.Nat.{ℕ, zero, suc, ◌+◌, ◌*◌, ◌-◌, ◌≤◌, ◌<◌}
use native.Mathlib.Omega.{arith}
use borrow.Author.Tests.{eqb-true, ne_eqb}
use Rattle.std.proofs.Math.Dec.{eqb}
use Rattle.words.specs.Each.{Each, none_of, also, each_all, each_weaken, each-get_d}
use Rattle.recipe.specs.Name.{Name, plain_name}
use Rattle.recipe.specs.Tree.{Tree, empty, constant, name, pair}
use Rattle.recipe.specs.Table.{Item, items, by_kind, constant_of, trees, tree_of, item_count, is_layout}
use Rattle.recipe.specs.TreeNames.{TreeAll, all-empty, all-constant, all-name, all-pair, uses}
use Rattle.recipe.specs.TableWeight.{Measure, shares}
use Rattle.recipe.proofs.TableWeightLaws.{tree_of-measure}
use Rattle.recipe.specs.TableNames.{NameOf, Plain, number_at}

-- ---- by items

module _ (P : Name → Type 0) where
  item-all : (x : Item) (h t : Tree) → NameOf P x → TreeAll P h → TreeAll P t → TreeAll P (by_kind x.kind empty (name (plain_name x.first x.place)) (pair h t) (constant (constant_of x)))
  unfolding by_kind
  item-all x h t p a b = go (eqb x.kind 0) (eqb x.kind 3) (eqb x.kind 4) p
    where
      go : (d e f : Bool) → (e ≡ true → P (plain_name x.first x.place)) → TreeAll P (cond d empty (cond e (name (plain_name x.first x.place)) (cond f (pair h t) (constant (constant_of x)))))
      go true e f p = all-empty
      go false true f p = all-name (p refl)
      go false false true p = all-pair a b
      go false false false p = all-constant

  trees-all : {xs : List Item} → Each (NameOf P) xs → Each (TreeAll P) (trees xs)
  unfolding trees
  trees-all none_of = none_of
  trees-all (also {x = x} p ps) = let later = trees-all ps in also (item-all x _ _ p (each-get_d _ empty later all-empty) (each-get_d _ empty later all-empty)) later

  -- what holds of the name of each name item holds of every name of the tree
  pub tree_of-all : (ws : List ℕ) → Each (NameOf P) (items 0 ws) → TreeAll P (tree_of ws)
  unfolding tree_of
  tree_of-all ws ps = each-get_d 0 empty (trees-all ps) all-empty

pub tree_of-plain : (ws : List ℕ) → TreeAll Plain (tree_of ws)
unfolding plain_name
tree_of-plain ws = tree_of-all Plain ws (each_all (items 0 ws) (λ x e. refl))

items-numbered : (i : ℕ) (ws : List ℕ) → Each (λ x. (i ≤ x.place) × (x.first ≡ number_at ws (x.place - i))) (items i ws)
unfolding items number_at
items-numbered i [] = none_of
items-numbered i (k ∷ []) = none_of
items-numbered i (k ∷ a ∷ []) = none_of
items-numbered i (k ∷ a ∷ b ∷ ws) = also {x = record { place = i; kind = k; first = a; second = b }} (omega arith, here (3 * (i - i) + 1) (omega arith)) (each_weaken later (items-numbered (suc i) ws))
  where
    here : (m : ℕ) → m ≡ 1 → a ≡ get_or (k ∷ a ∷ b ∷ ws) m 0
    here m e = rw e

    later : (x : Item) → (suc i ≤ x.place) × (x.first ≡ get_or ws (3 * (x.place - suc i) + 1) 0) → (i ≤ x.place) × (x.first ≡ get_or (k ∷ a ∷ b ∷ ws) (3 * (x.place - i) + 1) 0)
    later x h = let e : 3 * (x.place - i) + 1 ≡ suc (suc (suc (3 * (x.place - suc i) + 1))) = omega arith in (omega arith, rw e h.1)

pub tree_of-numbered : (ws : List ℕ) → TreeAll (λ x. x.number ≡ number_at ws x.item) (tree_of ws)
unfolding plain_name
tree_of-numbered ws = tree_of-all (λ x. x.number ≡ number_at ws x.item) ws (each_weaken (λ x h e. h.1 ∙ ap (number_at ws) (omega arith)) (items-numbered 0 ws))

-- ---- each item is the origin of at most one name

module _ (q : ℕ) where
  origins : Measure
  unfolding uses plain_name
  origins = record { measure = uses q; share = λ i. cond (eqb i q) 1 0; on-empty = λ i. omega arith; on-constant = λ i a. omega arith; on-name = λ i n. omega arith; on-pair = λ i h t. omega arith }

  shares-past : (i n : ℕ) → q < i → shares origins i n ≡ 0
  unfolding shares origins
  shares-past i zero h = refl
  shares-past i (suc n) h = rw (ne_eqb i q (omega arith)) (omega (arith, shares-past (suc i) n (omega arith)))

  shares-one : (i n : ℕ) → shares origins i n ≤ 1
  unfolding shares origins
  shares-one i zero = omega arith
  shares-one i (suc n) = go (eqb i q) refl (shares-one (suc i) n)
    where
      go : (b : Bool) → eqb i q ≡ b → shares origins (suc i) n ≤ 1 → cond b 1 0 + shares origins (suc i) n ≤ 1
      go true e h = omega (arith, shares-past (suc i) n (omega (arith, eqb-true i q e)))
      go false e h = omega arith

  pub tree_of-uses : (ws : List ℕ) → is_layout ws ≡ true → uses q (tree_of ws) ≤ 1
  unfolding origins
  tree_of-uses ws e = omega (arith, tree_of-measure origins ws e, shares-one 0 (item_count ws))
