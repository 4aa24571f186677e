-- Laws of item tables: what ground 7 tells of a table, and that each place but 0 is referred to by one word, from a lower place.
use Rattle.std.specs.Prelude.{◌≡◌, refl, Bool, true, false, cond, ◌||◌, List, [], ◌∷◌, ℕ, suc, ◌+◌, ◌*◌, ◌-◌, ◌≤◌, ◌<◌, eqb, length}
use Rattle.std.proofs.Common.{◌∙◌, subst, arith, eqb-true, ne_eqb}
use Rattle.std.proofs.lemmas.Bool.{eqb-false}
use Rattle.words.specs.Limits.{items_least, items_most}
use Rattle.words.specs.Lists.{within, all_of}
use Rattle.words.specs.TestLaws.{and_parts, within-parts, all-parts}
use Rattle.recipe.specs.Tree.{is_list_of}
use Rattle.recipe.specs.Table.{Item, items, by_kind, references, occurrences, is_pair_item, is_item, is_referred_once, tree_of, item_count, is_layout}
use Rattle.recipe.specs.TableLaws.{LayoutTest, PairTest}

-- ---- a pair's words

pub is_pair_item-parts : (table : List ℕ) (n : ℕ) (x : Item) → is_pair_item table n x ≡ true → PairTest table n x
unfolding is_pair_item
is_pair_item-parts table n x e =
    let a = and_parts (within (suc x.place) (n - 1) x.first) _ e in
    let b = and_parts (within (suc x.place) (n - 1) x.second) _ a.1 in
    let f = within-parts (suc x.place) (n - 1) x.first a.0 in
    let g = within-parts (suc x.place) (n - 1) x.second b.0 in
    record { head = record { above = f.0; below = f.1 }; tail = record { above = g.0; below = g.1 }; tail-kind = b.1 }

-- ---- the layout

pub is_layout-parts : (ws : List ℕ) → is_layout ws ≡ true → LayoutTest ws
unfolding is_layout
is_layout-parts ws e =
    let a = and_parts (eqb (length ws) (3 * item_count ws)) _ e in
    let b = and_parts (within items_least items_most (item_count ws)) _ a.1 in
    let c = and_parts (all_of (is_item ws (item_count ws)) (items 0 ws)) _ b.1 in
    let d = and_parts (all_of (is_referred_once (references (items 0 ws))) (items 0 ws)) _ c.1 in
    let f = and_parts (is_list_of 2 (tree_of ws)) _ d.1 in
    record { words = eqb-true _ _ a.0; count = within-parts items_least items_most (item_count ws) b.0; item = c.0; referred = d.0; two = f.0; first = f.1 }

pub items-counted : (ws : List ℕ) (i : ℕ) → length (items i ws) ≡ item_count ws
unfolding items item_count
items-counted [] i = refl
items-counted (k ∷ []) i = refl
items-counted (k ∷ a ∷ []) i = refl
items-counted (k ∷ a ∷ b ∷ ws) i = omega (arith, items-counted ws (suc i))

pub is_item-pair : (table : List ℕ) (n : ℕ) (x : Item) → is_item table n x ≡ true → x.kind ≡ 4 → is_pair_item table n x ≡ true
unfolding is_item by_kind is_pair_item
is_item-pair table n x e k = rw k at e

-- ---- references

occurrences-other : (p r : ℕ) (rs : List ℕ) → (p ≡ r → ⊥) → occurrences p (r ∷ rs) ≡ occurrences p rs
unfolding occurrences
occurrences-other p r rs h = rw (ne_eqb p r h)

-- no item refers to its own place or a lower one
item-refers-higher : (table : List ℕ) (n : ℕ) (x : Item) (xs : List Item) (p : ℕ) → is_item table n x ≡ true → p ≤ x.place → occurrences p (references (x ∷ xs)) ≡ occurrences p (references xs)
unfolding references
item-refers-higher table n x xs p good h = go (eqb x.kind 4) refl
  where
    go : (d : Bool) → eqb x.kind 4 ≡ d → occurrences p (cond d (x.first ∷ x.second ∷ references xs) (references xs)) ≡ occurrences p (references xs)
    go true e =
        let r = is_pair_item-parts table n x (is_item-pair table n x good (eqb-true _ _ e)) in
        occurrences-other p x.first (x.second ∷ references xs) (omega arith) ∙ occurrences-other p x.second (references xs) (omega arith)
    go false e = refl

pub references-higher : (table : List ℕ) (n : ℕ) (ws : List ℕ) (i p : ℕ) → all_of (is_item table n) (items i ws) ≡ true → p ≤ i → occurrences p (references (items i ws)) ≡ 0
unfolding items references occurrences
references-higher table n [] i p good h = refl
references-higher table n (k ∷ []) i p good h = refl
references-higher table n (k ∷ a ∷ []) i p good h = refl
references-higher table n (k ∷ a ∷ b ∷ ws) i p good h =
    let x : Item = record { place = i; kind = k; first = a; second = b } in
    let g = all-parts (is_item table n) x (items (suc i) ws) good in
    item-refers-higher table n x (items (suc i) ws) p g.0 h ∙ references-higher table n ws (suc i) p g.1 (omega arith)

-- each place but 0 is referred to once
item-referred-once : (refs : List ℕ) (x : Item) → is_referred_once refs x ≡ true → 1 ≤ x.place → occurrences x.place refs ≡ 1
unfolding is_referred_once
item-referred-once refs x e h = eqb-true _ _ (rw (ne_eqb x.place 0 (omega arith)) at e)

pub referred-once : (refs ws : List ℕ) (i p : ℕ) → all_of (is_referred_once refs) (items i ws) ≡ true → 1 ≤ p → i ≤ p → p < i + length (items i ws) → occurrences p refs ≡ 1
unfolding items
referred-once refs [] i p e h k l = absurd (omega arith)
referred-once refs (a ∷ []) i p e h k l = absurd (omega arith)
referred-once refs (a ∷ b ∷ []) i p e h k l = absurd (omega arith)
referred-once refs (a ∷ b ∷ d ∷ ws) i p e h k l =
    let x : Item = record { place = i; kind = a; first = b; second = d } in
    let g = all-parts (is_referred_once refs) x (items (suc i) ws) e in
    go (eqb i p) refl (item-referred-once refs x g.0) (λ m. referred-once refs ws (suc i) p g.1 h m (omega arith))
  where
    go : (b : Bool) → eqb i p ≡ b → (1 ≤ i → occurrences i refs ≡ 1) → (suc i ≤ p → occurrences p refs ≡ 1) → occurrences p refs ≡ 1
    go true q here later = let r : i ≡ p = eqb-true i p q in subst (λ z. 1 ≤ z → occurrences z refs ≡ 1) r here h
    go false q here later = later (omega (arith, eqb-false i p q))
