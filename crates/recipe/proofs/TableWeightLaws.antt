-- A measure of trees, of which each place of a table has a share: that of the tree comes to no more than the shares of all places.
-- For each place is counted at most once, by a word that refers to it or as item 0. So the tree has no more items than the table.
use Rattle.std.specs.Prelude.{◌≡◌, refl, Bool, List, [], ◌∷◌, eqb, length, get_or}
use Rattle.std.proofs.Common.{ap, ap₂, ◌∙◌, arith, eq-eqb, ne_eqb}
use Rattle.std.proofs.Math.Bool.{true, false, cond}
use Prim.Native.Nat.{ℕ, zero, suc, ◌+◌, ◌*◌, ◌-◌, ◌≤◌, ◌<◌}
use Rattle.words.specs.Lists.{all_of}
use Rattle.words.specs.TestLaws.{all-parts}
use Rattle.recipe.specs.Name.{plain_name}
use Rattle.recipe.specs.Tree.{Tree, empty, constant, name, pair, size}
use Rattle.recipe.specs.Table.{Item, items, by_kind, constant_of, references, occurrences, is_pair_item, is_item, trees, tree_of, item_count, is_layout}
use Rattle.recipe.specs.TableLaws.{LayoutTest}
use Rattle.recipe.proofs.TableLaws.{is_pair_item-parts, is_layout-parts, items-counted, references-higher, referred-once}
use Rattle.recipe.specs.TableWeight.{Measure, shares}

-- ---- counting places

-- c counts each place; here place j once more
more : ℕ → (ℕ → ℕ) → ℕ → ℕ
more j c p = cond (eqb p j) (suc (c p)) (c p)

more_same : (c : ℕ → ℕ) (j p : ℕ) → p ≡ j → more j c p ≡ suc (c p)
unfolding more
more_same c j p h = rw (eq-eqb p j h)

more-other : (c : ℕ → ℕ) (j p : ℕ) → (p ≡ j → ⊥) → more j c p ≡ c p
unfolding more
more-other c j p h = rw (ne_eqb p j h)

more-occurrences : (c : ℕ → ℕ) (j p : ℕ) (rs : List ℕ) → more j c p + occurrences p rs ≡ c p + occurrences p (j ∷ rs)
unfolding more occurrences
more-occurrences c j p rs = go (eqb p j)
  where
    go : (b : Bool) → cond b (suc (c p)) (c p) + occurrences p rs ≡ c p + cond b (suc (occurrences p rs)) (occurrences p rs)
    go true = omega arith
    go false = refl

-- the measures of trees placed from i, each as often as its place is counted
weight : Measure → (ℕ → ℕ) → ℕ → List Tree → ℕ
weight μ c i [] = 0
weight μ c i (t ∷ ts) = c i * μ.measure t + weight μ c (suc i) ts

weight-before : (μ : Measure) (c : ℕ → ℕ) (j i : ℕ) (ts : List Tree) → j < i → weight μ (more j c) i ts ≡ weight μ c i ts
unfolding weight
weight-before μ c j i [] h = refl
weight-before μ c j i (t ∷ ts) h = ap₂ (λ m w. m * μ.measure t + w) (more-other c j i (omega arith)) (weight-before μ c j (suc i) ts (omega arith))

weight-more : (μ : Measure) (c : ℕ → ℕ) (j i k : ℕ) (ts : List Tree) → j ≡ i + k → k < length ts → weight μ (more j c) i ts ≡ μ.measure (get_or ts k empty) + weight μ c i ts
unfolding weight
weight-more μ c j i k [] e h = absurd (omega arith)
weight-more μ c j i zero (t ∷ ts) e h =
    let p : more j c i * μ.measure t + weight μ (more j c) (suc i) ts ≡ suc (c i) * μ.measure t + weight μ c (suc i) ts
    = ap₂ (λ m w. m * μ.measure t + w) (more_same c j i (omega arith)) (weight-before μ c j (suc i) ts (omega arith)) in
    p ∙ omega arith
weight-more μ c j i (suc k) (t ∷ ts) e h =
    let p : more j c i * μ.measure t + weight μ (more j c) (suc i) ts ≡ c i * μ.measure t + (μ.measure (get_or ts k empty) + weight μ c (suc i) ts)
    = ap₂ (λ m w. m * μ.measure t + w) (more-other c j i (omega arith)) (weight-more μ c j (suc i) k ts (omega arith) (omega arith)) in
    p ∙ omega arith

trees-length : (xs : List Item) → length (trees xs) ≡ length xs
unfolding trees
trees-length [] = refl
trees-length (x ∷ xs) = ap suc (trees-length xs)

occurrences-more : (p r : ℕ) (rs : List ℕ) → occurrences p rs ≤ occurrences p (r ∷ rs)
unfolding occurrences
occurrences-more p r rs = go (eqb p r)
  where
    go : (b : Bool) → occurrences p rs ≤ cond b (suc (occurrences p rs)) (occurrences p rs)
    go true = omega arith
    go false = omega arith

counted : (m k w n : ℕ) → m ≤ 1 → k + w ≤ n → m * k + w ≤ n
counted zero k w n h e = omega arith
counted (suc zero) k w n h e = omega arith
counted (suc (suc m)) k w n h e = absurd (omega arith)

-- each place from i up to n is counted at most once, by c or by a reference
abbrev Once : (ℕ → ℕ) → List ℕ → ℕ → ℕ → Type 0
Once c refs i n = (p : ℕ) → i ≤ p → p < n → c p + occurrences p refs ≤ 1

-- an item before later ones; the trees of those weigh no more than their shares
module _ (μ : Measure) (table : List ℕ) (n : ℕ) (x : Item) (xs : List Item) (ends : x.place + suc (length xs) ≡ n)
    (later : (c : ℕ → ℕ) → Once c (references xs) (suc x.place) n → weight μ c (suc x.place) (trees xs) ≤ shares μ (suc x.place) (length xs)) (c : ℕ → ℕ) where
  leaf-weight : (t : Tree) → μ.measure t ≤ μ.share x.place → Once c (references xs) x.place n → weight μ c x.place (t ∷ trees xs) ≤ shares μ x.place (suc (length xs))
  unfolding weight shares
  leaf-weight t e once = counted (c x.place) (μ.measure t) (weight μ c (suc x.place) (trees xs)) (shares μ x.place (suc (length xs)))
      (omega (arith, once x.place (omega arith) (omega arith)))
      (omega (arith, e, later c (λ p h k. once p (omega arith) k)))

  tree_at : ℕ → Tree
  tree_at j = get_or (trees xs) (j - suc x.place) empty

  pair-weight : is_pair_item table n x ≡ true → Once c (x.first ∷ x.second ∷ references xs) x.place n → weight μ c x.place (pair (tree_at x.first) (tree_at x.second) ∷ trees xs) ≤ shares μ x.place (suc (length xs))
  unfolding weight tree_at shares
  pair-weight e once =
      let r = is_pair_item-parts table n x e in
      let i = suc x.place in
      let w = weight-more μ c x.first i (x.first - i) (trees xs) (omega arith) (omega (arith, trees-length xs)) in
      let v = weight-more μ (more x.first c) x.second i (x.second - i) (trees xs) (omega arith) (omega (arith, trees-length xs)) in
      let once-later : Once (more x.second (more x.first c)) (references xs) (suc x.place) n
      = λ p h k. omega (arith, once p (omega arith) k, more-occurrences (more x.first c) x.second p (references xs), more-occurrences c x.first p (x.second ∷ references xs)) in
      counted (c x.place) _ (weight μ c (suc x.place) (trees xs)) (shares μ x.place (suc (length xs)))
      (omega (arith, once x.place (omega arith) (omega arith)))
      (omega (arith, later _ once-later, μ.on-pair x.place (tree_at x.first) (tree_at x.second)))

  -- the references of later items are among those of all
  once-later : (d : Bool) → Once c (cond d (x.first ∷ x.second ∷ references xs) (references xs)) x.place n → Once c (references xs) x.place n
  once-later true once p h k = omega (arith, once p h k, occurrences-more p x.first (x.second ∷ references xs), occurrences-more p x.second (references xs))
  once-later false once p h k = once p h k

  item-weight : is_item table n x ≡ true → Once c (references (x ∷ xs)) x.place n → weight μ c x.place (trees (x ∷ xs)) ≤ shares μ x.place (suc (length xs))
  unfolding is_item references trees by_kind tree_at
  item-weight = go (eqb x.kind 0) (eqb x.kind 3) (eqb x.kind 4) _ _ _
    where
      go : (a b d e f g : Bool) → cond a e (cond b f (cond d (is_pair_item table n x) g)) ≡ true → Once c (cond d (x.first ∷ x.second ∷ references xs) (references xs)) x.place n
          → weight μ c x.place (cond a empty (cond b (name (plain_name x.first x.place)) (cond d (pair (tree_at x.first) (tree_at x.second)) (constant (constant_of x)))) ∷ trees xs) ≤ shares μ x.place (suc (length xs))
      go true b d e f g h once = leaf-weight empty (μ.on-empty x.place) (once-later d once)
      go false true d e f g h once = leaf-weight _ (μ.on-name x.place x.first) (once-later d once)
      go false false true e f g h once = pair-weight h once
      go false false false e f g h once = leaf-weight _ (μ.on-constant x.place (constant_of x)) once

-- by items, from the last on
table-weight : (μ : Measure) (table : List ℕ) (n : ℕ) (ws : List ℕ) (i : ℕ) → i + length (items i ws) ≡ n → all_of (is_item table n) (items i ws) ≡ true
    → (c : ℕ → ℕ) → Once c (references (items i ws)) i n → weight μ c i (trees (items i ws)) ≤ shares μ i (length (items i ws))
unfolding items trees weight shares
table-weight μ table n [] i ends good c once = omega arith
table-weight μ table n (k ∷ []) i ends good c once = omega arith
table-weight μ table n (k ∷ a ∷ []) i ends good c once = omega arith
table-weight μ table n (k ∷ a ∷ b ∷ ws) i ends good c once =
    let x : Item = record { place = i; kind = k; first = a; second = b } in
    let g = all-parts (is_item table n) x (items (suc i) ws) good in
    item-weight μ table n x (items (suc i) ws) ends (table-weight μ table n ws (suc i) (omega arith) g.1) c g.0 once

-- ---- a table of the layout

-- item 0 is counted once, and every other place by the one word that refers to it
layout-once : (ws : List ℕ) → LayoutTest ws → Once (more 0 (λ p. 0)) (references (items 0 ws)) 0 (item_count ws)
layout-once ws l zero h k = omega (arith, more_same (λ p. 0) 0 0 refl, references-higher ws (item_count ws) ws 0 0 l.item (omega arith))
layout-once ws l (suc p) h k = omega (arith, more-other (λ p. 0) 0 (suc p) (omega arith), referred-once (references (items 0 ws)) ws 0 (suc p) l.referred (omega arith) h (omega (arith, items-counted ws 0)))

pub tree_of-measure : (μ : Measure) (ws : List ℕ) → is_layout ws ≡ true → μ.measure (tree_of ws) ≤ shares μ 0 (item_count ws)
unfolding tree_of
tree_of-measure μ ws e =
    let l = is_layout-parts ws e in
    let n = items-counted ws 0 in
    let w = weight-more μ (λ p. 0) 0 0 0 (trees (items 0 ws)) refl (omega (arith, n, trees-length (items 0 ws), l.count.0)) in
    let h = ap (shares μ 0) n in
    omega (arith, w, h, table-weight μ ws (item_count ws) ws 0 (omega (arith, n)) l.item (more 0 (λ p. 0)) (layout-once ws l))

-- ---- items

sizes : Measure
unfolding size
sizes = record { measure = size; share = λ i. 1; on-empty = λ i. omega arith; on-constant = λ i a. omega arith; on-name = λ i n. omega arith; on-pair = λ i h t. omega arith }

sizes-shares : (i n : ℕ) → shares sizes i n ≡ n
unfolding shares sizes
sizes-shares i zero = refl
sizes-shares i (suc n) = omega (arith, sizes-shares (suc i) n)

pub tree_of-size : (ws : List ℕ) → is_layout ws ≡ true → size (tree_of ws) ≤ item_count ws
unfolding sizes
tree_of-size ws e = omega (arith, tree_of-measure sizes ws e, sizes-shares 0 (item_count ws))
