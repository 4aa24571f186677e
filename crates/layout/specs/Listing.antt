-- The operations' numbers in the order of their places, of a table past grounds 7 and 10: the invariant of `numbers`, and its laws.
use Rattle.std.specs.Prelude.{◌≡◌, refl, Bool, true, List, [], ◌∷◌, ◌++◌, ℕ, ◌+◌, ◌≤◌, ◌<◌, leb, length, take, set}
use Rattle.std.proofs.Math.Path.{sym, ap}
use Rattle.std.proofs.Common.{subst, ◌∙◌, append-nil, arith, add-one, length-set, length-append, take-suc-set, length-take-le, leb-true}
use Rattle.std.proofs.Math.Seq.{append_snoc}
use Rattle.words.specs.Limits.{operations_most}
use Rattle.words.specs.Lists.{all_of}
use Rattle.words.specs.TestLaws.{and_left, and_parts}
use Rattle.recipe.specs.Name.{Name, plain_name}
use Rattle.recipe.specs.Tree.{Tree, empty, name, pair, on_name, is_name, names, elements}
use Rattle.recipe.specs.Table.{kind_at, tree_of}
use Rattle.recipe.specs.TreeFrom.{tree_from, head_at, tail_at}
use Rattle.recipe.specs.Layout.{Layout}
use Rattle.recipe.proofs.LayoutLaws.{root}
use Rattle.expansion.specs.Run.{operation_numbers, are_operations}
use Rattle.layout.specs.Places.{numbers}
use Rattle.layout.specs.DistinctNames.{is_fit, are_names, passes}
use Rattle.layout.specs.NameItems.{FitItem, fit-item}
use Rattle.layout.specs.Walk.{ListItem, first-item, by_first, ends, pair-here, tree-here, next-item}

-- ---- trees: n numbers are listed, and what is left are names

pub record Listed (first rest : Tree) (list : List ℕ) (n : ℕ) : Type 0 where
  pub room : operations_most ≤ length list
  pub few : length (numbers (names first)) ≤ operations_most
  pub within : n ≤ length list
  pub numbers_are : numbers (names first) ≡ take n list ++ numbers (names rest)
  pub named : all_of is_name (elements rest) ≡ true

listed_start : (fit : ℕ → Bool) (first : Tree) (list : List ℕ) → are_names fit operations_most first ≡ true → operations_most ≤ length list → Listed first first list 0
unfolding are_names
listed_start fit first list h room =
    let p = and_parts (all_of is_name (elements first)) _ h in
    let q = and_parts (leb (length (numbers (names first))) operations_most) _ p.1 in
    record { room = room; few = leb-true _ _ q.0; within = omega arith; numbers_are = refl; named = p.0 }

module _ (first rest : Tree) (list : List ℕ) (n : ℕ) (l : Listed first rest list n) where
  listed-end : rest ≡ empty → take n list ≡ numbers (names first)
  unfolding names numbers
  listed-end r = sym (l.numbers_are ∙ rw r (append-nil (take n list)))

  module _ (x : Name) (t : Tree) (r : rest ≡ pair (name x) t) where
    numbers-next : numbers (names first) ≡ take n list ++ x.number ∷ numbers (names t)
    unfolding names numbers
    numbers-next = l.numbers_are ∙ rw r

    named-next : all_of is_name (elements t) ≡ true
    unfolding elements all_of is_name on_name
    named-next = rw r at l.named

    listed-room : n < operations_most
    listed-room =
        omega (arith, l.few, l.within, length-take-le n list l.within, ap length numbers-next ∙ length-append (take n list) (x.number ∷ numbers (names t)))

    listed_more : (k : ℕ) → k ≡ x.number → Listed first t (set list n k) (n + 1)
    listed_more k e =
        let s : take (n + 1) (set list n k) ≡ take n list ++ (k ∷ []) = rw add-one (take-suc-set list n k (omega (arith, listed-room, l.room))) in
        let w = length-set list n k in
        record {
          room = omega (arith, l.room, w);
          few = l.few;
          within = omega (arith, listed-room, l.room, w);
          numbers_are = numbers-next ∙ sym (ap (λ (m : List ℕ). m ++ numbers (names t)) s ∙ append_snoc (take n list) k (numbers (names t)) ∙ ap (λ (m : ℕ). take n list ++ m ∷ numbers (names t)) e);
          named = named-next;
        }

-- ---- items: item i begins what is left

pub record Listing (ws list : List ℕ) (i n : ℕ) : Type 0 where
  pub item : ListItem ws i
  pub listed : Listed (tree_from ws (head_at ws 0)) (tree_from ws i) list n

pub listing_start : {ws : List ℕ} (list : List ℕ) (i : ℕ) → Layout ws → are_operations (tree_of ws) ≡ true → i ≡ head_at ws 0 → operations_most ≤ length list → Listing ws list i 0
listing_start {ws} list i l a e room =
    rw e (record { item = first-item l; listed = listed_start (passes 0) (tree_from ws (head_at ws 0)) list (sym (by_first l) ∙ a) room })

module _ {ws list : List ℕ} {i n : ℕ} (l : Listing ws list i n) where
  pub listing-end : (kind_at ws i ≡ 4 → ⊥) → take n list ≡ operation_numbers (tree_of ws)
  unfolding operation_numbers numbers
  listing-end k =
      listed-end (tree_from ws (head_at ws 0)) (tree_from ws i) list n l.listed (ends l.item k)
      ∙ ap (λ (t : Tree). numbers (names t)) (sym (root ws l.item.table).element0)

  module _ (p : kind_at ws i ≡ 4) where
    name-here : is_fit (λ n. true) (tree_from ws (head_at ws i)) ≡ true
    unfolding is_fit is_name elements all_of
    name-here = and_left _ _ (subst (λ (t : Tree). all_of is_name (elements t) ≡ true) (tree-here l.item p) l.listed.named)

    -- the next element is a name
    pub listing-item : FitItem (λ n. true) ws (head_at ws i)
    listing-item = fit-item ws l.item.table (head_at ws i) (pair-here l.item p).head_below (λ n. true) name-here

    next : tree_from ws i ≡ pair (name (plain_name (head_at ws (head_at ws i)) (head_at ws i))) (tree_from ws (tail_at ws i))
    next = tree-here l.item p ∙ ap (λ (x : Tree). pair x (tree_from ws (tail_at ws i))) listing-item.tree

    pub listing-room : n < operations_most
    listing-room = listed-room (tree_from ws (head_at ws 0)) (tree_from ws i) list n l.listed _ (tree_from ws (tail_at ws i)) next

    pub listing-more : (k j : ℕ) → k ≡ head_at ws (head_at ws i) → j ≡ tail_at ws i → Listing ws (set list n k) j (n + 1)
    unfolding plain_name
    listing-more k j e t =
        rw t (record {
          item = next-item l.item p;
          listed = listed_more (tree_from ws (head_at ws 0)) (tree_from ws i) list n l.listed _ (tree_from ws (tail_at ws i)) next k e;
        })
