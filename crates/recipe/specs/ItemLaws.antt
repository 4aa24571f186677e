-- Laws of the items of a table: what stands at place i, by the table's words.
use Rattle.std.specs.Prelude.{◌≡◌, List, [], ◌∷◌, ℕ, zero, suc, ◌+◌, ◌*◌, ◌<◌, length, get_or, drop}
use Rattle.std.proofs.Common.{ap, arith}
use Rattle.recipe.specs.Table.{Item, items}

-- item i of a table
unfoldable pub item_at : List ℕ → ℕ → Item
item_at ws i = record { place = i; kind = get_or ws (3 * i) 0; first = get_or ws (3 * i + 1) 0; second = get_or ws (3 * i + 2) 0 }

-- three words further
module _ (a b c : ℕ) (ws : List ℕ) (i : ℕ) where
  further : (k m : ℕ) → m ≡ suc (suc (suc k)) → get_or (a ∷ b ∷ c ∷ ws) m 0 ≡ get_or ws k 0
  further k m e = rw e

-- ---- items

pub items-length : (k n : ℕ) (ws : List ℕ) → length ws ≡ 3 * n → length (items k ws) ≡ n
unfolding items
items-length k n [] e = omega arith
items-length k n (a ∷ []) e = absurd (omega arith)
items-length k n (a ∷ b ∷ []) e = absurd (omega arith)
items-length k zero (a ∷ b ∷ c ∷ ws) e = absurd (omega arith)
items-length k (suc n) (a ∷ b ∷ c ∷ ws) e = let h : length ws ≡ 3 * n = omega arith in ap suc (items-length (suc k) n ws h)

-- the items from place i on, of items placed from k
placed : List ℕ → ℕ → ℕ → Item
placed ws k i = record { place = k + i; kind = get_or ws (3 * i) 0; first = get_or ws (3 * i + 1) 0; second = get_or ws (3 * i + 2) 0 }

placed-drop : (k i : ℕ) (ws : List ℕ) → 3 * i + 2 < length ws → drop i (items k ws) ≡ placed ws k i ∷ drop (suc i) (items k ws)
unfolding items placed
placed-drop k i [] h = absurd (omega arith)
placed-drop k i (a ∷ []) h = absurd (omega arith)
placed-drop k i (a ∷ b ∷ []) h = absurd (omega arith)
placed-drop k zero (a ∷ b ∷ c ∷ ws) h = let e : k + 0 ≡ k = omega arith in rw e
placed-drop k (suc i) (a ∷ b ∷ c ∷ ws) h =
    let r : 3 * i + 2 < length ws = omega arith in
    let p : suc k + i ≡ k + suc i = omega arith in
    let e0 : get_or (a ∷ b ∷ c ∷ ws) (3 * suc i) 0 ≡ get_or ws (3 * i) 0 = further a b c ws i (3 * i) (3 * suc i) (omega arith) in
    let e1 : get_or (a ∷ b ∷ c ∷ ws) (3 * suc i + 1) 0 ≡ get_or ws (3 * i + 1) 0 = further a b c ws i (3 * i + 1) (3 * suc i + 1) (omega arith) in
    let e2 : get_or (a ∷ b ∷ c ∷ ws) (3 * suc i + 2) 0 ≡ get_or ws (3 * i + 2) 0 = further a b c ws i (3 * i + 2) (3 * suc i + 2) (omega arith) in
    rw (e0, e1, e2, ← p) (placed-drop (suc k) i ws r)

pub items-drop : (ws : List ℕ) (n i : ℕ) → length ws ≡ 3 * n → i < n → drop i (items 0 ws) ≡ item_at ws i ∷ drop (suc i) (items 0 ws)
unfolding item_at placed
items-drop ws n i e h =
    let r : 3 * i + 2 < length ws = omega arith in
    let z : 0 + i ≡ i = omega arith in
    rw z at (placed-drop 0 i ws r)
