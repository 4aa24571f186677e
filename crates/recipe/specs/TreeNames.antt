-- The names of a tree: what holds of every one (`TreeAll`), and how many stem from an item (`uses`), by the tree's parts.
use Rattle.std.specs.Prelude.{◌≡◌, refl, Bool, true, false, cond, List, [], ◌∷◌, eqb}
use Rattle.std.proofs.Common.{ap, ap₂, ◌∙◌, arith}
use Prim.Native.Nat.{ℕ, zero, suc, ◌+◌, ◌≤◌}
use Rattle.datum.specs.Constant.{Constant}
use Rattle.recipe.specs.Name.{Binding, Name, same, give_binding, bind_name}
use Rattle.recipe.specs.Tree.{Tree, empty, constant, name, pair, on_pair, elements, element, tail, on_names, bind, bind_all}

-- ---- what holds of every name

pub data TreeAll (P : Name → Type 0) : Tree → Type 0 where
  all-empty : TreeAll P empty
  all-constant : {a : Constant} → TreeAll P (constant a)
  all-name : {x : Name} → P x → TreeAll P (name x)
  all-pair : {h t : Tree} → TreeAll P h → TreeAll P t → TreeAll P (pair h t)

module _ {P Q : Name → Type 0} where
  pub tree_all-map : ((x : Name) → P x → Q x) → {t : Tree} → TreeAll P t → TreeAll Q t
  tree_all-map h all-empty = all-empty
  tree_all-map h all-constant = all-constant
  tree_all-map h (all-name p) = all-name (h _ p)
  tree_all-map h (all-pair p q) = all-pair (tree_all-map h p) (tree_all-map h q)

  pub tree_all-both : {t : Tree} → TreeAll P t → TreeAll Q t → TreeAll (λ x. P x × Q x) t
  tree_all-both all-empty q = all-empty
  tree_all-both all-constant q = all-constant
  tree_all-both (all-name p) (all-name q) = all-name (p, q)
  tree_all-both (all-pair p p') (all-pair q q') = all-pair (tree_all-both p q) (tree_all-both p' q')

module _ {P : Name → Type 0} where
  pub tree_all-element : (k : ℕ) {t : Tree} → TreeAll P t → TreeAll P (element k t)
  unfolding element elements
  tree_all-element k all-empty = all-empty
  tree_all-element k all-constant = all-empty
  tree_all-element k (all-name p) = all-empty
  tree_all-element zero (all-pair p q) = p
  tree_all-element (suc k) (all-pair p q) = tree_all-element k q

  pub tree_all-tail : {t : Tree} → TreeAll P t → TreeAll P (tail t)
  unfolding tail on_pair
  tree_all-tail all-empty = all-empty
  tree_all-tail all-constant = all-empty
  tree_all-tail (all-name p) = all-empty
  tree_all-tail (all-pair p q) = q

-- ---- how many names stem from item q

unfoldable pub uses : ℕ → Tree → ℕ
uses q empty = 0
uses q (constant a) = 0
uses q (name x) = cond (eqb x.item q) 1 0
uses q (pair h t) = uses q h + uses q t

pub uses-element : (q i : ℕ) (t : Tree) → uses q (element i t) ≤ uses q t
unfolding uses element elements
uses-element q i empty = omega arith
uses-element q i (constant a) = omega arith
uses-element q i (name x) = omega arith
uses-element q zero (pair h t) = omega arith
uses-element q (suc i) (pair h t) = omega (arith, uses-element q i t)

-- two elements have different names
pub uses-elements : (q i j : ℕ) (t : Tree) → (i ≡ j → ⊥) → uses q (element i t) + uses q (element j t) ≤ uses q t
unfolding uses element elements
uses-elements q i j empty d = omega arith
uses-elements q i j (constant a) d = omega arith
uses-elements q i j (name x) d = omega arith
uses-elements q zero zero (pair h t) d = absurd (d refl)
uses-elements q zero (suc j) (pair h t) d = omega (arith, uses-element q j t)
uses-elements q (suc i) zero (pair h t) d = omega (arith, uses-element q i t)
uses-elements q (suc i) (suc j) (pair h t) d = omega (arith, uses-elements q i j t (λ e. d (ap suc e)))

-- names keep their items
pub uses-on_names : (f : Name → Name) → ((x : Name) → (f x).item ≡ x.item) → (q : ℕ) (t : Tree) → uses q (on_names f t) ≡ uses q t
unfolding uses on_names
uses-on_names f keeps q empty = refl
uses-on_names f keeps q (constant a) = refl
uses-on_names f keeps q (name x) = ap (λ i. cond (eqb i q) 1 0) (keeps x)
uses-on_names f keeps q (pair h t) = ap₂ ◌+◌ (uses-on_names f keeps q h) (uses-on_names f keeps q t)

-- binding keeps what does not depend on the binding
bind_name-keeps : {A : Type 0} (f : Name → A) → ((b : Binding) (x : Name) → f (give_binding b x) ≡ f x) → (i : Name) (b : Binding) (x : Name) → f (bind_name i b x) ≡ f x
unfolding bind_name
bind_name-keeps f e i b x = go (same i x)
  where
    go : (c : Bool) → f (cond c (give_binding b x) x) ≡ f x
    go true = e b x
    go false = refl

pub bind_name-number : (i : Name) (b : Binding) (x : Name) → (bind_name i b x).number ≡ x.number
unfolding give_binding
bind_name-number = bind_name-keeps (λ x. x.number) (λ b x. refl)

pub bind_name-item : (i : Name) (b : Binding) (x : Name) → (bind_name i b x).item ≡ x.item
unfolding give_binding
bind_name-item = bind_name-keeps (λ x. x.item) (λ b x. refl)

pub bind_name-produced : (i : Name) (b : Binding) (x : Name) → (bind_name i b x).produced ≡ x.produced
unfolding give_binding
bind_name-produced = bind_name-keeps (λ x. x.produced) (λ b x. refl)

pub bind_name-marks : (i : Name) (b : Binding) (x : Name) → (bind_name i b x).marks ≡ x.marks
unfolding give_binding
bind_name-marks = bind_name-keeps (λ x. x.marks) (λ b x. refl)

pub uses-bind_all : (q : ℕ) (f : ℕ → Binding) (k : ℕ) (xs : List Name) (t : Tree) → uses q (bind_all f k xs t) ≡ uses q t
unfolding bind_all bind
uses-bind_all q f k [] t = refl
uses-bind_all q f k (x ∷ xs) t = uses-bind_all q f (suc k) xs (bind x (f k) t) ∙ uses-on_names (bind_name x (f k)) (bind_name-item x (f k)) q t
