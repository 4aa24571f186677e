-- Laws of trees: sizes of elements, and what carrying a map of names through a tree keeps.
use Rattle.std.specs.Prelude.{◌≡◌, refl, List, [], ◌∷◌, map, ℕ, zero, suc, ◌+◌, ◌≤◌, length}
use Rattle.std.proofs.Common.{ap, ap₂, ◌∙◌, arith, length-append}
use Rattle.recipe.specs.Name.{Binding, Name, mark_name, produce_name, bind_name}
use Rattle.recipe.specs.Tree.{Tree, empty, constant, name, pair, size, names, on_pair, elements, element, tail, past, on_names, mark, produce, bind, bind_all}

-- ---- sizes

pub size-positive : (t : Tree) → 1 ≤ size t
unfolding size
size-positive empty = omega arith
size-positive (constant a) = omega arith
size-positive (name x) = omega arith
size-positive (pair h t) = omega arith

pub element-size : (n : ℕ) (t : Tree) → size (element n t) ≤ size t
unfolding size element elements
element-size n empty = omega arith
element-size n (constant a) = omega arith
element-size n (name x) = omega arith
element-size zero (pair h t) = omega arith
element-size (suc n) (pair h t) = omega (arith, element-size n t)

pub names-size : (t : Tree) → length (names t) ≤ size t
unfolding size names
names-size empty = omega arith
names-size (constant a) = omega arith
names-size (name x) = omega arith
names-size (pair h t) = simp length-append (omega (arith, names-size h, names-size t))

-- the items of these trees together
unfoldable pub total_size : List Tree → ℕ
total_size [] = 0
total_size (t ∷ ts) = size t + total_size ts

-- a list has, besides its elements, a pair for each and the end
pub elements-size : (t : Tree) → total_size (elements t) + length (elements t) + 1 ≤ size t
unfolding total_size elements size
elements-size empty = omega arith
elements-size (constant a) = omega arith
elements-size (name x) = omega arith
elements-size (pair h t) = omega (arith, elements-size t)

-- ---- on_names

pub on_names-size : (f : Name → Name) (t : Tree) → size (on_names f t) ≡ size t
unfolding on_names size
on_names-size f empty = refl
on_names-size f (constant a) = refl
on_names-size f (name x) = refl
on_names-size f (pair h t) = ap₂ (λ a b. suc (a + b)) (on_names-size f h) (on_names-size f t)

pub on_names-∘ : (f g : Name → Name) (t : Tree) → on_names f (on_names g t) ≡ on_names (λ x. f (g x)) t
unfolding on_names
on_names-∘ f g empty = refl
on_names-∘ f g (constant a) = refl
on_names-∘ f g (name x) = refl
on_names-∘ f g (pair h t) = ap₂ pair (on_names-∘ f g h) (on_names-∘ f g t)

pub on_names-cong : (f g : Name → Name) → ((x : Name) → f x ≡ g x) → (t : Tree) → on_names f t ≡ on_names g t
unfolding on_names
on_names-cong f g e empty = refl
on_names-cong f g e (constant a) = refl
on_names-cong f g e (name x) = ap name (e x)
on_names-cong f g e (pair h t) = ap₂ pair (on_names-cong f g e h) (on_names-cong f g e t)

pub on_names-elements : (f : Name → Name) (t : Tree) → elements (on_names f t) ≡ map (on_names f) (elements t)
unfolding on_names elements
on_names-elements f empty = refl
on_names-elements f (constant a) = refl
on_names-elements f (name x) = refl
on_names-elements f (pair h t) = ap (λ ts. on_names f h ∷ ts) (on_names-elements f t)

pub on_names-element : (f : Name → Name) (k : ℕ) (t : Tree) → element k (on_names f t) ≡ on_names f (element k t)
unfolding element elements on_names
on_names-element f k empty = refl
on_names-element f k (constant a) = refl
on_names-element f k (name x) = refl
on_names-element f zero (pair h t) = refl
on_names-element f (suc k) (pair h t) = on_names-element f k t

-- ---- elements of a tail

pub element-tail : (k : ℕ) (t : Tree) → element k (tail t) ≡ element (suc k) t
unfolding element elements tail on_pair
element-tail k empty = refl
element-tail k (constant a) = refl
element-tail k (name x) = refl
element-tail k (pair h t) = refl

pub element-past : (n : ℕ) (t : Tree) → element 0 (past n t) ≡ element n t
unfolding past
element-past zero t = refl
element-past (suc n) t = element-past n (tail t) ∙ element-tail n t

-- ---- marks and bindings keep the size

pub mark-size : (m : ℕ) (t : Tree) → size (mark m t) ≡ size t
unfolding mark
mark-size m t = on_names-size (mark_name m) t

pub produce-size : (t : Tree) → size (produce t) ≡ size t
unfolding produce
produce-size t = on_names-size produce_name t

pub bind_all-size : (f : ℕ → Binding) (k : ℕ) (xs : List Name) (t : Tree) → size (bind_all f k xs t) ≡ size t
unfolding bind_all bind
bind_all-size f k [] t = refl
bind_all-size f k (x ∷ xs) t = bind_all-size f (suc k) xs (bind x (f k) t) ∙ on_names-size (bind_name x (f k)) t
