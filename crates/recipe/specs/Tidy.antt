-- Tidy trees: N holds of every name, C of every constant, and every tail is a list. All that a run does to trees keeps them tidy.
use Rattle.std.specs.Prelude.{◌≡◌, refl, Bool, cond, ℕ, suc, ◌+◌, ◌≤◌, ◌<◌, length}
use Rattle.std.proofs.Common.{◌∙◌, arith, length-append}
use Rattle.std.proofs.Math.Bool.{true, false}
use Rattle.std.proofs.lemmas.Bool.{false≢true}
use mathlib.Core.List.{List, [], ◌∷◌}
use Rattle.words.specs.Lists.{all_of}
use Rattle.words.specs.TestLaws.{all-parts}
use Rattle.words.specs.Each.{Each, none_of, also, each_append, each-get_d}
use Rattle.datum.specs.Constant.{Constant}
use Rattle.recipe.specs.Name.{Binding, Name, same, mark_name, produce_name, give_binding, bind_name}
use Rattle.recipe.specs.Tree.{Tree, empty, constant, name, pair, names, on_empty, on_name, on_pair, is_ordinary_name, is_list, elements, element, tail, on_names, mark, produce, bind, bind_all}

pub data Tidy (N : Name → Type 0) (C : Constant → Type 0) : Tree → Type 0 where
  tidy_empty : Tidy N C empty
  tidy_constant : {a : Constant} → C a → Tidy N C (constant a)
  tidy_name : {x : Name} → N x → Tidy N C (name x)
  tidy_pair : {h t : Tree} → Tidy N C h → Tidy N C t → is_list t ≡ true → Tidy N C (pair h t)

module _ {N : Name → Type 0} {C : Constant → Type 0} where
  -- ---- parts

  pub tidy-elements : {t : Tree} → Tidy N C t → Each (Tidy N C) (elements t)
  unfolding elements
  tidy-elements tidy_empty = none_of
  tidy-elements (tidy_constant c) = none_of
  tidy-elements (tidy_name x) = none_of
  tidy-elements (tidy_pair h t l) = also h (tidy-elements t)

  pub tidy-element : (n : ℕ) {t : Tree} → Tidy N C t → Tidy N C (element n t)
  unfolding element
  tidy-element n t = each-get_d n empty (tidy-elements t) tidy_empty

  pub tidy-tail : {t : Tree} → Tidy N C t → Tidy N C (tail t)
  unfolding tail on_pair
  tidy-tail tidy_empty = tidy_empty
  tidy-tail (tidy_constant c) = tidy_empty
  tidy-tail (tidy_name x) = tidy_empty
  tidy-tail (tidy_pair h t l) = t

  pub tidy-names : {t : Tree} → Tidy N C t → Each N (names t)
  unfolding names
  tidy-names tidy_empty = none_of
  tidy-names (tidy_constant c) = none_of
  tidy-names (tidy_name x) = also x none_of
  tidy-names (tidy_pair h t l) = each_append (tidy-names h) (tidy-names t)

-- ---- maps of names

pub on_names-is_list : (f : Name → Name) (t : Tree) → is_list (on_names f t) ≡ is_list t
unfolding on_names is_list on_empty on_pair
on_names-is_list f empty = refl
on_names-is_list f (constant a) = refl
on_names-is_list f (name x) = refl
on_names-is_list f (pair h t) = refl

module _ {N M : Name → Type 0} {C : Constant → Type 0} where
  pub tidy-weaken : {t : Tree} → ((x : Name) → N x → M x) → Tidy N C t → Tidy M C t
  tidy-weaken k tidy_empty = tidy_empty
  tidy-weaken k (tidy_constant c) = tidy_constant c
  tidy-weaken k (tidy_name x) = tidy_name (k _ x)
  tidy-weaken k (tidy_pair h t l) = tidy_pair (tidy-weaken k h) (tidy-weaken k t) l

  pub tidy-on_names : (f : Name → Name) {t : Tree} → ((x : Name) → N x → M (f x)) → Tidy N C t → Tidy M C (on_names f t)
  unfolding on_names
  tidy-on_names f k tidy_empty = tidy_empty
  tidy-on_names f k (tidy_constant c) = tidy_constant c
  tidy-on_names f k (tidy_name x) = tidy_name (k _ x)
  tidy-on_names f k (tidy_pair {t = u} h t l) = tidy_pair (tidy-on_names f k h) (tidy-on_names f k t) (on_names-is_list f u ∙ l)

module _ {N : Name → Type 0} {C : Constant → Type 0} where
  pub tidy-mark : (m : ℕ) {t : Tree} → ((x : Name) → N x → N (mark_name m x)) → Tidy N C t → Tidy N C (mark m t)
  unfolding mark
  tidy-mark m k t = tidy-on_names (mark_name m) k t

  pub tidy-produce : {t : Tree} → ((x : Name) → N x → N (produce_name x)) → Tidy N C t → Tidy N C (produce t)
  unfolding produce
  tidy-produce k t = tidy-on_names produce_name k t

  tidy-bind : (i : Name) (b : Binding) {t : Tree} → ((x : Name) → N x → N (give_binding b x)) → Tidy N C t → Tidy N C (bind i b t)
  unfolding bind bind_name
  tidy-bind i b k t = tidy-on_names (bind_name i b) (λ x p. either (same i x) x p) t
    where
      either : (d : Bool) (x : Name) → N x → N (cond d (give_binding b x) x)
      either true x p = k x p
      either false x p = p

  -- the new bindings are f k, f (k + 1), ..
  pub tidy-bind_all : (f : ℕ → Binding) (k : ℕ) (xs : List Name) {t : Tree} → ((j : ℕ) → k ≤ j → j < k + length xs → (x : Name) → N x → N (give_binding (f j) x)) → Tidy N C t → Tidy N C (bind_all f k xs t)
  unfolding bind_all
  tidy-bind_all f k [] g t = t
  tidy-bind_all f k (x ∷ xs) g t = tidy-bind_all f (suc k) xs (λ j h l. g j (omega arith) (omega arith)) (tidy-bind x (f k) (g k (omega arith) (omega arith)) t)

-- ---- lists of names

pub ordinary-names : (t : Tree) → is_ordinary_name t ≡ true → length (names t) ≡ 1
unfolding is_ordinary_name on_name names
ordinary-names empty e = absurd (false≢true e)
ordinary-names (constant a) e = absurd (false≢true e)
ordinary-names (name x) e = refl
ordinary-names (pair h t) e = absurd (false≢true e)

-- a list of names alone has as many as elements
pub tidy-formals : {N : Name → Type 0} {C : Constant → Type 0} {t : Tree} → Tidy N C t → is_list t ≡ true → all_of is_ordinary_name (elements t) ≡ true → length (names t) ≡ length (elements t)
unfolding elements names is_list on_empty on_pair
tidy-formals tidy_empty l e = refl
tidy-formals (tidy_constant c) l e = absurd (false≢true l)
tidy-formals (tidy_name x) l e = absurd (false≢true l)
tidy-formals (tidy_pair {h} {t} p q l) _ e =
    let g = all-parts is_ordinary_name h (elements t) e in
    length-append (names h) (names t) ∙ omega (arith, ordinary-names h g.0, tidy-formals q l g.1)
