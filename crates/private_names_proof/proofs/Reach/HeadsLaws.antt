-- Trees in which no list of an expression is headed by the unproduced name of item p, and what keeps them so.
use Rattle.std.specs.Prelude.{◌≡◌, Bool, ◌&&◌, cond}
use Rattle.std.proofs.Math.Path.{refl}
use Rattle.std.proofs.Common.{◌∙◌}
use Rattle.std.proofs.Math.Bool.{true, false}
use mathlib.Core.List.{List, [], ◌∷◌}
use Prim.Native.Nat.{ℕ, zero, suc}
use Rattle.datum.specs.Constant.{Constant}
use Rattle.recipe.specs.Name.{Binding, Name, same, produce_name, give_binding, bind_name}
use Rattle.recipe.specs.Tree.{Tree, empty, constant, name, pair, on_name, elements, element, on_names, produce, bind, bind_all}
use Rattle.private_names_proof.specs.Reach.Heads.{is_at}

module _ (p : ℕ) where
  unfoldable pub is_name_at : Tree → Bool
  is_name_at = on_name (is_at p) false

  -- no list of an expression, or of the elements of a list, is headed by that name
  mutual
    pub data Unheaded : Tree → Type 0 where
      empty₁ : Unheaded empty
      constant₁ : {a : Constant} → Unheaded (constant a)
      name₁ : {x : Name} → Unheaded (name x)
      pair₁ : {h t : Tree} → is_name_at h ≡ false → Unheaded h → UnheadedAll t → Unheaded (pair h t)

    pub data UnheadedAll : Tree → Type 0 where
      empty₂ : UnheadedAll empty
      constant₂ : {a : Constant} → UnheadedAll (constant a)
      name₂ : {x : Name} → UnheadedAll (name x)
      pair₂ : {h t : Tree} → Unheaded h → UnheadedAll t → UnheadedAll (pair h t)

  pub unheaded-element : (k : ℕ) {t : Tree} → UnheadedAll t → Unheaded (element k t)
  unfolding element elements
  unheaded-element k empty₂ = empty₁
  unheaded-element k constant₂ = empty₁
  unheaded-element k name₂ = empty₁
  unheaded-element zero (pair₂ u v) = u
  unheaded-element (suc k) (pair₂ u v) = unheaded-element k v

  -- ---- names keep their item and whether they were produced

  module _ (f : Name → Name) (keeps : (x : Name) → (is_at p) (f x) ≡ (is_at p) x) where
    is_name_at-on_names : (t : Tree) → is_name_at (on_names f t) ≡ is_name_at t
    unfolding is_name_at on_name on_names
    is_name_at-on_names empty = refl
    is_name_at-on_names (constant a) = refl
    is_name_at-on_names (name x) = keeps x
    is_name_at-on_names (pair h t) = refl

    mutual
      unfolding on_names

      pub unheaded-on_names : {t : Tree} → Unheaded t → Unheaded (on_names f t)
      unheaded-on_names empty₁ = empty₁
      unheaded-on_names constant₁ = constant₁
      unheaded-on_names name₁ = name₁
      unheaded-on_names (pair₁ {h = h} e u v) = pair₁ (is_name_at-on_names h ∙ e) (unheaded-on_names u) (unheaded_all-on_names v)

      pub unheaded_all-on_names : {t : Tree} → UnheadedAll t → UnheadedAll (on_names f t)
      unheaded_all-on_names empty₂ = empty₂
      unheaded_all-on_names constant₂ = constant₂
      unheaded_all-on_names name₂ = name₂
      unheaded_all-on_names (pair₂ u v) = pair₂ (unheaded-on_names u) (unheaded_all-on_names v)

  pub is_at-bind : (i : Name) (b : Binding) (x : Name) → (is_at p) (bind_name i b x) ≡ (is_at p) x
  unfolding is_at bind_name give_binding
  is_at-bind i b x = go (same i x)
    where
      go : (c : Bool) → (is_at p) (cond c (give_binding b x) x) ≡ (is_at p) x
      go true = refl
      go false = refl

  pub unheaded-bind_all : (f : ℕ → Binding) (k : ℕ) (xs : List Name) {t : Tree} → Unheaded t → Unheaded (bind_all f k xs t)
  unfolding bind_all bind
  unheaded-bind_all f k [] u = u
  unheaded-bind_all f k (x ∷ xs) u = unheaded-bind_all f (suc k) xs (unheaded-on_names (bind_name x (f k)) (is_at-bind x (f k)) u)

  -- a step's result has no such name
  is_name_at-produce : (t : Tree) → is_name_at (produce t) ≡ false
  unfolding is_name_at on_name is_at produce on_names produce_name
  is_name_at-produce empty = refl
  is_name_at-produce (constant a) = refl
  is_name_at-produce (name x) = refl
  is_name_at-produce (pair h t) = refl

  pub unheaded-produce : (t : Tree) → Unheaded (produce t) × UnheadedAll (produce t)
  unfolding produce on_names
  unheaded-produce empty = (empty₁, empty₂)
  unheaded-produce (constant a) = (constant₁, constant₂)
  unheaded-produce (name x) = (name₁, name₂)
  unheaded-produce (pair h t) =
      let a = unheaded-produce h in
      let b = unheaded-produce t in
      (pair₁ (is_name_at-produce h) a.0 b.1, pair₂ a.0 b.1)
