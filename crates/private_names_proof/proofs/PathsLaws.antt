-- Places in a tree, told by element numbers from the outermost list on: the place of a list headed by an unproduced name.
use Rattle.std.proofs.Math.Path.{◌≡◌, refl, ap, ap₂, sym, subst}
use Rattle.std.proofs.Common.{◌∙◌, true≢false}
use Rattle.std.specs.Prelude.{◌⊎◌, Bool, not, ◌&&◌}
use Rattle.std.proofs.Math.Logic.{inl, inr}
use Rattle.std.proofs.Math.Bool.{true, false, ◌||◌, cond}
use Rattle.std.proofs.lemmas.Bool.{false≢true}
use mathlib.Core.List.Memᴰ
use mathlib.Core.List.{List, [], ◌∷◌, ◌++◌, Memᴰ}
use Prim.Native.Nat.{ℕ, zero, suc, ◌+◌, ◌≤◌}
use native.Mathlib.Omega.{arith}
use Rattle.std.proofs.Math.Dec.{eqb}
use Rattle.words.specs.Lists.{any_of}
use Rattle.words.specs.TestLaws.{and_right, any_append}
use Rattle.recipe.specs.Name.{Binding, Name, bind_name}
use Rattle.recipe.specs.Tree.{Tree, empty, constant, name, pair, on_name, elements, element, on_names, bind, bind_all}
use Rattle.recipe.specs.TreeNames.{TreeAll, tree_all-element, uses, uses-element, uses-elements}
use Rattle.private_names_proof.specs.Reach.Heads.{is_at}
use Rattle.private_names_proof.proofs.Reach.HeadsLaws.{is_name_at, Unheaded, empty₁, constant₁, name₁, pair₁, UnheadedAll, empty₂, constant₂, name₂, pair₂, is_at-bind}
use Rattle.private_names.specs.Statement.{parts, first_with, has_head}
use Rattle.private_names_proof.proofs.Members.{any-from}
use Rattle.private_names_proof.specs.Paths.{sub}

pub tree_all-sub : {P : Name → Type 0} (l : List ℕ) {t : Tree} → TreeAll P t → TreeAll P (sub l t)
unfolding sub
tree_all-sub [] a = a
tree_all-sub (k ∷ l) a = tree_all-sub l (tree_all-element k a)

pub uses-sub : (q : ℕ) (l : List ℕ) (t : Tree) → uses q (sub l t) ≤ uses q t
unfolding sub
uses-sub q [] t = omega arith
uses-sub q (k ∷ l) t = omega (arith, uses-sub q l (element k t), uses-element q k t)

first_with-here : (f : Tree → Bool) (ts us : List Tree) → any_of f ts ≡ true → first_with f (ts ++ us) ≡ first_with f ts
unfolding first_with any_of
first_with-here f [] us e = absurd (false≢true e)
first_with-here f (t ∷ ts) us e = go (f t) e (first_with-here f ts us)
  where
    go : (b : Bool) → (b || any_of f ts) ≡ true → (any_of f ts ≡ true → first_with f (ts ++ us) ≡ first_with f ts) → cond b t (first_with f (ts ++ us)) ≡ cond b t (first_with f ts)
    go true e h = refl
    go false e h = h e

first_with-later : (f : Tree → Bool) (ts us : List Tree) → any_of f ts ≡ false → first_with f (ts ++ us) ≡ first_with f us
unfolding first_with any_of
first_with-later f [] us e = refl
first_with-later f (t ∷ ts) us e = go (f t) e (first_with-later f ts us)
  where
    go : (b : Bool) → (b || any_of f ts) ≡ false → (any_of f ts ≡ false → first_with f (ts ++ us) ≡ first_with f us) → cond b t (first_with f (ts ++ us)) ≡ first_with f us
    go true e h = absurd (true≢false e)
    go false e h = h e

-- ---- a list headed by the unproduced name of item p, and its place

module _ (p : ℕ) where
  pub data Headed : List ℕ → Tree → Type 0 where
    headed : {x : Name} {t : Tree} → is_at p x ≡ true → Headed [] (pair (name x) t)
    in-first : {l : List ℕ} {h t : Tree} → Headed l h → Headed (0 ∷ l) (pair h t)
    in-later : {k : ℕ} {l : List ℕ} {h t : Tree} → Headed (k ∷ l) t → Headed (suc k ∷ l) (pair h t)

  pub is_at-item : (x : Name) → is_at p x ≡ true → eqb x.item p ≡ true
  unfolding is_at
  is_at-item x e = and_right (not x.produced) (eqb x.item p) e

  pub headed-uses : {l : List ℕ} {t : Tree} → Headed l t → 1 ≤ uses p t
  unfolding uses
  headed-uses (headed {x = x} {t = t} e) = subst (λ b. 1 ≤ cond b 1 0 + uses p t) (sym (is_at-item x e)) (omega arith)
  headed-uses (in-first h) = omega (arith, headed-uses h)
  headed-uses (in-later h) = omega (arith, headed-uses h)

  pub headed-element : {k : ℕ} {l : List ℕ} {t : Tree} → Headed (k ∷ l) t → Headed l (element k t)
  unfolding element elements
  headed-element (in-first h) = h
  headed-element (in-later h) = headed-element h

  pub headed-on_names : (f : Name → Name) → ((x : Name) → is_at p (f x) ≡ is_at p x) → {l : List ℕ} {t : Tree} → Headed l t → Headed l (on_names f t)
  unfolding on_names
  headed-on_names f keeps (headed {x = x} e) = headed (keeps x ∙ e)
  headed-on_names f keeps (in-first h) = in-first (headed-on_names f keeps h)
  headed-on_names f keeps (in-later h) = in-later (headed-on_names f keeps h)

  pub headed-bind_all : (f : ℕ → Binding) (k : ℕ) (xs : List Name) {l : List ℕ} {t : Tree} → Headed l t → Headed l (bind_all f k xs t)
  unfolding bind_all bind
  headed-bind_all f k [] h = h
  headed-bind_all f k (x ∷ xs) h = headed-bind_all f (suc k) xs (headed-on_names (bind_name x (f k)) (is_at-bind p x (f k)) h)

  -- where the name is not, no list is headed by it
  pub unused-name : (x : Name) → uses p (name x) ≡ 0 → is_at p x ≡ false
  unfolding uses is_at
  unused-name x e = go (not x.produced) (eqb x.item p) e
    where
      go : (a b : Bool) → ◌≡◌ {A = ℕ} (cond b 1 0) 0 → (a && b) ≡ false
      go true true e = absurd (omega arith)
      go false true e = absurd (omega arith)
      go true false e = refl
      go false false e = refl

  unused-head : (t : Tree) → uses p t ≡ 0 → is_name_at p t ≡ false
  unfolding is_name_at on_name
  unused-head empty e = refl
  unused-head (constant a) e = refl
  unused-head (name x) e = unused-name x e
  unused-head (pair h t) e = refl

  pub unused-unheaded : (t : Tree) → uses p t ≡ 0 → Unheaded p t × UnheadedAll p t
  unfolding uses
  unused-unheaded empty e = (empty₁, empty₂)
  unused-unheaded (constant a) e = (constant₁, constant₂)
  unused-unheaded (name x) e = (name₁, name₂)
  unused-unheaded (pair h t) e =
      let i : uses p h ≡ 0 = omega arith in
      let j : uses p t ≡ 0 = omega arith in
      let u = unused-unheaded h i in
      let v = unused-unheaded t j in
      (pair₁ (unused-head h i) u.0 v.1, pair₂ u.0 v.1)

  -- the form's head is its one name of item p
  pub headed-one : (x : Name) → is_at p x ≡ true → uses p (name x) ≡ 1
  unfolding uses
  headed-one x e = ap (λ c. cond c 1 0) (is_at-item x e)

  -- the elements after the head of a list, where that name is the head
  pub later-unheaded : (x : Name) (t : Tree) → uses p t ≡ 0 → (i : ℕ) → Unheaded p (element (suc i) (pair (name x) t))
  unfolding element elements
  later-unheaded x t u i = (unused-unheaded (element i t) (omega (arith, uses-element p i t))).0

  -- an element other than the one with the place
  pub other-unheaded : {k : ℕ} {l : List ℕ} {t : Tree} → Headed (k ∷ l) t → uses p t ≤ 1 → (i : ℕ) → (i ≡ k → ⊥) → Unheaded p (element i t)
  other-unheaded {k} {l} {t} h u i d =
      (unused-unheaded (element i t) (omega (arith, headed-uses (headed-element h), uses-elements p i k t d))).0

  -- ---- whether there is one, and where

  find-pair : (h t : Tree) (c : Bool) → is_name_at p h ≡ c → Unheaded p h ⊎ ((l : List ℕ) × Headed l h) → UnheadedAll p t ⊎ ((k : ℕ) × (l : List ℕ) × Headed (k ∷ l) t)
      → Unheaded p (pair h t) ⊎ ((l : List ℕ) × Headed l (pair h t))
  unfolding is_name_at on_name
  find-pair empty t true e a b = absurd (false≢true e)
  find-pair (constant x) t true e a b = absurd (false≢true e)
  find-pair (name x) t true e a b = inr ([], headed e)
  find-pair (pair g u) t true e a b = absurd (false≢true e)
  find-pair h t false e (inl a) (inl b) = inl (pair₁ e a b)
  find-pair h t false e (inl a) (inr (k, l, b)) = inr (suc k ∷ l, in-later b)
  find-pair h t false e (inr (l, a)) b = inr (0 ∷ l, in-first a)

  find-all : (h t : Tree) → Unheaded p h ⊎ ((l : List ℕ) × Headed l h) → UnheadedAll p t ⊎ ((k : ℕ) × (l : List ℕ) × Headed (k ∷ l) t)
      → UnheadedAll p (pair h t) ⊎ ((k : ℕ) × (l : List ℕ) × Headed (k ∷ l) (pair h t))
  find-all h t (inl a) (inl b) = inl (pair₂ a b)
  find-all h t (inl a) (inr (k, l, b)) = inr (suc k, l, in-later b)
  find-all h t (inr (l, a)) b = inr (0, l, in-first a)

  find-both : (t : Tree) → (Unheaded p t ⊎ ((l : List ℕ) × Headed l t)) × (UnheadedAll p t ⊎ ((k : ℕ) × (l : List ℕ) × Headed (k ∷ l) t))
  find-both empty = (inl empty₁, inl empty₂)
  find-both (constant a) = (inl constant₁, inl constant₂)
  find-both (name x) = (inl name₁, inl name₂)
  find-both (pair h t) =
      let a = find-both h in
      let b = find-both t in
      (find-pair h t (is_name_at p h) refl a.0 b.1, find-all h t a.0 b.1)

  pub find : (t : Tree) → Unheaded p t ⊎ ((l : List ℕ) × Headed l t)
  find t = (find-both t).0

  pub headed-of-element : {l : List ℕ} (k : ℕ) (t : Tree) → Headed l (element k t) → Headed (k ∷ l) t
  unfolding element elements
  headed-of-element zero empty i = elim i [ ]
  headed-of-element zero (constant a) i = elim i [ ]
  headed-of-element zero (name x) i = elim i [ ]
  headed-of-element zero (pair h t) i = in-first i
  headed-of-element (suc k) empty i = elim i [ ]
  headed-of-element (suc k) (constant a) i = elim i [ ]
  headed-of-element (suc k) (name x) i = elim i [ ]
  headed-of-element (suc k) (pair h t) i = in-later (headed-of-element k t i)

  -- ---- it is the form that the statement takes: a table's items are in its tree once, so that one part has that head

  head-none : (t : Tree) → uses p t ≡ 0 → on_name (λ x. eqb x.item p) false t ≡ false
  unfolding uses on_name
  head-none empty e = refl
  head-none (constant a) e = refl
  head-none (name x) e = go (eqb x.item p) e
    where
      go : (b : Bool) → ◌≡◌ {A = ℕ} (cond b 1 0) 0 → b ≡ false
      go true e = absurd (omega arith)
      go false e = refl
  head-none (pair h t) e = refl

  parts_none : (t : Tree) → uses p t ≡ 0 → any_of (has_head p) (parts t) ≡ false
  unfolding uses parts any_of has_head element elements on_name
  parts_none empty e = refl
  parts_none (constant a) e = refl
  parts_none (name x) e = refl
  parts_none (pair h t) e =
      let i : uses p h ≡ 0 = omega arith in
      let j : uses p t ≡ 0 = omega arith in
      ap₂ ◌||◌ (head-none h i) (any_append (has_head p) (parts h) (parts t) ∙ ap₂ ◌||◌ (parts_none h i) (parts_none t j))

  part-used : (t f : Tree) → Memᴰ f (parts t) → has_head p f ≡ true → 1 ≤ uses p t
  part-used t f m e = go (uses p t) refl
    where
      go : (n : ℕ) → uses p t ≡ n → 1 ≤ n
      go zero z = absurd (false≢true (sym (parts_none t z) ∙ any-from (has_head p) (parts t) f m e))
      go (suc n) z = omega arith

  -- a tree with such a part is no name
  part-no-name : (t f : Tree) → Memᴰ f (parts t) → has_head p f ≡ true → on_name (λ x. eqb x.item p) false t ≡ false
  unfolding parts has_head element elements on_name
  part-no-name empty f m e = refl
  part-no-name (constant a) f m e = refl
  part-no-name (name x) f (Memᴰ.head q) e = absurd (false≢true (subst (λ z. has_head p z ≡ true) q e))
  part-no-name (name x) f (Memᴰ.tail m) e = elim m [ ]
  part-no-name (pair h t) f m e = refl

  pub part-first : (t f : Tree) → Memᴰ f (parts t) → has_head p f ≡ true → uses p t ≤ 1 → first_with (has_head p) (parts t) ≡ f
  unfolding parts has_head element elements on_name first_with uses
  part-first empty f (Memᴰ.head q) e u = absurd (false≢true (subst (λ z. has_head p z ≡ true) q e))
  part-first (constant a) f (Memᴰ.head q) e u = absurd (false≢true (subst (λ z. has_head p z ≡ true) q e))
  part-first (name x) f (Memᴰ.head q) e u = absurd (false≢true (subst (λ z. has_head p z ≡ true) q e))
  part-first empty f (Memᴰ.tail m) e u = elim m [ ]
  part-first (constant a) f (Memᴰ.tail m) e u = elim m [ ]
  part-first (name x) f (Memᴰ.tail m) e u = elim m [ ]
  part-first (pair h t) f (Memᴰ.head q) e u =
      ap (λ b. cond b (pair h t) (first_with (has_head p) (parts h ++ parts t))) (subst (λ z. has_head p z ≡ true) q e) ∙ sym q
  part-first (pair h t) f (Memᴰ.tail m) e u = go (Memᴰ.append_cases (parts h) m) (part-first h f) (part-first t f)
    where
      other : on_name (λ x. eqb x.item p) false h ≡ false → first_with (has_head p) (parts (pair h t)) ≡ first_with (has_head p) (parts h ++ parts t)
      other d = ap (λ b. cond b (pair h t) (first_with (has_head p) (parts h ++ parts t))) d

      go : Memᴰ f (parts h) ⊎ Memᴰ f (parts t)
          → (Memᴰ f (parts h) → has_head p f ≡ true → uses p h ≤ 1 → first_with (has_head p) (parts h) ≡ f)
          → (Memᴰ f (parts t) → has_head p f ≡ true → uses p t ≤ 1 → first_with (has_head p) (parts t) ≡ f)
          → first_with (has_head p) (parts (pair h t)) ≡ f
      go (inl i) left right =
          other (part-no-name h f i e) ∙ first_with-here (has_head p) (parts h) (parts t) (any-from (has_head p) (parts h) f i e) ∙ left i e (omega arith)
      go (inr i) left right =
          let z : uses p h ≡ 0 = omega (arith, part-used t f i e) in
          other (head-none h z) ∙ first_with-later (has_head p) (parts h) (parts t) (parts_none h z) ∙ right i e (omega arith)

  -- the part at such a place
  headed-part : {l : List ℕ} {t : Tree} → Headed l t → Memᴰ (sub l t) (parts t) × (has_head p (sub l t) ≡ true)
  unfolding parts has_head element elements on_name sub
  headed-part (headed {x = x} e) = (Memᴰ.head refl, is_at-item x e)
  headed-part (in-first {h = h} {t = t} i) = let r = headed-part i in (Memᴰ.tail (Memᴰ.append_left (parts t) r.0), r.1)
  headed-part (in-later {h = h} {t = t} i) = let r = headed-part i in (Memᴰ.tail (Memᴰ.append_right (parts h) r.0), r.1)

  pub headed-first : {l : List ℕ} {t : Tree} → Headed l t → uses p t ≤ 1 → first_with (has_head p) (parts t) ≡ sub l t
  headed-first {l} {t} i u = let r = headed-part i in part-first t (sub l t) r.0 r.1 u
