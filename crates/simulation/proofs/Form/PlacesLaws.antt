-- The trees of the two runs in place: equal but for the private names of one template. What binding names does to them.
use Rattle.std.specs.Prelude.{◌≡◌, refl, Bool, not, ◌||◌, cond, ℕ, suc}
use Rattle.std.proofs.Math.Path.{ap, sym, subst}
use Rattle.std.proofs.Common.{◌∙◌, ap₂}
use Rattle.std.proofs.Math.Bool.{true, false}
use Rattle.std.proofs.lemmas.Bool.{false≢true}
use mathlib.Core.List.{List, [], ◌∷◌}
use Rattle.std.proofs.Math.Option.{some}
use Rattle.std.proofs.Math.Dec.{eqb}
use Rattle.words.specs.Lists.{any_of}
use Rattle.words.specs.Each.{also}
use Rattle.words.specs.TestLaws.{and_left, and_right}
use Rattle.recipe.specs.Name.{Binding, Name, same, distinct, is_ellipsis, is_wildcard, bind_name}
use Rattle.recipe.specs.Tree.{Tree, on_names, bind, bind_all, name, pair}
use Rattle.recipe.specs.TreeNames.{bind_name-number, bind_name-item}
use Rattle.expansion.specs.Rules.{template_place}
use Rattle.expansion.specs.Forms.{bindings}
use Rattle.simulation.specs.Relations.{ListRel, ends, joins}
use Rattle.simulation.specs.Shapes.{TreeOf, empties, constants, names₂, pairs}
use Rattle.simulation.proofs.ShapesLaws.{on_names-rel}
use Rattle.simulation.proofs.RulesKept.{rule_place-rel}
use Rattle.simulation.specs.Form.Holes.{Hole}
use Rattle.simulation.proofs.Form.HolesLaws.{hole-on_names, graph, hole-graph}
use Rattle.simulation.specs.Names.Shown.{Renaming, of_copy}
use Rattle.simulation.proofs.Names.ShownLaws.{not-private-not-copy, binds-fine, AllFine}
use Rattle.simulation.specs.Marks.{Kind, Older, Below}
use Rattle.simulation.specs.Names.{Coherent, Ready, Raw, NameRel, kept}
pub use Rattle.simulation.specs.Form.Scopes.{Scope, Placed, rebind, rebind_all, Moved}
pub use Rattle.simulation.proofs.Form.ScopesLaws.{same-placed, bind_name-placed, still_placed, has_variable-moved}
use Rattle.simulation.specs.Form.Places.{ChosenRules, InTemplate, Still, Turning, stays, turns}

module _ (ρ : Renaming) (β : Scope) where
  -- no binding in force is of a copy's
  abbrev pub Foreign : Type 0
  Foreign = (n : ℕ) → of_copy ρ (β n) ≡ false

  -- ---- `...` and `_`

  pub still-dots : (x y : Name) → (Still ρ β) x y → is_ellipsis x ≡ is_ellipsis y
  still-dots x y p = ap is_ellipsis p.eq

  pub still-wild : (x y : Name) → (Still ρ β) x y → is_wildcard x ≡ is_wildcard y
  still-wild x y p = ap is_wildcard p.eq

  pub template-dots : (x y : Name) → (InTemplate ρ β) x y → is_ellipsis x ≡ is_ellipsis y
  unfolding is_ellipsis
  template-dots x y (stays s e f) = still-dots x y s
  template-dots x y (turns t) = ap (λ k. eqb k 6) t.old ∙ ρ.old-6 ∙ sym ρ.new-6 ∙ ap (λ k. eqb k 6) (sym t.new)

  pub template-wild : (x y : Name) → (InTemplate ρ β) x y → is_wildcard x ≡ is_wildcard y
  unfolding is_wildcard
  template-wild x y (stays s e f) = still-wild x y s
  template-wild x y (turns t) = ap (λ k. eqb k 7) t.old ∙ ρ.old-7 ∙ sym ρ.new-7 ∙ ap (λ k. eqb k 7) (sym t.new)

  -- ---- trees that are still are equal

  pub still-eq : {t u : Tree} → TreeOf (Still ρ β) t u → t ≡ u
  still-eq empties = refl
  still-eq constants = refl
  still-eq (names₂ s) = ap name s.eq
  still-eq (pairs r s) = ap₂ pair (still-eq r) (still-eq s)

  pub still-self : {t u : Tree} → TreeOf (Still ρ β) t u → TreeOf (Still ρ β) t t
  still-self empties = empties
  still-self constants = constants
  still-self (names₂ s) = names₂ (record { eq = refl; not-private = s.not-private; placed = s.placed })
  still-self (pairs r s) = pairs (still-self r) (still-self s)

-- ---- binding names in them

module _ (ρ : Renaming) (β : Scope) (i : Name) (p : Placed β i) (b : Binding) where
  abbrev γ : Scope
  γ = rebind i.number b β

  still_bind : (x y : Name) → Still ρ β x y → Still ρ γ (bind_name i b x) (bind_name i b y)
  still_bind x y s = record { eq = ap (bind_name i b) s.eq; not-private = ap ρ.is_private (bind_name-item i b x) ∙ s.not-private; placed = bind_name-placed β i b x p s.placed }

  turning-bind : (x y : Name) → Turning ρ β x y → Turning ρ γ (bind_name i b x) (bind_name i b y)
  turning-bind x y t = record {
    private = ap ρ.is_private (bind_name-item i b x) ∙ t.private;
    old = bind_name-number i b x ∙ t.old;
    new = bind_name-number i b y ∙ t.new;
    item = bind_name-item i b x ∙ t.item ∙ sym (bind_name-item i b y);
    first = bind_name-placed β i b x p t.first;
    second = bind_name-placed β i b y p t.second;
  }

  template-bind : (x y : Name) → InTemplate ρ β x y → InTemplate ρ γ (bind_name i b x) (bind_name i b y)
  template-bind x y (stays s e f) = stays (still_bind x y s) (ap (λ k. eqb k ρ.old) (bind_name-number i b x) ∙ e) (ap (λ k. eqb k ρ.new) (bind_name-number i b x) ∙ f)
  template-bind x y (turns t) = turns (turning-bind x y t)

  moved : (x : Name) → Placed β x → Moved β γ x (bind_name i b x)
  moved x q = record { from = q; to = bind_name-placed β i b x p q; number = sym (bind_name-number i b x) }

  in-template : (x y : Name) → InTemplate ρ β x y → Placed β x
  in-template x y (stays s e f) = s.placed
  in-template x y (turns t) = t.first

  rules-bind : (t u : Tree) → ChosenRules ρ β t u → ChosenRules ρ γ (bind i b t) (bind i b u)
  unfolding bind
  rules-bind t u c =
      let g : TreeOf (Moved β γ) t (on_names (bind_name i b) t) = hole-graph (bind_name i b) (λ x y s. moved x s.placed) (λ t u r. graph (bind_name i b) (λ x y s. moved x (in-template x y s)) r) c.hole in
      record {
        rule = c.rule;
        hole = subst (λ k. Hole (Still ρ γ) (TreeOf (InTemplate ρ γ)) (k ∷ template_place ∷ []) (on_names (bind_name i b) t) (on_names (bind_name i b) u)) (rule_place-rel c.rule g)
            (hole-on_names (bind_name i b) still_bind (λ t u r. on_names-rel _ _ template-bind r) c.hole);
        old-free = sym (has_variable-moved β γ c.rule ρ.old g) ∙ c.old-free;
        new-free = sym (has_variable-moved β γ c.rule ρ.new g) ∙ c.new-free;
      }

-- no two names of a form are the same, so the later ones keep their bindings
others : (ρ : Renaming) (β : Scope) (i : Name) → Placed β i → (b : Binding) {xs ys : List Name} → not (any_of (same i) xs) ≡ true → ListRel (Still ρ β) xs ys → ListRel (Still ρ (rebind i.number b β)) xs ys
unfolding any_of
others ρ β i p b e ends = ends
others ρ β i p b e (joins {x = x} {xs = xs} s ss) =
    joins (record { eq = s.eq; not-private = s.not-private; placed = still_placed β i b x s.placed (sym (same-placed β i x p s.placed) ∙ (neither (same i x) (any_of (same i) xs) e).0) })
    (others ρ β i p b (ap not (neither (same i x) (any_of (same i) xs) e).1) ss)
  where
    neither : (c d : Bool) → not (c || d) ≡ true → (c ≡ false) × (d ≡ false)
    neither true d e = absurd (false≢true e)
    neither false true e = absurd (false≢true e)
    neither false false e = (refl, refl)

module _ (ρ : Renaming) (f : ℕ → Binding) where
  pub bind_all-still : (xs ys : List Name) (k : ℕ) (β : Scope) → ListRel (Still ρ β) xs ys → distinct xs ≡ true → {t u : Tree} → TreeOf (Still ρ β) t u → TreeOf (Still ρ (rebind_all f k xs β)) (bind_all f k xs t) (bind_all f k ys u)
  unfolding bind_all bind rebind_all distinct
  bind_all-still [] [] k β ends e r = r
  bind_all-still [] (y ∷ ys) k β s e r = elim s [ ]
  bind_all-still (x ∷ xs) [] k β s e r = elim s [ ]
  bind_all-still (x ∷ xs) (y ∷ ys) k β (joins s ss) e {t} {u} r =
      subst (λ z. TreeOf (Still ρ (rebind_all f k (x ∷ xs) β)) (bind_all f (suc k) xs (bind x (f k) t)) (bind_all f (suc k) ys (bind z (f k) u))) s.eq
      (bind_all-still xs ys (suc k) (rebind x.number (f k) β) (others ρ β x s.placed (f k) (and_left (not (any_of (same x) xs)) (distinct xs) e) ss) (and_right (not (any_of (same x) xs)) (distinct xs) e)
      (on_names-rel _ _ (still_bind ρ β x s.placed (f k)) r))

  pub bind_all-hole : (xs ys : List Name) (k : ℕ) (β : Scope) → ListRel (Still ρ β) xs ys → distinct xs ≡ true → {p : List ℕ} {t u : Tree} → Hole (Still ρ β) (ChosenRules ρ β) p t u
      → Hole (Still ρ (rebind_all f k xs β)) (ChosenRules ρ (rebind_all f k xs β)) p (bind_all f k xs t) (bind_all f k ys u)
  unfolding bind_all bind rebind_all distinct
  bind_all-hole [] [] k β ends e r = r
  bind_all-hole [] (y ∷ ys) k β s e r = elim s [ ]
  bind_all-hole (x ∷ xs) [] k β s e r = elim s [ ]
  bind_all-hole (x ∷ xs) (y ∷ ys) k β (joins s ss) e {p} {t} {u} r =
      subst (λ z. Hole (Still ρ (rebind_all f k (x ∷ xs) β)) (ChosenRules ρ (rebind_all f k (x ∷ xs) β)) p (bind_all f (suc k) xs (bind x (f k) t)) (bind_all f (suc k) ys (bind z (f k) u))) s.eq
      (bind_all-hole xs ys (suc k) (rebind x.number (f k) β) (others ρ β x s.placed (f k) (and_left (not (any_of (same x) xs)) (distinct xs) e) ss) (and_right (not (any_of (same x) xs)) (distinct xs) e)
      (hole-on_names (bind_name x (f k)) (still_bind ρ β x s.placed (f k)) (rules-bind ρ β x s.placed (f k)) r))

  foreign-from : (γ : Scope) (k : ℕ) (β : Scope) {xs ys : List Name} → ListRel (Still ρ γ) xs ys → AllFine ρ (bindings f k xs) → Foreign ρ β → Foreign ρ (rebind_all f k xs β)
  unfolding rebind_all rebind bindings
  foreign-from γ k β ends a h = h
  foreign-from γ k β (joins {x = x} s ss) (also e a) h = foreign-from γ (suc k) _ ss a (λ n. go (eqb x.number n) n)
    where
      go : (c : Bool) (n : ℕ) → of_copy ρ (cond c (some (f k)) (β n)) ≡ false
      go true n = binds-fine ρ (f k) x e ∙ not-private-not-copy ρ x s.not-private
      go false n = h n

  pub rebind_all-foreign : (k : ℕ) (β γ : Scope) {xs ys : List Name} → ListRel (Still ρ γ) xs ys → AllFine ρ (bindings f k xs) → Foreign ρ β → Foreign ρ (rebind_all f k xs β)
  rebind_all-foreign k β γ = foreign-from γ k β

-- ---- names that are still, as the simulation knows them

module _ (ρ : Renaming) where
  abbrev pub AtRest : Kind
  AtRest = λ k i b ms. (ρ.is_private i ≡ false) × (ms ≡ [])

  pub rest-coherent : Coherent ρ AtRest
  rest-coherent = record { old = λ i j a b ms p q. p.0 ∙ sym q.0; new = λ i j a b ms p q e. absurd (false≢true (sym q.0 ∙ e)) }

  pub rest-ready : Ready ρ AtRest
  rest-ready k i b ms p e = absurd (false≢true (sym p.0 ∙ e))

  pub rest_below : (m : ℕ) → Below m AtRest
  rest_below m k i b ms p = subst (Older m) (sym p.1) tt

  pub still-rel : (raw : Raw ρ) (β : Scope) → Foreign ρ β → (x y : Name) → Still ρ β x y → NameRel ρ raw AtRest x y
  still-rel raw β h x y s = kept (s.not-private, s.placed.unmarked) (record { eq = s.eq; not-private = s.not-private; free = ap (of_copy ρ) s.placed.bound ∙ h x.number })
