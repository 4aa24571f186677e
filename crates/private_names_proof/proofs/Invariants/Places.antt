-- A tree in place that holds the form at a place of it, and its parts: the one with the form, and those without a private name.
use Rattle.std.specs.Prelude.{◌≡◌, refl, Bool, true, false, ◌||◌, ℕ, suc, ◌≤◌}
use Rattle.std.proofs.Math.Path.{ap, sym}
use Rattle.std.proofs.Common.{◌∙◌, arith}
use mathlib.Core.List.{List, [], ◌∷◌}
use Rattle.words.specs.Lists.{any_of}
use Rattle.words.specs.TestLaws.{any_append}
use Rattle.recipe.specs.Name.{Binding, Name, bind_name}
use Rattle.recipe.specs.Tree.{Tree, empty, constant, name, pair, names, elements, element, on_names, bind, bind_all}
use Rattle.recipe.specs.TreeLaws.{on_names-element}
use Rattle.recipe.specs.TreeNames.{TreeAll, all-pair, tree_all-both, tree_all-element, uses, uses-element, uses-elements, uses-bind_all, bind_name-number, bind_name-item, bind_name-produced, bind_name-marks}
use Rattle.recipe.specs.Tidy.{Tidy, tidy_pair, tidy-element, tidy-bind_all}
use Rattle.recipe.specs.TableTidy.{IsConstant}
use Rattle.expansion.specs.Rules.{rule_place}
use Rattle.expansion.specs.Forms.{rules_form_of}
use Rattle.private_names_proof.specs.Paths.{sub}
use Rattle.private_names_proof.proofs.PathsLaws.{uses-sub, Headed, headed-uses, headed-element, headed-bind_all}
use Rattle.private_names_proof.specs.Renamed.OldItems.{is_old}
use Rattle.private_names_proof.proofs.Renamed.OldItemsLaws.{old-uses}
use Rattle.private_names_proof.specs.Renamed.{template_in}
use Rattle.private_names_proof.specs.Invariants.AtForm.{InPlace, private_in}
use Rattle.private_names_proof.proofs.Invariants.AtFormLaws.{tree_all-on_names, tidy-each, template_in-on_names, template_in-uses, unused-all, Public}

-- ---- the private items are carried along

old-on_names : (n q : ℕ) (f : Name → Name) → ((x : Name) → (f x).number ≡ x.number) → ((x : Name) → (f x).item ≡ x.item) → (t : Tree) → any_of (is_old n q) (names (on_names f t)) ≡ any_of (is_old n q) (names t)
unfolding any_of names on_names is_old
old-on_names n q f e g empty = refl
old-on_names n q f e g (constant a) = refl
old-on_names n q f e g (name x) = rw (e x, g x)
old-on_names n q f e g (pair h t) =
    any_append (is_old n q) (names (on_names f h)) (names (on_names f t))
    ∙ ap (λ a. a || any_of (is_old n q) (names (on_names f t))) (old-on_names n q f e g h) ∙ ap (λ a. any_of (is_old n q) (names h) || a) (old-on_names n q f e g t)
    ∙ sym (any_append (is_old n q) (names h) (names t))

sub-on_names : (f : Name → Name) (l : List ℕ) (t : Tree) → sub l (on_names f t) ≡ on_names f (sub l t)
unfolding sub
sub-on_names f [] t = refl
sub-on_names f (k ∷ l) t = ap (sub l) (on_names-element f k t) ∙ sub-on_names f l (element k t)

rules_form_of-on_names : (f : Name → Name) (b : ℕ) (t : Tree) → rules_form_of b (on_names f t) ≡ on_names f (rules_form_of b t)
rules_form_of-on_names f b t =
    ap (λ z. element 1 (element b z)) (on_names-element f 1 t) ∙ ap (element 1) (on_names-element f b (element 1 t)) ∙ on_names-element f 1 (element b (element 1 t))

private-on_names : (b j n q : ℕ) (l : List ℕ) (f : Name → Name) → ((x : Name) → (f x).number ≡ x.number) → ((x : Name) → (f x).item ≡ x.item) → (t : Tree)
    → private_in b j n (sub l (on_names f t)) q ≡ private_in b j n (sub l t) q
unfolding private_in
private-on_names b j n q l f e g t =
    ap (λ z. any_of (is_old n q) (names (template_in j (rules_form_of b z)))) (sub-on_names f l t)
    ∙ ap (λ z. any_of (is_old n q) (names (template_in j z))) (rules_form_of-on_names f b (sub l t))
    ∙ ap (λ z. any_of (is_old n q) (names z)) (template_in-on_names f j (rules_form_of b (sub l t)))
    ∙ old-on_names n q f e g (template_in j (rules_form_of b (sub l t)))

-- ---- in place

module _ (N : ℕ → ℕ) where
  in_place-element : (k : ℕ) (t : Tree) → InPlace IsConstant N t → InPlace IsConstant N (element k t)
  in_place-element k t a = record { tidy = tidy-element k a.tidy; unproduced = tree_all-element k a.unproduced; unmarked = tree_all-element k a.unmarked; numbered = tree_all-element k a.numbered; once = λ q. omega (arith, a.once q, uses-element q k t) }

  in_place-pair : (h t : Tree) → InPlace IsConstant N (pair h t) → InPlace IsConstant N h × InPlace IsConstant N t
  unfolding uses
  in_place-pair h t a = go a.tidy a.unproduced a.unmarked a.numbered
    where
      go : Tidy (λ x. Unit {0}) IsConstant (pair h t) → TreeAll (λ x. x.produced ≡ false) (pair h t) → TreeAll (λ x. x.marks ≡ []) (pair h t) → TreeAll (λ x. x.number ≡ N x.item) (pair h t) → InPlace IsConstant N h × InPlace IsConstant N t
      go (tidy_pair x y l) (all-pair u v) (all-pair c d) (all-pair e f) = (
        record { tidy = x; unproduced = u; unmarked = c; numbered = e; once = λ q. omega (arith, a.once q) },
        record { tidy = y; unproduced = v; unmarked = d; numbered = f; once = λ q. omega (arith, a.once q) },
      )

  in_place-bind : (i : Name) (c : Binding) (t : Tree) → InPlace IsConstant N t → InPlace IsConstant N (bind_all (λ k. c) 0 (i ∷ []) t)
  unfolding bind_all bind
  in_place-bind i c t a = record {
    tidy = tidy-bind_all (λ k. c) 0 (i ∷ []) (λ j _ _ x _. tt) a.tidy;
    unproduced = tree_all-on_names (bind_name i c) (λ x e. bind_name-produced i c x ∙ e) a.unproduced;
    unmarked = tree_all-on_names (bind_name i c) (λ x e. bind_name-marks i c x ∙ e) a.unmarked;
    numbered = tree_all-on_names (bind_name i c) (λ x e. bind_name-number i c x ∙ e ∙ ap N (sym (bind_name-item i c x))) a.numbered;
    once = λ q. omega (arith, a.once q, uses-bind_all q (λ k. c) 0 (i ∷ []) t);
  }

-- ---- the form at a place

module _ (N : ℕ → ℕ) (p b j n : ℕ) (private : ℕ → Bool) where
  -- the form stands at l of t, which is in place; the private items are those of its template
  pub record Place (l : List ℕ) (t : Tree) : Type 0 where
    pub headed : Headed p l t
    pub in_place : InPlace IsConstant N t
    pub privates : (q : ℕ) → private q ≡ private_in b j n (sub l t) q

  -- a part without the form
  pub record Elsewhere (t : Tree) : Type 0 where
    pub tidy : Tidy (Public private) IsConstant t
    pub unused : uses p t ≡ 0

  private-uses : (l : List ℕ) (t : Tree) → Place l t → (q : ℕ) → private q ≡ true → 1 ≤ uses q (sub l t)
  unfolding private_in
  private-uses l t i q e =
      let F = sub l t in
      omega (arith, old-uses n q (template_in j (rules_form_of b F)) (sym (i.privates q) ∙ e), template_in-uses q j (rules_form_of b F), uses-element q (rule_place (rules_form_of b F) j) (rules_form_of b F), uses-element q 1 (element b (element 1 F)), uses-element q b (element 1 F), uses-element q 1 F)

  without : (t : Tree) → InPlace IsConstant N t → ((q : ℕ) → private q ≡ true → uses q t ≡ 0) → uses p t ≡ 0 → Elsewhere t
  without t a h u = record { tidy = tidy-each a.tidy (tree_all-both (unused-all private t h) a.unmarked); unused = u }

  pub place-element : (k : ℕ) (l : List ℕ) (t : Tree) → Place (k ∷ l) t → Place l (element k t)
  unfolding sub
  place-element k l t i = record { headed = headed-element p i.headed; in_place = in_place-element N k t i.in_place; privates = i.privates }

  pub place_other : (k : ℕ) (l : List ℕ) (t : Tree) → Place (k ∷ l) t → (m : ℕ) → (m ≡ k → ⊥) → Elsewhere (element m t)
  unfolding sub
  place_other k l t i m d = without (element m t) (in_place-element N m t i.in_place)
      (λ q e. omega (arith, i.in_place.once q, uses-elements q m k t d, private-uses (k ∷ l) t i q e, uses-sub q l (element k t)))
      (omega (arith, i.in_place.once p, uses-elements p m k t d, headed-uses p (headed-element p i.headed)))

  pub place-first : (l : List ℕ) (h t : Tree) → Headed p l h → Place (0 ∷ l) (pair h t) → Place l h × Elsewhere t
  unfolding sub element elements uses
  place-first l h t g i =
      let a = in_place-pair N h t i.in_place in
      let here : Place l h = record { headed = g; in_place = a.0; privates = i.privates } in
      (here, without t a.1 (λ q e. omega (arith, i.in_place.once q, private-uses l h here q e, uses-sub q l h)) (omega (arith, i.in_place.once p, headed-uses p g)))

  pub place-later : (k : ℕ) (l : List ℕ) (h t : Tree) → Headed p (k ∷ l) t → Place (suc k ∷ l) (pair h t) → Elsewhere h × Place (k ∷ l) t
  unfolding sub element elements uses
  place-later k l h t g i =
      let a = in_place-pair N h t i.in_place in
      let here : Place (k ∷ l) t = record { headed = g; in_place = a.1; privates = i.privates } in
      (without h a.0 (λ q e. omega (arith, i.in_place.once q, private-uses (k ∷ l) t here q e, uses-sub q (k ∷ l) t)) (omega (arith, i.in_place.once p, headed-uses p g)), here)

  pub place-bind_all : (f : ℕ → Binding) (k : ℕ) (xs : List Name) (l : List ℕ) (t : Tree) → Place l t → Place l (bind_all f k xs t)
  unfolding bind_all bind
  place-bind_all f k [] l t i = i
  place-bind_all f k (x ∷ xs) l t i = place-bind_all f (suc k) xs l (on_names (bind_name x (f k)) t) (record {
    headed = headed-bind_all p (λ m. f k) 0 (x ∷ []) i.headed;
    in_place = in_place-bind N x (f k) t i.in_place;
    privates = λ q. i.privates q ∙ sym (private-on_names b j n q l (bind_name x (f k)) (bind_name-number x (f k)) (bind_name-item x (f k)) t);
  })
