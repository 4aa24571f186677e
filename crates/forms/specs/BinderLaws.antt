-- Laws of the names that a list binds, one for each way through the code.
use Rattle.std.specs.Prelude.{◌≡◌, Bool, false, List, [], ◌∷◌, ℕ, ◌<◌, eqb}
use Rattle.std.proofs.Math.Path.{refl, sym}
use Rattle.std.proofs.Common.{◌∙◌, arith, eqb-true}
use Rattle.std.proofs.Math.Bool.{true}
use Rattle.std.proofs.lemmas.Bool.{eqb-false}
use Rattle.words.specs.Lists.{any_of}
use Rattle.words.specs.ListLaws.{never, either}
use Rattle.words.specs.TestLaws.{and_right, all-parts}
use Rattle.recipe.specs.Name.{Name, same, distinct}
use Rattle.recipe.specs.Tree.{Tree, name, pair, names, is_ordinary_name, is_list_of, elements, element}
use Rattle.expansion.specs.Forms.{is_macro}
use Rattle.arena.specs.Arena.{word_at, reference_at, name_at, tree_at}
use Rattle.arena.specs.ArenaLaws.{word_at-some, reference_at-falls}
use Rattle.arena.specs.NodeLaws.{tree_at-name}
use Rattle.arena.specs.Lists.{Means}
use Rattle.arena.specs.ListLaws.{no-pair, a_pair, ordinary-other}
use Rattle.forms.specs.Shapes.{own_name, binds_one}
use Rattle.forms.specs.Binders.{AllNames, own_names, names_in, Opened}
use Rattle.forms.specs.declared.shapes.Bound.{Bound}
use Rattle.forms.specs.declared.shapes.Bound.TheVariants.{Formals, Keywords}

-- ---- names

ordinary-name : (work : List ℕ) (node w : ℕ) → is_ordinary_name (tree_at work node w) ≡ true → tree_at work node w ≡ name (name_at work node w)
ordinary-name work node w h =
    either (eqb (word_at work node 3) 3)
    (λ t. tree_at-name work node w (eqb-true (word_at work node 3) 3 t))
    (λ t. never h (sym (ordinary-other work node (word_at work node 3) refl (eqb-false (word_at work node 3) 3 t) w)))

-- an element that binds as it should has an ordinary name
pub binds-ordinary : (bound : Bound) (c : Tree) → binds_one bound c ≡ true → is_ordinary_name (own_name bound c) ≡ true
unfolding binds_one own_name is_macro
binds-ordinary Formals c h = h
binds-ordinary Keywords c h = and_right (is_list_of 2 c) (is_ordinary_name (element 0 c)) h

module _ (work : List ℕ) (list kind : ℕ) (kind-is : kind ≡ word_at work list 3) (w : ℕ) (bound : Bound) where
  -- the list's tree, and another's under the same wrap
  abbrev at : ℕ → Tree
  at node = tree_at work node w

  pub names-none : (kind ≡ 4 → ⊥) → names_in bound (at list) ≡ []
  unfolding names_in elements own_names
  names-none other = no-pair work list kind kind-is (λ t. names_in bound t ≡ []) refl (λ x. refl) (λ a. refl) other w

  module _ (a-list : kind ≡ 4) where
    part_falls : (k rest : ℕ) → rest ≡ reference_at work list k → rest < list
    part_falls k rest e =
        let some : 0 < list = word_at-some work list 3 (omega arith) (λ z. omega (arith, kind-is ∙ z)) in
        rw e (reference_at-falls work list k some)

    rest-names : AllNames bound (at list) → (rest : ℕ) → rest ≡ reference_at work list 1 → AllNames bound (at rest)
    unfolding elements
    rest-names h rest e =
        let g : AllNames bound (pair (at (reference_at work list 2)) (at (reference_at work list 1))) = rw (a_pair work list kind kind-is a-list w) at h in
        rw e (all-parts (binds_one bound) (at (reference_at work list 2)) (elements (at (reference_at work list 1))) g).1

    first-name : AllNames bound (at list) → (first own : ℕ) → first ≡ reference_at work list 2 → Means work first own (own_name bound) → own_name bound (at first) ≡ name (name_at work own w)
    unfolding elements
    first-name h first own e p =
        let g : AllNames bound (pair (at (reference_at work list 2)) (at (reference_at work list 1))) = rw (a_pair work list kind kind-is a-list w) at h in
        let b : binds_one bound (at first) ≡ true = rw e (all-parts (binds_one bound) (at (reference_at work list 2)) (elements (at (reference_at work list 1))) g).0 in
        sym (p.is w) ∙ ordinary-name work own w (rw (p.is w) (binds-ordinary bound (at first) b))

    names_more : AllNames bound (at list) → (first own rest : ℕ) → first ≡ reference_at work list 2 → Means work first own (own_name bound) → rest ≡ reference_at work list 1 → names_in bound (at list) ≡ name_at work own w ∷ names_in bound (at rest)
    unfolding names_in elements own_names names
    names_more h first own rest e p q =
        rw (a_pair work list kind kind-is a-list w, sym e, sym q, first-name h first own e p)

    pub opened : AllNames bound (at list) → (first own rest : ℕ) → first ≡ reference_at work list 2 → Means work first own (own_name bound) → rest ≡ reference_at work list 1 → Opened work list w bound own rest
    opened h first own rest e p q =
        record {
          own-low = omega (arith, p.low, part_falls 2 first e);
          rest-low = part_falls 1 rest q;
          names-are = names_more h first own rest e p q;
          ordinary = rest-names h rest q;
        }

-- ---- sameness

pub among_none : (x : Name) (xs : List Name) → xs ≡ [] → false ≡ any_of (same x) xs
unfolding any_of
among_none x xs e = rw e

pub among_first : (x y : Name) (xs ys : List Name) (r : Bool) → xs ≡ y ∷ ys → r ≡ same x y → r ≡ true → true ≡ any_of (same x) xs
unfolding any_of
among_first x y xs ys r e s t = rw (e, sym s ∙ t)

pub among_later : (x y : Name) (xs ys : List Name) (r : Bool) → xs ≡ y ∷ ys → r ≡ same x y → r ≡ false → any_of (same x) xs ≡ any_of (same x) ys
unfolding any_of
among_later x y xs ys r e s t = rw (e, ← s, t) refl

pub distinct_none : (xs : List Name) → xs ≡ [] → true ≡ distinct xs
unfolding distinct
distinct_none xs e = rw e

pub distinct-not : (y : Name) (xs ys : List Name) (r : Bool) → xs ≡ y ∷ ys → r ≡ any_of (same y) ys → r ≡ true → false ≡ distinct xs
unfolding distinct
distinct-not y xs ys r e s t = rw (e, sym s ∙ t)

pub distinct-later : (y : Name) (xs ys : List Name) (r : Bool) → xs ≡ y ∷ ys → r ≡ any_of (same y) ys → r ≡ false → distinct xs ≡ distinct ys
unfolding distinct
distinct-later y xs ys r e s t = rw (e, ← s, t) refl
