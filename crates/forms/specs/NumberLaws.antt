-- The numbers of a lambda's names in the core table, one after another, whatever waits on the list.
use Rattle.std.specs.Prelude.{◌≡◌, refl, List, [], ◌∷◌, ◌++◌, map, ℕ, ◌+◌, ◌≤◌, ◌<◌, length, set}
use Rattle.std.proofs.Common.{sym, ap, ◌∙◌, append_assoc, append-nil, arith, length-set}
use Rattle.std.proofs.lemmas.List.Edits.{sets-eq}
use Rattle.recipe.specs.Tree.{Tree}
use Rattle.arena.specs.Arena.{word_at, reference_at, tree_at, number_of}
use Rattle.arena.specs.NodeLaws.{name_at-number}
use Rattle.arena.specs.Lists.{Means}
use Rattle.forms.specs.Shapes.{own_name}
use Rattle.forms.specs.Binders.{AllNames, names_in, Opened}
use Rattle.forms.specs.BinderLaws.{opened, names-none}
use Rattle.forms.specs.Quotes.{Written}
use Rattle.forms.specs.QuoteLaws.{written_none, written_then, written_as}
use Rattle.forms.specs.declared.shapes.Bound.TheVariants.{Formals}

-- the numbers of the names that a lambda's list binds
abbrev pub numbers_in : Tree → List ℕ
numbers_in t = map (λ x. x.number) (names_in Formals t)

-- the numbers before `node` have been put from `at` on
pub record Putting (work : List ℕ) (list v at : ℕ) (old : List ℕ) (node n : ℕ) (new : List ℕ) : Type 0 where
  pub ordinary : AllNames Formals (tree_at work node v)
  pub sofar : List ℕ
  pub whole : (w : ℕ) → AllNames Formals (tree_at work list w) → AllNames Formals (tree_at work node w) × (numbers_in (tree_at work list w) ≡ sofar ++ numbers_in (tree_at work node w))
  pub written : Written sofar old new at n
  pub room : n + length (names_in Formals (tree_at work node v)) ≤ length old
  pub same : length new ≡ length old

module _ (work : List ℕ) (list v at : ℕ) (old : List ℕ) where
  pub putting-begins : AllNames Formals (tree_at work list v) → at + length (names_in Formals (tree_at work list v)) ≤ length old → Putting work list v at old list at old
  putting-begins h r = record { ordinary = h; sofar = []; whole = λ w k. (k, refl); written = written_none old at; room = r; same = refl }

  module _ (node n : ℕ) (new : List ℕ) (p : Putting work list v at old node n new) (kind : ℕ) (kind-is : kind ≡ word_at work node 3) where
    pub putting-ends : (kind ≡ 4 → ⊥) → (w : ℕ) → AllNames Formals (tree_at work list w) → Written (numbers_in (tree_at work list w)) old new at n
    putting-ends other w h =
        let none : numbers_in (tree_at work node w) ≡ [] = ap (map (λ x. x.number)) (names-none work node kind kind-is w Formals other) in
        written_as p.sofar (numbers_in (tree_at work list w)) old new at n (sym ((p.whole w h).1 ∙ ap (λ (l : List ℕ). p.sofar ++ l) none ∙ append-nil p.sofar)) p.written

    module _ (a-list : kind ≡ 4) (first own rest number : ℕ) (first-is : first ≡ reference_at work node 2) (own_is : Means work first own (own_name Formals)) (rest-is : rest ≡ reference_at work node 1) (number_is : number ≡ number_of work own) where
      open_at : (w : ℕ) → AllNames Formals (tree_at work node w) → Opened work node w Formals own rest
      open_at w h = opened work node kind kind-is w Formals a-list h first own rest first-is own_is rest-is

      numbers-are : (w : ℕ) → AllNames Formals (tree_at work node w) → numbers_in (tree_at work node w) ≡ number ∷ numbers_in (tree_at work rest w)
      numbers-are w h = ap (map (λ x. x.number)) (open_at w h).names-are ∙ ap (λ (k : ℕ). k ∷ numbers_in (tree_at work rest w)) (name_at-number work own w ∙ sym number_is)

      pub putting-room : n < length new
      putting-room = omega (arith, p.room, p.same, ap length (open_at v p.ordinary).names-are)

      pub putting-falls : rest < node
      putting-falls = (open_at v p.ordinary).rest-low

      pub putting-more : Putting work list v at old rest (n + 1) (set new n number)
      putting-more =
          let one : Written (number ∷ []) new (set new n number) n (n + 1) = record { end = refl; words = sets-eq (number ∷ []) new n (omega (arith, putting-room)) } in
          record {
            ordinary = (open_at v p.ordinary).ordinary;
            sofar = p.sofar ++ (number ∷ []);
            whole = λ w h.
                let k = p.whole w h in
                ((open_at w k.0).ordinary, k.1 ∙ ap (λ (l : List ℕ). p.sofar ++ l) (numbers-are w k.0) ∙ sym (append_assoc p.sofar (number ∷ []) (numbers_in (tree_at work rest w))));
            written = written_then at old p.sofar (number ∷ []) new (set new n number) n (n + 1) (omega (arith, p.room)) p.written one;
            room = omega (arith, p.room, ap length (open_at v p.ordinary).names-are);
            same = length-set new n number ∙ p.same;
          }
