-- Laws of shapes, one for each way through the code.
use Rattle.std.specs.Prelude.{◌≡◌, refl, Bool, ◌&&◌, List}
use Rattle.std.proofs.Math.Path.{sym}
use Rattle.std.proofs.Common.{ap, ◌∙◌}
use Rattle.std.proofs.Math.Bool.{true, false, and-false}
use Prim.Native.Nat.{ℕ, zero, suc, ◌-◌}
use native.Mathlib.Omega.{arith}
use Rattle.std.proofs.Math.Dec.{leb, leb-zero, leb-suc-zero, leb-suc-suc}
use Rattle.std.proofs.Math.ListN.{length}
use borrow.Author.Tests.{le-leb}
use Rattle.words.specs.Lists.{within, all_of}
use Rattle.recipe.specs.Tree.{pair, is_ordinary_name, is_list, is_list_of, on_empty, on_pair, elements, element}
use Rattle.expansion.specs.Forms.{is_lambda, is_macro, is_macros}
use Rattle.arena.specs.Arena.{word_at, reference_at, tree_at}
use Rattle.arena.specs.Lists.{Means, Tests}
use Rattle.arena.specs.ListLaws.{no-pair, a_pair}
use Rattle.forms.specs.Shapes.{own_name, binds_one, binds_all}
use Rattle.forms.specs.declared.shapes.Bound.{Bound}
use Rattle.forms.specs.declared.shapes.Bound.TheVariants.{Formals, Keywords}

-- ---- what an element binds

pub own-macro : (work : List ℕ) (node r : ℕ) (bound : Bound) → bound ≡ Keywords → Means work node r (element 0) → Means work node r (own_name bound)
unfolding own_name
own-macro work node r bound e p = rw e (record { low = p.low; is = p.is })

pub own-formal : (work : List ℕ) (node : ℕ) (bound : Bound) → bound ≡ Formals → Means work node node (own_name bound)
unfolding own_name
own-formal work node bound e = rw e (record { low = omega arith; is = λ w. refl })

module _ (work : List ℕ) (node : ℕ) (listed : Bool) (list_of : Tests (is_list_of 2) work node listed) where
  pub macro-shape : listed ≡ false → Tests is_macro work node false
  unfolding is_macro
  macro-shape e w = rw (sym (list_of w) ∙ e)

  pub macro-name : listed ≡ true → (own : ℕ) (r : Bool) → Means work node own (element 0) → Tests is_ordinary_name work own r → Tests is_macro work node r
  unfolding is_macro
  macro-name e own r p h w = h w ∙ rw (sym (list_of w) ∙ e, p.is w)

pub one-macro : (work : List ℕ) (node : ℕ) (bound : Bound) (r : Bool) → bound ≡ Keywords → Tests is_macro work node r → Tests (binds_one bound) work node r
unfolding binds_one
one-macro work node bound r e h = rw e h

pub one-formal : (work : List ℕ) (node : ℕ) (bound : Bound) (r : Bool) → bound ≡ Formals → Tests is_ordinary_name work node r → Tests (binds_one bound) work node r
unfolding binds_one
one-formal work node bound r e h = rw e h

-- ---- all of a list

-- all of the list bind, at most so many, where all of the node do, at most as many as are left
abbrev pub AllLeft : (work : List ℕ) (bound : Bound) (list most node left : ℕ) → Type 0
AllLeft work bound list most node left = (w : ℕ) → binds_all bound most (tree_at work list w) ≡ binds_all bound left (tree_at work node w)

module _ (work : List ℕ) (bound : Bound) (list most node left : ℕ) (inv : AllLeft work bound list most node left) (kind : ℕ) (kind-is : kind ≡ word_at work node 3) where
  pub all_none : (kind ≡ 4 → ⊥) → Tests (binds_all bound most) work list true
  unfolding binds_all elements all_of
  all_none other w =
      let none : true ≡ leb 0 left = sym (leb-zero left) in
      no-pair work node kind kind-is (λ t. true ≡ binds_all bound left t) none (λ x. none) (λ a. none) other w ∙ sym (inv w)

  module _ (a-list : kind ≡ 4) where
    pub all-over : left ≡ 0 → Tests (binds_all bound most) work list false
    unfolding binds_all elements
    all-over z w =
        let h = tree_at work (reference_at work node 2) w in
        let t = tree_at work (reference_at work node 1) w in
        sym (inv w ∙ rw (a_pair work node kind kind-is a-list w, z, leb-suc-zero (length (elements t))) (and-false (all_of (binds_one bound) (elements (pair h t)))))

    module _ (first : ℕ) (r : Bool) (first-is : first ≡ reference_at work node 2) (binds : Tests (binds_one bound) work first r) where
      pub all_first : r ≡ false → Tests (binds_all bound most) work list false
      unfolding binds_all elements all_of
      all_first e w = sym (inv w ∙ rw (a_pair work node kind kind-is a-list w, ← first-is, ← binds w, e) refl)

      pub all-later : (rest : ℕ) → r ≡ true → (left ≡ 0 → ⊥) → rest ≡ reference_at work node 1 → AllLeft work bound list most rest (left - 1)
      unfolding binds_all elements all_of
      all-later rest e z l w =
          let n : ℕ = length (elements (tree_at work rest w)) in
          inv w ∙ rw (a_pair work node kind kind-is a-list w, ← first-is, ← binds w, e, ← l) (ap (λ (b : Bool). all_of (binds_one bound) (elements (tree_at work rest w)) && b) (one_less n left z))
        where
          one_less : (n k : ℕ) → (k ≡ 0 → ⊥) → leb (suc n) k ≡ leb n (k - 1)
          one_less n zero h = absurd (h refl)
          one_less n (suc k) h =
              let d : suc k - 1 ≡ k = omega arith in
              rw d (leb-suc-suc n k)

-- ---- forms

module _ (work : List ℕ) (node : ℕ) (listed : Bool) (list_of : Tests (is_list_of 3) work node listed) where
  pub lambda-shape : listed ≡ false → Tests is_lambda work node false
  unfolding is_lambda
  lambda-shape e w = rw (sym (list_of w) ∙ e)

  pub macros-shape : (limit : ℕ) → listed ≡ false → Tests (is_macros limit) work node false
  unfolding is_macros
  macros-shape limit e w = rw (sym (list_of w) ∙ e)

  module _ (list : ℕ) (part : Means work node list (element 1)) where
    pub lambda-list : (r : Bool) → Tests is_list work list r → r ≡ false → Tests is_lambda work node false
    unfolding is_lambda
    lambda-list r h e w = rw (sym (part.is w), sym (h w) ∙ e) (sym (and-false (is_list_of 3 (tree_at work node w))))

    pub lambda-all : listed ≡ true → (r s : Bool) → Tests is_list work list r → r ≡ true → Tests (binds_all Formals 8) work list s → Tests is_lambda work node s
    unfolding is_lambda binds_all binds_one
    lambda-all e r s h d g w = g w ∙ rw (sym (list_of w) ∙ e, sym (part.is w), sym (h w) ∙ d)

    module _ (kind : ℕ) (kind-is : kind ≡ word_at work list 3) (limit : ℕ) where
      pub macros-none : (kind ≡ 4 → ⊥) → Tests (is_macros limit) work node false
      unfolding is_macros is_list on_empty on_pair elements all_of within
      macros-none other w =
          rw (sym (part.is w))
          (no-pair work list kind kind-is (λ t. false ≡ (is_list_of 3 (tree_at work node w) && (is_list t && (all_of is_macro (elements t) && within 1 limit (length (elements t))))))
          none (λ x. none) (λ a. none) other w)
        where
          none : false ≡ (is_list_of 3 (tree_at work node w) && false)
          none = sym (and-false (is_list_of 3 (tree_at work node w)))

      pub macros-all : listed ≡ true → (s : Bool) → kind ≡ 4 → Tests (binds_all Keywords limit) work list s → Tests (is_macros limit) work node s
      unfolding is_macros is_list on_empty on_pair elements binds_all binds_one within
      macros-all e s p g w =
          let n : ℕ = length (elements (tree_at work (reference_at work list 1) w)) in
          g w ∙ rw (sym (list_of w) ∙ e, sym (part.is w), a_pair work list kind kind-is p w, le-leb 1 (suc n) (omega arith))
