-- A template's cell by its tag.
use Rattle.std.specs.Prelude.{◌≡◌, ℕ, true, List, ◌==◌, ◌≢◌, refl}
use Rattle.std.proofs.Common.{sym, subst, ◌∙◌, eqb-true}
use Rattle.std.proofs.lemmas.Bool.{eqb-false}
use Rattle.words.specs.ListLaws.{either}
use Rattle.expansion.specs.Rules.{Template, variable_t, insert_t, constant_t, empty_t, pair_t, ellipsis_t}
use Rattle.arena.specs.Arena.{word_at, reference_at}
use Rattle.rule_cells.specs.Cells.{template_at}
use Rattle.rule_cells.specs.CellLaws.{template_at-variable, template_at-insert, template_at-constant, template_at-pair, template_at-ellipsis, template_at-empty}
use Rattle.environments.specs.Environment.{Environment, agree_by}

-- a template's cell without parts
pub leaf-other : (P : Template → Type 0) → ((x : _) → P (insert_t x)) → ((a : _) → P (constant_t a)) → P empty_t
    → (work : List ℕ) (t tag : ℕ) → tag ≡ word_at work t 1 → (tag ≢ 1) → (tag ≢ 6) → (tag ≢ 7) → P (template_at work t)
leaf-other P for_insert for_constant for_empty work t tag tag_is n1 n6 n7 =
    either (tag == 2)
    (λ b. subst P (sym (template_at-insert work t (sym tag_is ∙ eqb-true tag 2 b))) (for_insert _))
    (λ b.
    either (tag == 4)
    (λ c. subst P (sym (template_at-constant work t (sym tag_is ∙ eqb-true tag 4 c))) (for_constant _))
    (λ c.
    subst P
    (sym (template_at-empty work t (λ z. n1 (tag_is ∙ z)) (λ z. eqb-false tag 2 b (tag_is ∙ z)) (λ z. eqb-false tag 4 c (tag_is ∙ z)) (λ z. n6 (tag_is ∙ z)) (λ z. n7 (tag_is ∙ z))))
    for_empty))

leaf-cell : (P : Template → Type 0) → ((k d : ℕ) → P (variable_t k d)) → ((x : _) → P (insert_t x)) → ((a : _) → P (constant_t a)) → P empty_t
    → (work : List ℕ) (t tag : ℕ) → tag ≡ word_at work t 1 → (tag ≢ 6) → (tag ≢ 7) → P (template_at work t)
leaf-cell P for_variable for_insert for_constant for_empty work t tag tag_is n6 n7 =
    either (tag == 1)
    (λ a. subst P (sym (template_at-variable work t (sym tag_is ∙ eqb-true tag 1 a))) (for_variable _ _))
    (λ a. leaf-other P for_insert for_constant for_empty work t tag tag_is (eqb-false tag 1 a) n6 n7)

-- ---- a cell with parts

module _ (work : List ℕ) (t tag head rest : ℕ) (tag_is : tag ≡ word_at work t 1) (head-is : head ≡ reference_at work t 3) (rest-is : rest ≡ reference_at work t 2) where
  pub pair_is : tag ≡ 6 → template_at work t ≡ pair_t (template_at work head) (template_at work rest)
  pair_is e = template_at-pair work t (sym tag_is ∙ e) ∙ rw (head-is, rest-is) refl

  pub ellipsis-is : tag ≡ 7 → template_at work t ≡ ellipsis_t (template_at work head) (template_at work rest)
  ellipsis-is e = template_at-ellipsis work t (sym tag_is ∙ e) ∙ rw (head-is, rest-is) refl

-- a cell without parts compares nothing
pub leaf-agrees : (work : List ℕ) (t tag : ℕ) → tag ≡ word_at work t 1 → (tag ≢ 6) → (tag ≢ 7) → (v : Environment) → true ≡ agree_by v (template_at work t)
unfolding agree_by
leaf-agrees work t tag tag_is n6 n7 v = leaf-cell (λ s. true ≡ agree_by v s) (λ k d. refl) (λ y. refl) (λ a. refl) refl work t tag tag_is n6 n7
