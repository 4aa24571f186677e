-- A pattern's cell by its tag.
use Rattle.std.specs.Prelude.{◌≡◌, ℕ, ◌<◌, List, ◌==◌, ◌≢◌}
use Rattle.std.proofs.Common.{sym, subst, ◌∙◌, arith, eqb-true}
use Rattle.std.proofs.lemmas.Bool.{eqb-false}
use Rattle.words.specs.ListLaws.{either}
use Rattle.expansion.specs.Rules.{Pattern, variable_p, literal_p, wildcard_p, constant_p, empty_p, pair_p, ellipsis_p}
use Rattle.arena.specs.Arena.{word_at, reference_at}
use Rattle.arena.specs.ArenaLaws.{word_at-some, reference_at-falls}
use Rattle.rule_cells.specs.Cells.{pattern_at}
use Rattle.rule_cells.specs.CellLaws.{pattern_at-variable, pattern_at-literal, pattern_at-wildcard, pattern_at-constant, pattern_at-pair, pattern_at-ellipsis, pattern_at-empty}

module _ (work : List ℕ) (p tag : ℕ) (tag_is : tag ≡ word_at work p 1) where
  pub part_falls : (k r : ℕ) → (tag ≢ 0) → r ≡ reference_at work p k → r < p
  part_falls k r h e = omega (arith, reference_at-falls work p k (word_at-some work p 1 (omega arith) (λ z. h (tag_is ∙ z))))

  pub variable-is : tag ≡ 1 → pattern_at work p ≡ variable_p (word_at work p 2)
  variable-is e = pattern_at-variable work p (sym tag_is ∙ e)

  -- what is so of a pattern without variables and parts
  pub other-is : (P : Pattern → Type 0) → ((x : _) → P (literal_p x)) → P wildcard_p → ((a : _) → P (constant_p a)) → P empty_p → (tag ≢ 1) → (tag ≢ 6) → (tag ≢ 7) → P (pattern_at work p)
  other-is P for_literal for_wildcard for_constant for_empty a b c =
      either (tag == 2)
      (λ t. subst P (sym (pattern_at-literal work p (sym tag_is ∙ eqb-true tag 2 t))) (for_literal _))
      (λ t.
      either (tag == 3)
      (λ u. subst P (sym (pattern_at-wildcard work p (sym tag_is ∙ eqb-true tag 3 u))) for_wildcard)
      (λ u.
      either (tag == 4)
      (λ v. subst P (sym (pattern_at-constant work p (sym tag_is ∙ eqb-true tag 4 v))) (for_constant _))
      (λ v.
      subst P
      (sym (pattern_at-empty work p (λ z. a (tag_is ∙ z)) (λ z. eqb-false tag 2 t (tag_is ∙ z)) (λ z. eqb-false tag 3 u (tag_is ∙ z)) (λ z. eqb-false tag 4 v (tag_is ∙ z)) (λ z. b (tag_is ∙ z)) (λ z. c (tag_is ∙ z))))
      for_empty)))

  module _ (head rest : ℕ) (head-is : head ≡ reference_at work p 3) (rest-is : rest ≡ reference_at work p 2) where
    pub pair_is : tag ≡ 6 → pattern_at work p ≡ pair_p (pattern_at work head) (pattern_at work rest)
    pair_is e = rw (head-is, rest-is) (pattern_at-pair work p (sym tag_is ∙ e))

    pub ellipsis-is : tag ≡ 7 → pattern_at work p ≡ ellipsis_p (pattern_at work head) (word_at work p 4) (pattern_at work rest)
    ellipsis-is e = rw (head-is, rest-is) (pattern_at-ellipsis work p (sym tag_is ∙ e))
