-- Laws of parts on cells, one for each way through the code.
use Rattle.std.specs.Prelude.{◌≡◌, ℕ, ◌<◌, ◌≤◌, Bool, true, false, ◌||◌, List, [], ◌==◌, ◌≢◌}
use Rattle.std.proofs.Math.Path.{refl}
use Rattle.std.proofs.Common.{sym, ap, ◌∙◌}
use native.Mathlib.Omega.{arith}
use borrow.Author.Tests.{eqb-true, eqb-false}
use Rattle.recipe.specs.Tree.{Tree, empty, element, tail}
use Rattle.expansion.specs.Rules.{Pattern}
use Rattle.expansion.specs.Match.{holds, part}
use Rattle.arena.specs.Arena.{word_at, reference_at}
use Rattle.words.specs.ListLaws.{either}
use Rattle.arena.specs.ArenaLaws.{word_at-some, reference_at-falls}
use Rattle.rule_cells.specs.Cells.{pattern_at}
use Rattle.rule_cells.specs.CellLaws.{pattern_at-variable, pattern_at-literal, pattern_at-wildcard, pattern_at-constant, pattern_at-pair, pattern_at-ellipsis, pattern_at-empty}
use Rattle.arena.specs.Lists.{Means}
use Rattle.arena.specs.ListLaws.{tree_at-none}
use Rattle.environments.specs.Parts.{Holds, After, Part}

-- a pattern that holds no variable
abbrev Bare : Pattern → Type 0
Bare p = (k : ℕ) → (holds k p ≡ false) × ((is : List ℕ) (t : Tree) → part p k is t ≡ empty)

module _ (work : List ℕ) (p tag : ℕ) (tag_is : tag ≡ word_at work p 1) where
  pub tag-some : (tag ≢ 0) → 0 < p
  tag-some h = word_at-some work p 1 (omega arith) (λ z. h (tag_is ∙ z))

  pub tag-falls : (k r : ℕ) → (tag ≢ 0) → r ≡ reference_at work p k → r < p
  tag-falls k r h e = omega (arith, reference_at-falls work p k (tag-some h))

  bare : (tag ≢ 1) → (tag ≢ 6) → (tag ≢ 7) → Bare (pattern_at work p)
  unfolding holds part
  bare a b c =
      either (tag == 2)
      (λ t. rw (pattern_at-literal work p (sym tag_is ∙ eqb-true tag 2 t)) (λ k. (refl, λ is t. refl)))
      (λ t.
      either (tag == 3)
      (λ u. rw (pattern_at-wildcard work p (sym tag_is ∙ eqb-true tag 3 u)) (λ k. (refl, λ is t. refl)))
      (λ u.
      either (tag == 4)
      (λ v. rw (pattern_at-constant work p (sym tag_is ∙ eqb-true tag 4 v)) (λ k. (refl, λ is t. refl)))
      (λ v.
      rw (pattern_at-empty work p (λ z. a (tag_is ∙ z)) (λ z. eqb-false tag 2 t (tag_is ∙ z)) (λ z. eqb-false tag 3 u (tag_is ∙ z)) (λ z. eqb-false tag 4 v (tag_is ∙ z)) (λ z. b (tag_is ∙ z)) (λ z. c (tag_is ∙ z)))
      (λ k. (refl, λ is t. refl)))))

  module _ (k : ℕ) where
    pub holds-variable : (j : ℕ) → tag ≡ 1 → j ≡ word_at work p 2 → Holds work p k (k == j)
    unfolding holds
    holds-variable j e h = rw (h, pattern_at-variable work p (sym tag_is ∙ e)) refl

    pub holds-none : (tag ≢ 1) → (tag ≢ 6) → (tag ≢ 7) → Holds work p k false
    holds-none a b c = sym (bare a b c k).0

    -- a pair's or an ellipsis's
    module _ (head : ℕ) (left : Bool) (low : 6 ≤ tag) (high : tag ≤ 7) (head-is : head ≡ reference_at work p 3) (left_is : Holds work head k left) where
      holds-both : holds k (pattern_at work p) ≡ (left || holds k (pattern_at work (reference_at work p 2)))
      unfolding holds
      holds-both =
          either (tag == 7)
          (λ e. rw (pattern_at-ellipsis work p (sym tag_is ∙ eqb-true tag 7 e), ← head-is, ← left_is) refl)
          (λ e. let s : tag ≡ 6 = omega (arith, eqb-false tag 7 e) in rw (pattern_at-pair work p (sym tag_is ∙ s), ← head-is, ← left_is) refl)

      pub holds-head : left ≡ true → Holds work p k true
      holds-head e = sym (holds-both ∙ rw e refl)

      pub holds-tail : (tail : ℕ) (r : Bool) → left ≡ false → tail ≡ reference_at work p 2 → Holds work tail k r → Holds work p k r
      holds-tail tail r e h c = c ∙ sym (holds-both ∙ rw (e, ← h) refl)

    module _ (u : ℕ) where
      pub part-variable : tag ≡ 1 → Part work p k u u
      unfolding part
      part-variable e = record { is-part = λ w. rw (pattern_at-variable work p (sym tag_is ∙ e)) refl; low = omega arith }

      pub part_none : (tag ≢ 1) → (tag ≢ 6) → (tag ≢ 7) → Part work p k u 0
      part_none a b c = record { is-part = λ w. tree_at-none work w ∙ sym ((bare a b c k).1 _ _); low = omega arith }

      module _ (head : ℕ) (left : Bool) (pair : tag ≡ 6) (head-is : head ≡ reference_at work p 3) (left_is : Holds work head k left) (v r : ℕ) where
        pub part-head : left ≡ true → Means work u v (element 0) → Part work head k v r → Part work p k u r
        unfolding part
        part-head e m c =
            record {
              is-part = λ w.
                  c.is-part w
                  ∙ rw (pattern_at-pair work p (sym tag_is ∙ pair), ← head-is, ← left_is, e) (ap (part (pattern_at work head) k []) (m.is w));
              low = omega (arith, c.low, m.low);
            }

        pub part-tail : (rest : ℕ) → left ≡ false → rest ≡ reference_at work p 2 → Means work u v tail → Part work rest k v r → Part work p k u r
        unfolding part
        part-tail rest e h m c =
            record {
              is-part = λ w.
                  c.is-part w
                  ∙ rw (pattern_at-pair work p (sym tag_is ∙ pair), ← head-is, ← left_is, e, ← h) (ap (part (pattern_at work rest) k []) (m.is w));
              low = omega (arith, c.low, m.low);
            }

      -- an ellipsis: the list, or what its rest takes of what follows
      module _ (head : ℕ) (left : Bool) (ellipsis : tag ≡ 7) (head-is : head ≡ reference_at work p 3) (left_is : Holds work head k left) where
        pub part-list : left ≡ true → Part work p k u u
        unfolding part
        part-list e = record { is-part = λ w. rw (pattern_at-ellipsis work p (sym tag_is ∙ ellipsis), ← head-is, ← left_is, e) refl; low = omega arith }

        pub part-after : (rest v r : ℕ) → left ≡ false → rest ≡ reference_at work p 2 → After work p u v → Part work rest k v r → Part work p k u r
        unfolding part
        part-after rest v r e h m d =
            record {
              is-part = λ w.
                  d.is-part w
                  ∙ rw (pattern_at-ellipsis work p (sym tag_is ∙ ellipsis), ← head-is, ← left_is, e, ← h) (ap (part (pattern_at work rest) k []) (m.is w));
              low = omega (arith, d.low, m.low);
            }

-- what variable k takes of the node by the pattern at `at`, it takes of the use by the whole pattern
abbrev pub Leads : (work : List ℕ) (p k u at node : ℕ) → Type 0
Leads work p k u at node = (r : ℕ) → Part work at k node r → Part work p k u r
