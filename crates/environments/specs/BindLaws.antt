-- Laws of the environment of a pattern and a use, as a table: one for each way through the code.
use Rattle.std.specs.Prelude.{◌≡◌, ℕ, ◌≤◌, Bool, true, false, cond, ◌&&◌, ◌||◌, List, ◌==◌, ◌≢◌}
use Rattle.std.proofs.Math.Path.{refl, sym, ap}
use Rattle.std.proofs.Common.{subst, ◌∙◌, true≢false, arith}
use Rattle.std.proofs.lemmas.Bool.{false≢true}
use borrow.Author.Tests.{eqb-true, eqb-false, ne_eqb}
use Rattle.words.specs.ListLaws.{either}
use Rattle.words.specs.Limits.{pattern_variables_most}
use Rattle.recipe.specs.Tree.{element, tail}
use Rattle.expansion.specs.Rules.{variable_p, pair_p, ellipsis_p}
use Rattle.expansion.specs.Match.{holds, part}
use Rattle.arena.specs.Arena.{word_at, reference_at}
use Rattle.arena.specs.ArenaLaws.{word_at-none, reference_at-most}
use Rattle.arena.specs.Lists.{Means}
use Rattle.rule_cells.specs.Cells.{pattern_at}
use Rattle.rule_cells.specs.CellLaws.{pattern_at-variable, pattern_at-pair, pattern_at-ellipsis}
use Rattle.environments.specs.declared.environment.Entry.{Entry}
use Rattle.environments.specs.PartLaws.{holds-none}
use Rattle.environments.specs.Environment.{entered, entered_next, taking, environment}
use Rattle.environments.specs.Entries.{entry_at, ellipsis_in, taking_of, Low, Stored}
use Rattle.environments.specs.EntryLaws.{ellipsis_in-some}
use Rattle.environments.specs.Bind.{bound, BindsOne, second_of, inner_second, BindsList, Binds}
use Rattle.environments.specs.Parts.{After}

-- ---- one variable

module _ (k : ℕ) (x : Entry) (old : List ℕ) where
  pub one-past : pattern_variables_most ≤ k → BindsOne k x old old
  one-past h = record { here = λ l. absurd (omega arith); other = λ m o. refl; low = λ b l u. u }

  pub one-stored : (new : List ℕ) → Stored k x old new → BindsOne k x old new
  one-stored new s = record { here = λ l. s.here; other = s.other; low = s.low }

bound-low : (node first second b : ℕ) → node ≤ b → first ≤ b → second ≤ b → Low (bound node first second) b
unfolding bound
bound-low node first second b p q r =
    record { whole-low = p; one-low = p; two-low = p; first-low = q; second-low = r; along-low = omega arith; across-low = omega arith }

-- a cell that holds a variable is no cell 0
some-cell : (work : List ℕ) (p k : ℕ) → holds k (pattern_at work p) ≡ true → p ≢ 0
some-cell work p k h e =
    let tag-none : word_at work p 1 ≡ 0 = ap (λ (n : ℕ). word_at work n 1) e ∙ word_at-none work 1 (omega arith) in
    let n : false ≡ holds k (pattern_at work p) = holds-none work p _ refl k (λ z. omega arith) (λ z. omega arith) (λ z. omega arith) in
    let z : ◌≡◌ {A = ℕ} 0 1 = ap (λ b. cond b 1 0) (n ∙ h) in omega arith

both_false : (a b : Bool) → a || b ≡ false → (a ≡ false) × (b ≡ false)
both_false true b h = absurd (true≢false h)
both_false false b h = (refl, h)

-- ---- the second ellipsis inside an element

-- a variable has none of its own
variable-second : (work : List ℕ) (second k j : ℕ) → ellipsis_in work second ≡ second_of work second k (variable_p j)
unfolding second_of entered ellipsis_in
variable-second work second k j = either (second == 0) (λ e. rw e refl) (λ e. rw e refl)

pub inner-plain : (tag p second : ℕ) → (tag ≢ 7) → second ≡ inner_second tag p second
unfolding inner_second
inner-plain tag p second n = rw (ne_eqb tag 7 n) refl

pub inner-known : (tag p second : ℕ) → tag ≡ 7 → (second ≢ 0) → second ≡ inner_second tag p second
unfolding inner_second
inner-known tag p second e n = rw (e, ne_eqb second 0 n) refl

pub inner-own : (tag p second : ℕ) → tag ≡ 7 → second ≡ 0 → p ≡ inner_second tag p second
unfolding inner_second
inner-own tag p second e z = rw (e, z) refl

-- ---- the variables of an element, and of a pattern

module _ (work : List ℕ) (p tag : ℕ) (tag_is : tag ≡ word_at work p 1) (old : List ℕ) where
  module _ (list first second : ℕ) where
    pub list-none : (tag ≢ 1) → (tag ≢ 6) → (tag ≢ 7) → BindsList work p list first second old old
    list-none a b c =
        record {
          held = λ k l h. absurd (false≢true (holds-none work p tag tag_is k a b c ∙ h));
          other = λ k h. refl;
          low = λ b p q r s u. u;
        }

    module _ (new : List ℕ) where
      pub list-variable : (j : ℕ) → tag ≡ 1 → j ≡ word_at work p 2 → BindsOne j (bound list first second) old new → BindsList work p list first second old new
      unfolding holds bound
      list-variable j e j-is c =
          record {
            held = λ k l h.
                let s : k ≡ j = eqb-true k j (rw (pattern_at-variable work p (sym tag_is ∙ e), ← j-is) at h) in
                let is : entry_at new k ≡ bound list first second = ap (entry_at new) s ∙ c.here (omega arith) in
                (is ∙ rw is refl, rw (is, pattern_at-variable work p (sym tag_is ∙ e)) (variable-second work second k _));
            other = λ k h. c.other k (eqb-false k j (rw (pattern_at-variable work p (sym tag_is ∙ e), ← j-is) at h));
            low = λ b q r s t u. c.low b (bound-low list first second b r s t) u;
          }

  -- a pair or an ellipsis: first the rest, then the head
  module _ (head rest : ℕ) (rest-is : rest ≡ reference_at work p 2) (head-is : head ≡ reference_at work p 3) (mid new : List ℕ) where
    module _ (low : 6 ≤ tag) (high : tag ≤ 7) where
      both_is : (k : ℕ) → holds k (pattern_at work p) ≡ (holds k (pattern_at work head) || holds k (pattern_at work rest))
      unfolding holds
      both_is k =
          either (tag == 7)
          (λ e. rw (head-is, rest-is) (ap (holds k) (pattern_at-ellipsis work p (sym tag_is ∙ eqb-true tag 7 e))))
          (λ e. let s : tag ≡ 6 = omega (arith, eqb-false tag 7 e) in rw (head-is, rest-is) (ap (holds k) (pattern_at-pair work p (sym tag_is ∙ s))))

      neither : (k : ℕ) → holds k (pattern_at work p) ≡ false → (holds k (pattern_at work head) ≡ false) × (holds k (pattern_at work rest) ≡ false)
      neither k h = both_false _ _ (sym (both_is k) ∙ h)

      -- the second ellipsis over a variable of the head, and of the rest
      second_head : (second k : ℕ) → holds k (pattern_at work head) ≡ true → second_of work (inner_second tag p second) k (pattern_at work head) ≡ second_of work second k (pattern_at work p)
      unfolding second_of entered
      second_head second k t =
          either (tag == 7)
          (λ e.
          let seven : tag ≡ 7 = eqb-true tag 7 e in
          either (second == 0)
          (λ z.
          let q : (p ≢ 0) = some-cell work p k (both_is k ∙ rw t refl) in
          rw (← inner-own tag p second seven (eqb-true second 0 z), z, ne_eqb p 0 q, ellipsis_in-some work p q, pattern_at-ellipsis work p (sym tag_is ∙ seven), ← head-is, t) refl)
          (λ z. rw (← inner-known tag p second seven (eqb-false second 0 z), z) refl))
          (λ e.
          let six : tag ≡ 6 = omega (arith, eqb-false tag 7 e) in
          rw (← inner-plain tag p second (eqb-false tag 7 e), pattern_at-pair work p (sym tag_is ∙ six), ← head-is, t) refl)

      second-rest : (second k : ℕ) → holds k (pattern_at work head) ≡ false → second_of work second k (pattern_at work rest) ≡ second_of work second k (pattern_at work p)
      unfolding second_of entered
      second-rest second k t =
          either (tag == 7)
          (λ e. rw (pattern_at-ellipsis work p (sym tag_is ∙ eqb-true tag 7 e), ← head-is, ← rest-is, t) refl)
          (λ e. let s : tag ≡ 6 = omega (arith, eqb-false tag 7 e) in rw (pattern_at-pair work p (sym tag_is ∙ s), ← head-is, ← rest-is, t) refl)

      inner-most : (second b : ℕ) → p ≤ b → second ≤ b → inner_second tag p second ≤ b
      unfolding inner_second
      inner-most second b l m = either (tag == 7 && second == 0) (λ e. rw e l) (λ e. rw e m)

      pub list-both : (list first second inner : ℕ) → inner ≡ inner_second tag p second → BindsList work rest list first second old mid → BindsList work head list first inner mid new → BindsList work p list first second old new
      list-both list first second inner i c d =
          record {
            held = λ k l h.
                either (holds k (pattern_at work head))
                (λ t. let e = d.held k l t in (e.0, e.1 ∙ rw i (second_head second k t)))
                (λ t.
                let e = c.held k l (sym (rw t at (both_is k)) ∙ h) in
                rw (d.other k t) (e.0, e.1 ∙ second-rest second k t));
            other = λ k h. let n = neither k h in d.other k n.0 ∙ c.other k n.1;
            low = λ b q r s t u.
                d.low b (omega (arith, reference_at-most work p 3)) r s (rw i (inner-most second b q t)) (c.low b (omega (arith, reference_at-most work p 2)) r s t u);
          }

    pub pattern-pair : tag ≡ 6 → (u later first : ℕ) → Means work u later tail → Binds work rest later old mid → Means work u first (element 0) → Binds work head first mid new → Binds work p u old new
    unfolding environment taking part entered entered_next
    pattern-pair pair u later first m c f d =
        let is : pattern_at work p ≡ pair_p (pattern_at work head) (pattern_at work rest) = rw (head-is, rest-is) (pattern_at-pair work p (sym tag_is ∙ pair)) in
        record {
          held = λ w k l h.
              either (holds k (pattern_at work head))
              (λ t. d.held w k l t ∙ rw (is, t, f.is w) refl)
              (λ t. ap (taking_of work w) (d.other k t) ∙ c.held w k l (sym (rw t at (both_is (omega arith) (omega arith) k)) ∙ h) ∙ rw (is, t, m.is w) refl);
          other = λ k h. let n = neither (omega arith) (omega arith) k h in d.other k n.0 ∙ c.other k n.1;
          low = λ b q r u. d.low b (omega (arith, reference_at-most work p 3)) (omega (arith, f.low)) (c.low b (omega (arith, reference_at-most work p 2)) (omega (arith, m.low)) u);
        }

    -- an ellipsis, and the rest of its list, which takes what follows where it holds a variable
    list-then : tag ≡ 7 → (u after : ℕ) → after ≤ u → ((k : ℕ) → holds k (pattern_at work rest) ≡ true → After work p u after) → Binds work rest after old mid → BindsList work head u p 0 mid new → Binds work p u old new
    unfolding bound taking_of environment taking part entered entered_next second_of
    list-then ellipsis u after lower m c d =
        let is : pattern_at work p ≡ ellipsis_p (pattern_at work head) (word_at work p 4) (pattern_at work rest) = rw (head-is, rest-is) (pattern_at-ellipsis work p (sym tag_is ∙ ellipsis)) in
        record {
          held = λ w k l h.
              either (holds k (pattern_at work head))
              (λ t.
              let e = d.held k l t in
              let q : (p ≢ 0) = some-cell work p k h in
              ap (taking_of work w) e.0
              ∙ rw (is, t, e.1, ellipsis_in-some work p q, ← head-is) refl)
              (λ t.
              let r : holds k (pattern_at work rest) ≡ true = sym (rw t at (both_is (omega arith) (omega arith) k)) ∙ h in
              ap (taking_of work w) (d.other k t) ∙ c.held w k l r ∙ rw (is, t, (m k r).is w) refl);
          other = λ k h. let n = neither (omega arith) (omega arith) k h in d.other k n.0 ∙ c.other k n.1;
          low = λ b q r t. d.low b (omega (arith, reference_at-most work p 3)) r q (omega arith) (c.low b (omega (arith, reference_at-most work p 2)) (omega (arith, lower)) t);
        }

    pub pattern-ellipsis : tag ≡ 7 → (u after : ℕ) → After work p u after → Binds work rest after old mid → BindsList work head u p 0 mid new → Binds work p u old new
    pattern-ellipsis ellipsis u after m = list-then ellipsis u after m.low (λ k h. m)

  module _ (u : ℕ) where
    pub pattern-none : (tag ≢ 1) → (tag ≢ 6) → (tag ≢ 7) → Binds work p u old old
    pattern-none a b c =
        record {
          held = λ w k l h. absurd (false≢true (holds-none work p tag tag_is k a b c ∙ h));
          other = λ k h. refl;
          low = λ b p q u. u;
        }

    module _ (new : List ℕ) where
      pub pattern-variable : (j : ℕ) → tag ≡ 1 → j ≡ word_at work p 2 → BindsOne j (bound u 0 0) old new → Binds work p u old new
      unfolding holds bound taking_of ellipsis_in environment taking part entered entered_next
      pattern-variable j e j-is c =
          record {
            held = λ w k l h.
                let s : k ≡ j = eqb-true k j (rw (pattern_at-variable work p (sym tag_is ∙ e), ← j-is) at h) in
                let is : entry_at new k ≡ bound u 0 0 = ap (entry_at new) s ∙ c.here (omega arith) in
                ap (taking_of work w) is ∙ rw (pattern_at-variable work p (sym tag_is ∙ e)) refl;
            other = λ k h. c.other k (eqb-false k j (rw (pattern_at-variable work p (sym tag_is ∙ e), ← j-is) at h));
            low = λ b q r t. c.low b (bound-low u 0 0 b r (omega arith) (omega arith)) t;
          }

-- an ellipsis that nothing follows
pub pattern-last : (work : List ℕ) (p tag : ℕ) → tag ≡ word_at work p 1 → (old : List ℕ) (head rest : ℕ) → rest ≡ reference_at work p 2 → head ≡ reference_at work p 3 → (mid new : List ℕ) → tag ≡ 7 → (u : ℕ) → rest ≡ 0
    → mid ≡ old → BindsList work head u p 0 mid new → Binds work p u old new
pattern-last work p tag tag_is old head rest rest-is head-is mid new ellipsis u last same d =
    let none : word_at work rest 1 ≡ 0 = ap (λ (n : ℕ). word_at work n 1) last ∙ word_at-none work 1 (omega arith) in
    list-then work p tag tag_is old head rest rest-is head-is old new ellipsis u u (omega arith) (λ k h. absurd (some-cell work rest k h last))
    (pattern-none work rest _ refl old u (λ z. omega arith) (λ z. omega arith) (λ z. omega arith))
    (subst (λ (e : List ℕ). BindsList work head u p 0 e new) same d)
