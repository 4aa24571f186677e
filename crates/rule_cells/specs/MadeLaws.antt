-- Laws of new rule cells.
use Rattle.std.proofs.lemmas.List.Edits.{sets-eq}
use Rattle.std.proofs.Common.{add-one}
use Rattle.std.specs.Prelude.{◌≡◌, refl, Bool, true, false, List, [], ◌∷◌, ◌++◌, ℕ, suc, ◌+◌, ◌-◌, ◌≤◌, ◌<◌, length, get_or, take, drop, set}
use Rattle.std.proofs.Common.{ap, ap₂, subst, ◌∙◌, arith, length-set, get_or-set_same, get_or-set_other}
use Rattle.std.proofs.lemmas.List.{take-set-le}
use Rattle.recipe.specs.Name.{binding_key}
use Rattle.expansion.specs.Rules.{variable_p, literal_p, wildcard_p, pair_p, ellipsis_p, variable_t, insert_t, pair_t, ellipsis_t}
use Rattle.arena.specs.Arena.{word_at, reference_at, name_at}
use Rattle.arena.specs.ArenaLaws.{word_at-in, take_less, binding_of-key}
use Rattle.arena.specs.CellLaws.{reference-is}
use Rattle.rule_cells.specs.Offsets.{HEAD, REST, LITERAL-NODE, LITERAL-WRAP, NODE, WRAP, PATTERN, TEMPLATE, NEXT}
use Rattle.rule_cells.specs.Cells.{constant_before, literal_at, pattern_at, template_at, rule_at, rules_at}
use Rattle.rule_cells.specs.CellLaws.{name_at-below, pattern_at-below, pattern_at-variable, pattern_at-literal, pattern_at-wildcard, pattern_at-constant, pattern_at-pair, pattern_at-ellipsis, template_at-below, template_at-variable, template_at-insert, template_at-constant, template_at-pair, template_at-ellipsis, rules_at-below, rules_at-more}
use Rattle.rule_cells.specs.Made.{Five, Made, MadeLiteral, MadeConstant, MadePair, MadeEllipsis, MadeList}

-- ---- five words at the top

abbrev pub stored : (t : List ℕ) (top a b c d e : ℕ) → List ℕ
stored t top a b c d e = set (set (set (set (set t top a) (top + 1) b) (top + 2) c) (top + 3) d) (top + 4) e

-- a store above or below leaves a word as it was
left : (t : List ℕ) (i j v x : ℕ) → (j ≡ i → ⊥) → get_or t j 0 ≡ x → get_or (set t i v) j 0 ≡ x
left t i j v x n e = get_or-set_other t i j v 0 n ∙ e

module _ (t : List ℕ) (top a b c d e : ℕ) (fits : top + 5 ≤ length t) where
  abbrev one : List ℕ
  one = set t top a

  abbrev two : List ℕ
  two = set one (top + 1) b

  abbrev three : List ℕ
  three = set two (top + 2) c

  abbrev four : List ℕ
  four = set three (top + 3) d

  stored-kept : take top (stored t top a b c d e) ≡ take top t
  stored-kept = take-set-le top _ (top + 4) e (omega arith) ∙ take-set-le top _ (top + 3) d (omega arith) ∙ take-set-le top _ (top + 2) c (omega arith) ∙ take-set-le top _ (top + 1) b (omega arith) ∙ take-set-le top t top a (omega arith)

  stored-word : (k i v : ℕ) → k ≤ 5 → i + k ≡ top + 5 → get_or (stored t top a b c d e) i 0 ≡ v → word_at (stored t top a b c d e) (top + 5) k ≡ v
  stored-word k i v h s g =
      let m : top + 5 - k ≡ i = omega arith in
      word_at-in (stored t top a b c d e) (top + 5) k (omega arith) (omega arith) (simp length-set fits) ∙ ap (λ (j : ℕ). get_or (stored t top a b c d e) j 0) m ∙ g

  above-four : (j x : ℕ) → j < top + 4 → get_or four j 0 ≡ x → get_or (stored t top a b c d e) j 0 ≡ x
  above-four j x h g = left four (top + 4) j e x (λ z. omega arith) g

  above-three : (j x : ℕ) → j < top + 3 → get_or three j 0 ≡ x → get_or (stored t top a b c d e) j 0 ≡ x
  above-three j x h g = above-four j x (omega arith) (left three (top + 3) j d x (λ z. omega arith) g)

  above-two : (j x : ℕ) → j < top + 2 → get_or two j 0 ≡ x → get_or (stored t top a b c d e) j 0 ≡ x
  above-two j x h g = above-three j x (omega arith) (left two (top + 2) j c x (λ z. omega arith) g)

  pub five-stored : Five a b c d e t (stored t top a b c d e) top (top + 5)
  five-stored =
      record {
        end = refl;
        kept = stored-kept;
        fifth = stored-word 5 top a (omega arith) (omega arith) (above-two top a (omega arith) (left one (top + 1) top b a (λ z. omega arith) (get_or-set_same t top a 0 (omega arith))));
        fourth = stored-word 4 (top + 1) b (omega arith) (omega arith) (above-two (top + 1) b (omega arith) (get_or-set_same one (top + 1) b 0 (simp length-set (omega arith))));
        third = stored-word 3 (top + 2) c (omega arith) (omega arith) (above-three (top + 2) c (omega arith) (get_or-set_same two (top + 2) c 0 (simp length-set (omega arith))));
        second = stored-word 2 (top + 3) d (omega arith) (omega arith) (above-four (top + 3) d (omega arith) (get_or-set_same three (top + 3) d 0 (simp length-set (omega arith))));
        first = stored-word 1 (top + 4) e (omega arith) (omega arith) (get_or-set_same four (top + 4) e 0 (simp length-set (omega arith)));
      }

  pub five-put : (new : List ℕ) → new ≡ take top t ++ (a ∷ b ∷ c ∷ d ∷ e ∷ []) ++ drop (top + 5) t → Five a b c d e t new top (top + 5)
  five-put new is =
      let two : top + 2 ≡ suc (suc top) = omega arith in
      let three : top + 3 ≡ suc (suc (suc top)) = omega arith in
      let four : top + 4 ≡ suc (suc (suc (suc top))) = omega arith in
      let same : stored t top a b c d e ≡ new = rw (add-one top, two, three, four, is) (sets-eq (a ∷ b ∷ c ∷ d ∷ e ∷ []) t top fits) in
      subst (λ (l : List ℕ). Five a b c d e t l top (top + 5)) same five-stored

-- ---- what stood below the top means what it meant

module _ (old new : List ℕ) (top : ℕ) (kept : take top new ≡ take top old) where
  pub pattern-kept : (p : ℕ) → p ≤ top → pattern_at new p ≡ pattern_at old p
  pattern-kept p h = pattern_at-below new old p (take_less new old p top h kept)

  pub template-kept : (t : ℕ) → t ≤ top → template_at new t ≡ template_at old t
  template-kept t h = template_at-below new old t (take_less new old t top h kept)

  pub rules-kept : (r : ℕ) → r ≤ top → rules_at new r ≡ rules_at old r
  rules-kept r h = rules_at-below new old r (take_less new old r top h kept)

  pub name-kept : (node w : ℕ) → node ≤ top → w ≤ top → name_at new node w ≡ name_at old node w
  name-kept node w h l = name_at-below new old node w (take_less new old node top h kept) (take_less new old w top l kept)

-- a word of the new cell that refers below the top
refers : (old new : List ℕ) (top r k p : ℕ) → r ≡ top + 5 → word_at new r k ≡ p → p ≤ top → reference_at new r k ≡ p
refers old new top r k p e g h = reference-is new r k p g (omega arith)

-- ---- patterns

module _ (old new : List ℕ) (top r : ℕ) where
  pub made-variable : (k : ℕ) → Five 0 0 0 k 1 old new top r → Made pattern_at (variable_p k) old new top r
  made-variable k c = record { end = c.end; kept = c.kept; means = pattern_at-variable new r c.first ∙ ap variable_p c.second }

  pub made-wildcard : Five 0 0 0 0 3 old new top r → Made pattern_at wildcard_p old new top r
  made-wildcard c = record { end = c.end; kept = c.kept; means = pattern_at-wildcard new r c.first }

  -- the name that a cell refers to
  child-is : (j k node w : ℕ) → r ≡ top + 5 → take top new ≡ take top old → word_at new r j ≡ node → word_at new r k ≡ w → node ≤ top → w ≤ top → name_at new (reference_at new r j) (reference_at new r k) ≡ name_at old node w
  child-is j k node w e kept p q h l =
      ap₂ (name_at new) (refers old new top r j node e p h) (refers old new top r k w e q l) ∙ name-kept old new top kept node w h l

  literal-is : (node w number key : ℕ) → node ≤ top → w ≤ top → Five node w number key 2 old new top r → number ≡ (name_at old node w).number → key ≡ binding_key (name_at old node w).binding → literal_at new r ≡ name_at old node w
  unfolding literal_at
  literal-is node w number key h l c e f =
      rw (child-is LITERAL-NODE LITERAL-WRAP node w c.end c.kept c.fifth c.fourth h l, c.third, c.second, e, f, binding_of-key (name_at old node w).binding)

  pub made-literal : (node w number key : ℕ) → node ≤ top → w ≤ top → Five node w number key 2 old new top r → MadeLiteral node w number key old new top r
  made-literal node w number key h l c =
      record {
        end = c.end;
        kept = c.kept;
        means = λ e f. pattern_at-literal new r c.first ∙ ap literal_p (literal-is node w number key h l c e f);
      }

  -- ---- templates

  pub made-variable_t : (k d : ℕ) → Five 0 0 k d 1 old new top r → Made template_at (variable_t k d) old new top r
  made-variable_t k d c = record { end = c.end; kept = c.kept; means = template_at-variable new r c.first ∙ ap₂ variable_t c.third c.second }

  pub made-insert : (node w : ℕ) → node ≤ top → w ≤ top → Five 0 0 node w 2 old new top r → Made template_at (insert_t (name_at old node w)) old new top r
  made-insert node w h l c =
      record {
        end = c.end;
        kept = c.kept;
        means = template_at-insert new r c.first ∙ ap insert_t (child-is NODE WRAP node w c.end c.kept c.third c.second h l);
      }

  -- ---- cells that are read as a pattern or as a template

  pub made-constant : (k a b : ℕ) → Five 0 k a b 4 old new top r → MadeConstant (record { kind = k; first = a; second = b }) old new top r
  unfolding constant_before
  made-constant k a b c = (
    record { end = c.end; kept = c.kept; means = pattern_at-constant new r c.first ∙ rw (c.fourth, c.third, c.second) },
    record { end = c.end; kept = c.kept; means = template_at-constant new r c.first ∙ rw (c.fourth, c.third, c.second) },
  )

  -- a cell of two parts, however it is read
  made-two : {A : Type 0} (at : List ℕ → ℕ → A) (f : A → A → A) → ((p : ℕ) → p ≤ top → at new p ≡ at old p) → (n tag a b : ℕ) → a ≤ top → b ≤ top → Five 0 n a b tag old new top r
      → at new r ≡ f (at new (reference_at new r HEAD)) (at new (reference_at new r REST)) → Made at (f (at old a) (at old b)) old new top r
  made-two at f same n tag a b h l c e =
      record {
        end = c.end;
        kept = c.kept;
        means =
            e
            ∙ ap₂ (λ (p q : ℕ). f (at new p) (at new q)) (refers old new top r HEAD a c.end c.third h) (refers old new top r REST b c.end c.second l)
            ∙ ap₂ f (same a h) (same b l);
      }

  pub made_pair : (head tail : ℕ) → head ≤ top → tail ≤ top → Five 0 0 head tail 6 old new top r → MadePair head tail old new top r
  made_pair head tail h l c = (
    made-two pattern_at pair_p (pattern-kept old new top c.kept) 0 6 head tail h l c (pattern_at-pair new r c.first),
    made-two template_at pair_t (template-kept old new top c.kept) 0 6 head tail h l c (template_at-pair new r c.first),
  )

  pub made-ellipsis : (element n rest : ℕ) → element ≤ top → rest ≤ top → Five 0 n element rest 7 old new top r → MadeEllipsis element n rest old new top r
  made-ellipsis element n rest h l c = (
    made-two pattern_at (λ p q. ellipsis_p p n q) (pattern-kept old new top c.kept) n 7 element rest h l c
        (pattern_at-ellipsis new r c.first ∙ ap (λ (m : ℕ). ellipsis_p (pattern_at new (reference_at new r HEAD)) m (pattern_at new (reference_at new r REST))) c.fourth),
    made-two template_at ellipsis_t (template-kept old new top c.kept) n 7 element rest h l c (template_at-ellipsis new r c.first),
  )

  pub list-ellipsis : (followed : Bool) (element n rest : ℕ) → followed ≡ true → MadeEllipsis element n rest old new top r → MadeList followed element n rest old new top r
  list-ellipsis followed element n rest e m = rw e m

  pub list-pair : (followed : Bool) (element n rest : ℕ) → followed ≡ false → MadePair element rest old new top r → MadeList followed element n rest old new top r
  list-pair followed element n rest e m = rw e m

  -- ---- rules

  pub made-rule : (pattern template next : ℕ) → pattern ≤ top → template ≤ top → next ≤ top → Five 0 0 pattern template next old new top r → Made rules_at (record { pattern = pattern_at old pattern; template = template_at old template } ∷ rules_at old next) old new top r
  unfolding rule_at
  made-rule pattern template next h l m c =
      record {
        end = c.end;
        kept = c.kept;
        means =
            rules_at-more new r (omega (arith, c.end))
            ∙ rw (refers old new top r PATTERN pattern c.end c.third h, refers old new top r TEMPLATE template c.end c.second l, refers old new top r NEXT next c.end c.first m, pattern-kept old new top c.kept pattern h, template-kept old new top c.kept template l, rules-kept old new top c.kept next m);
      }
