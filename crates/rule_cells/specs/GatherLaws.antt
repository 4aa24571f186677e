-- Laws of gathering a pattern's variables.
use Rattle.std.specs.Prelude.{◌≡◌, Bool, true, false, List, [], ◌∷◌, ◌++◌, ℕ, suc, ◌+◌, ◌≤◌, Some, None}
use Rattle.std.specs.declared.option.Option as code
use Rattle.std.proofs.Math.Path.{refl}
use Rattle.std.proofs.Common.{sym, ap, subst, ◌∙◌, append_assoc, append-nil, arith}
use borrow.Author.Tests.{ne_eqb}
use Rattle.words.specs.Lists.{any_of}
use Rattle.recipe.specs.Name.{Name, same, is_wildcard}
use Rattle.recipe.specs.Tree.{Tree, name}
use Rattle.expansion.specs.Rules.{are_variables, dots_next, depth_before, is_variable, variables}
use Rattle.arena.specs.Offsets.{KIND, HEAD, TAIL}
use Rattle.arena.specs.Arena.{word_at, reference_at, name_at, tree_at}
use Rattle.words.specs.ListLaws.{either}
use Rattle.arena.specs.NodeLaws.{tree_at-name, tree_at-pair}
use Rattle.arena.specs.ListLaws.{tree-cases, pair-falls}
use Rattle.rule_cells.specs.Variables.{variables_from, Held, Stored, Gathered, Gathering, Deeper}

-- ---- which names are variables

module _ (dots : Name → Bool) (literals : List Name) (x : Name) where
  pub dots-no-variable : dots x ≡ true → is_variable dots literals x ≡ false
  unfolding is_variable
  dots-no-variable e = rw e refl

  pub wildcard-no-variable : dots x ≡ false → x.number ≡ 7 → is_variable dots literals x ≡ false
  unfolding is_variable is_wildcard
  wildcard-no-variable n e = rw (n, e) refl

  pub literal-no-variable : dots x ≡ false → (x.number ≡ 7 → ⊥) → true ≡ any_of (same x) literals → is_variable dots literals x ≡ false
  unfolding is_variable is_wildcard
  literal-no-variable n m e = rw (n, ne_eqb _ _ m, ← e) refl

  pub a-variable : dots x ≡ false → (x.number ≡ 7 → ⊥) → false ≡ any_of (same x) literals → is_variable dots literals x ≡ true
  unfolding is_variable is_wildcard
  a-variable n m e = rw (n, ne_eqb _ _ m, ← e) refl

  variables-none : (d : ℕ) → is_variable dots literals x ≡ false → variables dots literals d (name x) ≡ []
  unfolding variables
  variables-none d e = rw e refl

  variables-one : (d : ℕ) → is_variable dots literals x ≡ true → variables dots literals d (name x) ≡ (x, d) ∷ []
  unfolding variables
  variables-one d e = rw e refl

-- an element lies at most one deeper than its list
pub deeper-most : (dots : Name → Bool) (rest : Tree) (d r : ℕ) → Deeper dots rest d r → r ≤ d + 1
unfolding depth_before
deeper-most dots rest d r h =
    either (dots_next dots rest)
    (λ t. let e : r ≡ suc d = rw t at h in omega arith)
    (λ t. let e : r ≡ d = rw t at h in omega arith)

-- ---- what is gathered

module _ (work : List ℕ) (w node n : ℕ) (old : List ℕ) where
  gathered-is : (more more' : List (Name × ℕ)) (new : List ℕ) (r : code.Option ℕ) → more ≡ more' → Gathered more work w node n old new r → Gathered more' work w node n old new r
  gathered-is more more' new r e g = subst (λ (m : List (Name × ℕ)). Gathered m work w node n old new r) e g

  pub gathered-stored : (more : List (Name × ℕ)) (new : List ℕ) (r : code.Option ℕ) (m : ℕ) → r ≡ Some m → Gathered more work w node n old new r → Stored more work w node n old new m
  gathered-stored more new r m e g = subst (λ (k : code.Option ℕ). Gathered more work w node n old new k) e g

  gathered_none : Held work w old n → Gathered [] work w node n old old (Some n)
  gathered_none h = record { list = sym (append-nil (variables_from work w old 0 n)); held = h; under = λ b l u. u }

  module _ (dots : Name → Bool) (literals : List Name) (d : ℕ) where
    -- a name that is no variable
    pub gathered-no : (x : Name) → is_variable dots literals x ≡ false → Held work w old n → Gathered (variables dots literals d (name x)) work w node n old old (Some n)
    gathered-no x e h = gathered-is [] _ old (Some n) (sym (variables-none dots literals x d e)) (gathered_none h)

    pub gathered-one : (x : Name) (new : List ℕ) (r : code.Option ℕ) → is_variable dots literals x ≡ true → Gathered ((x, d) ∷ []) work w node n old new r → Gathered (variables dots literals d (name x)) work w node n old new r
    gathered-one x new r e g = gathered-is _ _ new r (sym (variables-one dots literals x d e)) g

    pub gathered-name : (new : List ℕ) (r : code.Option ℕ) → word_at work node KIND ≡ 3 → Gathered (variables dots literals d (name (name_at work node w))) work w node n old new r → Gathered (variables dots literals d (tree_at work node w)) work w node n old new r
    gathered-name new r e g = gathered-is _ _ new r (ap (variables dots literals d) (sym (tree_at-name work node w e))) g

    variables-other : (word_at work node KIND ≡ 3 → ⊥) → (word_at work node KIND ≡ 4 → ⊥) → variables dots literals d (tree_at work node w) ≡ []
    unfolding variables
    variables-other m k = tree-cases work node w (λ t. variables dots literals d t ≡ []) (λ e. refl) (λ e. absurd (m e)) (λ e. absurd (k e)) (λ p q s. refl)

    pub gathered-other : (word_at work node KIND ≡ 3 → ⊥) → (word_at work node KIND ≡ 4 → ⊥) → Held work w old n → Gathered (variables dots literals d (tree_at work node w)) work w node n old old (Some n)
    gathered-other m k h = gathered-is [] _ old (Some n) (sym (variables-other m k)) (gathered_none h)

    pub gathering-begins : Held work w old n → Gathering dots literals d work w node n old node n old
    gathering-begins h = record { low = omega arith; held = h; all = λ last r k. k }

    -- a pair: the variables of its head, then those of its tail
    module _ (head rest inner : ℕ) (e : word_at work node KIND ≡ 4) (f : head ≡ reference_at work node HEAD) (g : rest ≡ reference_at work node TAIL) (deeper : Deeper dots (tree_at work rest w) d inner) where
      abbrev first : List (Name × ℕ)
      first = variables dots literals inner (tree_at work head w)

      abbrev later : List (Name × ℕ)
      later = variables dots literals d (tree_at work rest w)

      variables-pair : first ++ later ≡ variables dots literals d (tree_at work node w)
      unfolding variables
      variables-pair = rw (tree_at-pair work node w e, ← f, ← g, ← deeper) refl

      pub gathered-bad : (new : List ℕ) (r : code.Option ℕ) → r ≡ None → Gathered first work w head n old new r → Gathered (variables dots literals d (tree_at work node w)) work w node n old new None
      gathered-bad new r b g =
          let h : Gathered first work w head n old new None = subst (λ (k : code.Option ℕ). Gathered first work w head n old new k) b g in
          gathered-is (first ++ later) _ new None variables-pair
          (λ more. ap (λ (l : List (Name × ℕ)). are_variables (variables_from work w old 0 n ++ l)) (append_assoc first later more) ∙ h (later ++ more))

      both : (mid new : List ℕ) (m : ℕ) (r : code.Option ℕ) → Stored first work w head n old mid m → Gathered later work w rest m mid new r → Gathered (first ++ later) work w node n old new r
      both mid new m (Some k) a b =
          record {
            list = b.list ∙ ap (λ (l : List (Name × ℕ)). l ++ later) a.list ∙ append_assoc (variables_from work w old 0 n) first later;
            held = b.held;
            under = λ c l u. b.under c (omega (arith, pair-falls work node 1 e)) (a.under c (omega (arith, pair-falls work node 2 e)) u);
          }
      both mid new m None a b =
          λ more.
          ap (λ (l : List (Name × ℕ)). are_variables (variables_from work w old 0 n ++ l)) (append_assoc first later more)
          ∙ ap are_variables (sym (append_assoc (variables_from work w old 0 n) first (later ++ more)))
          ∙ ap (λ (l : List (Name × ℕ)). are_variables (l ++ (later ++ more))) (sym a.list)
          ∙ b more

      gathered-pair : (mid new : List ℕ) (m : ℕ) (r : code.Option ℕ) → Stored first work w head n old mid m → Gathered later work w rest m mid new r → Gathered (variables dots literals d (tree_at work node w)) work w node n old new r
      gathered-pair mid new m r a b = gathered-is (first ++ later) _ new r variables-pair (both mid new m r a b)

      pub gathering-more : (list b : ℕ) (start new : List ℕ) (m : ℕ) → Stored first work w head n old new m → Gathering dots literals d work w list b start node n old → Gathering dots literals d work w list b start rest m new
      gathering-more list b start new m s h =
          record {
            low = omega (arith, h.low, pair-falls work node 1 e);
            held = s.held;
            all = λ last r k. h.all last r (gathered-pair new last m r s k);
          }
