-- Laws of a pattern's variables.
use Rattle.std.specs.Prelude.{◌≡◌, Bool, not, ◌&&◌, ◌||◌, cond, eqb, leb, get_or, set, Some, None}
use Rattle.std.specs.declared.option.Option as code
use Rattle.std.specs.Option.{is_some}
use Rattle.std.proofs.Math.Path.{refl, ap, ap₂}
use Rattle.std.proofs.Common.{sym, ◌∙◌, length-set, get_or-set_same, get_or-set_other, le-leb, eqb-true}
use Rattle.std.proofs.Math.Bool.{true, false}
use mathlib.Core.List.{List, [], ◌∷◌, ◌++◌, map}
use Rattle.std.proofs.Math.Option.{Option, none, some}
use Prim.Native.Nat.{ℕ, zero, suc, ◌+◌, ◌*◌, ◌-◌, ◌≤◌, ◌<◌}
use native.Mathlib.Omega.{arith}
use Rattle.std.proofs.Math.ListN.{length, length-append}
use Rattle.std.proofs.lemmas.Bool.{lt-leb, eqb-false, false≢true}
use Rattle.words.specs.Code.Answer.{option_of}
use Rattle.words.specs.Limits.{depth_most}
use Rattle.words.specs.Lists.{all_of, any_of}
use Rattle.words.specs.TestLaws.{and-none-left, and-none-right, and_both, and_left, and_right, or_left, or_right, any_append}
use Rattle.recipe.specs.Name.{Name, same, distinct}
use Rattle.recipe.specs.Tree.{Tree, names}
use Rattle.expansion.specs.Rules.{variable_from, are_variables, dots_next, depth_before}
use Rattle.arena.specs.Offsets.{KIND, HEAD, TAIL}
use Rattle.arena.specs.Arena.{word_at, reference_at, name_at, tree_at}
use Rattle.words.specs.ListLaws.{either}
use Rattle.arena.specs.NodeLaws.{tree_at-name, tree_at-pair}
use Rattle.arena.specs.ListLaws.{tree-cases}
use Rattle.rule_cells.specs.Variables.{variable_at, variables_from, known_from, Held, Under, Stored, Deeper}

-- ---- listed literals

or-false : (b : Bool) → (b || false) ≡ b
or-false true = refl
or-false false = refl

-- the names of a tree in the arena that pass a test
module _ (work : List ℕ) (list w : ℕ) (f : Name → Bool) where
  pub any_name : (b : Bool) → word_at work list KIND ≡ 3 → b ≡ f (name_at work list w) → b ≡ any_of f (names (tree_at work list w))
  unfolding any_of names
  any_name b e h = rw (tree_at-name work list w e, or-false (f (name_at work list w))) h

  pub any_head : (r : ℕ) → word_at work list KIND ≡ 4 → r ≡ reference_at work list HEAD → true ≡ any_of f (names (tree_at work r w)) → true ≡ any_of f (names (tree_at work list w))
  unfolding names
  any_head r e g h =
      rw (tree_at-pair work list w e, ← g, any_append f (names (tree_at work r w)) (names (tree_at work (reference_at work list TAIL) w)), ← h) refl

  pub any-rest : (r s : ℕ) (b : Bool) → word_at work list KIND ≡ 4 → r ≡ reference_at work list HEAD → s ≡ reference_at work list TAIL → false ≡ any_of f (names (tree_at work r w)) → b ≡ any_of f (names (tree_at work s w)) → b ≡ any_of f (names (tree_at work list w))
  unfolding names
  any-rest r s b e g k h j =
      rw (tree_at-pair work list w e, ← g, ← k, any_append f (names (tree_at work r w)) (names (tree_at work s w)), ← h) j

  pub any-other : (word_at work list KIND ≡ 3 → ⊥) → (word_at work list KIND ≡ 4 → ⊥) → false ≡ any_of f (names (tree_at work list w))
  unfolding names any_of
  any-other m n = tree-cases work list w (λ t. false ≡ any_of f (names t)) (λ e. refl) (λ e. absurd (m e)) (λ e. absurd (n e)) (λ p q r. refl)

-- ---- known variables

module _ (work : List ℕ) (w : ℕ) (vars : List ℕ) (x : Name) where
  pub known-all : (i left : ℕ) → known_from work w vars x (i + left) i ≡ variable_from i (variables_from work w vars i left) x
  known-all i left = let e : i + left - i ≡ left = omega arith in rw e refl

  module _ (end i : ℕ) where
    pub known-none : end ≤ i → none ≡ known_from work w vars x end i
    unfolding variables_from variable_from
    known-none h = let e : end - i ≡ 0 = omega arith in rw e refl

    known_step : i < end → known_from work w vars x end i ≡ cond (same (name_at work (get_or vars (2 * i) 0) w) x) (some (i, get_or vars (2 * i + 1) 0)) (known_from work w vars x end (i + 1))
    unfolding variables_from variable_from variable_at
    known_step h =
        let e : end - i ≡ suc (end - (i + 1)) = omega arith in
        let d : i + 1 ≡ suc i = omega arith in
        rw (e, d) refl

    pub known-here : i < end → true ≡ same (name_at work (get_or vars (2 * i) 0) w) x → some (i, get_or vars (2 * i + 1) 0) ≡ known_from work w vars x end i
    known-here h e = rw (known_step h, ← e) refl

    pub known_more : i < end → false ≡ same (name_at work (get_or vars (2 * i) 0) w) x → known_from work w vars x end (i + 1) ≡ known_from work w vars x end i
    known_more h e = rw (known_step h, ← e) refl

-- ---- limits

-- the names of variables
abbrev named : List (Name × ℕ) → List Name
named vs = map (λ v. v.0) vs

any-middle : (f : Name → Bool) (x : Name) (d : ℕ) (vs rest : List (Name × ℕ)) → f x ≡ true → any_of f (named (vs ++ ((x, d) ∷ rest))) ≡ true
unfolding any_of
any-middle f x d [] rest e = or_left (f x) (any_of f (named rest)) e
any-middle f x d (v ∷ vs) rest e = or_right (f v.0) (any_of f (named (vs ++ ((x, d) ∷ rest)))) (any-middle f x d vs rest e)

any_last : (f : Name → Bool) (x : Name) (d : ℕ) (vs : List (Name × ℕ)) → f x ≡ false → any_of f (named (vs ++ ((x, d) ∷ []))) ≡ any_of f (named vs)
unfolding any_of
any_last f x d [] e = rw e refl
any_last f x d (v ∷ vs) e = rw (any_last f x d vs e)

distinct-twice : (k : ℕ) (vs : List (Name × ℕ)) (x : Name) (d : ℕ) (rest : List (Name × ℕ)) (p : ℕ × ℕ) → variable_from k vs x ≡ some p → distinct (named (vs ++ ((x, d) ∷ rest))) ≡ false
unfolding variable_from distinct
distinct-twice k [] x d rest p e = absurd (let z : ◌≡◌ {A = ℕ} 0 1 = cc in omega arith)
distinct-twice k (v ∷ vs) x d rest p e =
    either (same v.0 x)
    (λ t. rw (any-middle (same v.0) x d vs rest t) refl)
    (λ t. and-none-right (not (any_of (same v.0) (named (vs ++ ((x, d) ∷ rest))))) (distinct (named (vs ++ ((x, d) ∷ rest)))) (distinct-twice (suc k) vs x d rest p (rw t at e)))

distinct-new : (k : ℕ) (vs : List (Name × ℕ)) (x : Name) (d : ℕ) → variable_from k vs x ≡ none → distinct (named vs) ≡ true → distinct (named (vs ++ ((x, d) ∷ []))) ≡ true
unfolding variable_from distinct any_of
distinct-new k [] x d e h = refl
distinct-new k (v ∷ vs) x d e h =
    either (same v.0 x)
    (λ t. let s : some (k, v.1) ≡ none = rw t at e in absurd (let z : ◌≡◌ {A = ℕ} 0 1 = cc in omega arith))
    (λ t.
    let fresh = not (any_of (same v.0) (named vs)) in
    rw (any_last (same v.0) x d vs t)
    (and_both fresh (distinct (named (vs ++ ((x, d) ∷ [])))) (and_left fresh (distinct (named vs)) h) (distinct-new (suc k) vs x d (rw t at e) (and_right fresh (distinct (named vs)) h))))

-- no variable lies under too many ellipses
abbrev shallow : List (Name × ℕ) → Bool
shallow vs = all_of (λ v. leb v.1 depth_most) vs

shallow-not : (vs : List (Name × ℕ)) (x : Name) (d : ℕ) (rest : List (Name × ℕ)) → 2 < d → shallow (vs ++ ((x, d) ∷ rest)) ≡ false
unfolding all_of
shallow-not [] x d rest h = rw (lt-leb d 2 h) refl
shallow-not (v ∷ vs) x d rest h = and-none-right (leb v.1 2) (shallow (vs ++ ((x, d) ∷ rest))) (shallow-not vs x d rest h)

shallow-more : (vs : List (Name × ℕ)) (x : Name) (d : ℕ) → d ≤ 2 → shallow vs ≡ true → shallow (vs ++ ((x, d) ∷ [])) ≡ true
unfolding all_of
shallow-more [] x d h e = rw (le-leb d 2 h) refl
shallow-more (v ∷ vs) x d h e = and_both (leb v.1 2) (shallow (vs ++ ((x, d) ∷ []))) (and_left (leb v.1 2) (shallow vs) e) (shallow-more vs x d h (and_right (leb v.1 2) (shallow vs) e))

module _ (vs : List (Name × ℕ)) (x : Name) (d : ℕ) where
  -- the three limits, of the variables with x and what comes after it
  module _ (rest : List (Name × ℕ)) where
    abbrev few : Bool
    few = leb (length (vs ++ ((x, d) ∷ rest))) 16

    abbrev apart : Bool
    apart = distinct (named (vs ++ ((x, d) ∷ rest)))

    abbrev low : Bool
    low = shallow (vs ++ ((x, d) ∷ rest))

    too-deep : 2 < d → are_variables (vs ++ ((x, d) ∷ rest)) ≡ false
    unfolding are_variables
    too-deep h = and-none-right few (apart && low) (and-none-right apart low (shallow-not vs x d rest h))

    too_many : 16 ≤ length vs → are_variables (vs ++ ((x, d) ∷ rest)) ≡ false
    unfolding are_variables
    too_many h =
        let l : 16 < length (vs ++ ((x, d) ∷ rest)) = omega (arith, length-append vs ((x, d) ∷ rest)) in
        and-none-left few (apart && low) (lt-leb (length (vs ++ ((x, d) ∷ rest))) 16 l)

    twice : (k : ℕ) (p : ℕ × ℕ) → variable_from k vs x ≡ some p → are_variables (vs ++ ((x, d) ∷ rest)) ≡ false
    unfolding are_variables
    twice k p e = and-none-right few (apart && low) (and-none-left apart low (distinct-twice k vs x d rest p e))

  one_more : (k : ℕ) → are_variables vs ≡ true → length vs < 16 → d ≤ 2 → variable_from k vs x ≡ none → are_variables (vs ++ ((x, d) ∷ [])) ≡ true
  unfolding are_variables
  one_more k g l h e =
      let m : length (vs ++ ((x, d) ∷ [])) ≤ 16 = omega (arith, length-append vs ((x, d) ∷ [])) in
      let r : (distinct (named vs) && shallow vs) ≡ true = and_right (leb (length vs) 16) (distinct (named vs) && shallow vs) g in
      and_both (few []) (apart [] && low []) (le-leb (length (vs ++ ((x, d) ∷ []))) 16 m)
      (and_both (apart []) (low []) (distinct-new k vs x d e (and_left (distinct (named vs)) (shallow vs) r)) (shallow-more vs x d h (and_right (distinct (named vs)) (shallow vs) r)))

-- ---- the table

module _ (work : List ℕ) (w : ℕ) where
  variables_from-length : (vars : List ℕ) (i n : ℕ) → length (variables_from work w vars i n) ≡ n
  unfolding variables_from
  variables_from-length vars i zero = refl
  variables_from-length vars i (suc n) = ap suc (variables_from-length vars (suc i) n)

  variables_from-last : (vars : List ℕ) (i n : ℕ) → variables_from work w vars i (suc n) ≡ variables_from work w vars i n ++ (variable_at work w vars (i + n) ∷ [])
  unfolding variables_from
  variables_from-last vars i zero = let e : i + 0 ≡ i = omega arith in rw e refl
  variables_from-last vars i (suc n) =
      let e : suc i + n ≡ i + suc n = omega arith in
      ap (λ (l : List (Name × ℕ)). variable_at work w vars i ∷ l) (variables_from-last vars (suc i) n ∙ ap (λ (j : ℕ). variables_from work w vars (suc i) n ++ (variable_at work w vars j ∷ [])) e)

  -- the table's variables depend on its first words alone
  variables_from-same : (a b : List ℕ) (i n : ℕ) → ((j : ℕ) → j < 2 * (i + n) → get_or a j 0 ≡ get_or b j 0) → variables_from work w a i n ≡ variables_from work w b i n
  unfolding variables_from variable_at
  variables_from-same a b i zero h = refl
  variables_from-same a b i (suc n) h =
      ap₂ ◌∷◌ (rw (h (2 * i) (omega arith), h (2 * i + 1) (omega arith)))
      (variables_from-same a b (suc i) n (λ j l. h j (omega arith)))

  module _ (vars : List ℕ) (n node d : ℕ) (room : 2 * n + 1 < length vars) where
    abbrev added : List ℕ
    added = set (set vars (2 * n) node) (2 * n + 1) d

    added-below : (j : ℕ) → j < 2 * n → get_or added j 0 ≡ get_or vars j 0
    added-below j h = get_or-set_other (set vars (2 * n) node) (2 * n + 1) j d 0 (λ z. omega arith) ∙ get_or-set_other vars (2 * n) j node 0 (λ z. omega arith)

    added-node : get_or added (2 * n) 0 ≡ node
    added-node = get_or-set_other (set vars (2 * n) node) (2 * n + 1) (2 * n) d 0 (λ z. omega arith) ∙ get_or-set_same vars (2 * n) node 0 (omega arith)

    added-depth : get_or added (2 * n + 1) 0 ≡ d
    added-depth = get_or-set_same (set vars (2 * n) node) (2 * n + 1) d 0 (simp length-set (omega arith))

    added-list : variables_from work w added 0 (n + 1) ≡ variables_from work w vars 0 n ++ ((name_at work node w, d) ∷ [])
    unfolding variable_at
    added-list =
        let e : n + 1 ≡ suc n = omega arith in
        let z : 0 + n ≡ n = omega arith in
        ap (variables_from work w added 0) e
        ∙ variables_from-last added 0 n
        ∙ ap₂ (λ (l : List (Name × ℕ)) (v : Name × ℕ). l ++ (v ∷ [])) (variables_from-same added vars 0 n (λ j h. added-below j (omega arith))) (rw (z, added-node, added-depth))

    added-under : (b : ℕ) → node ≤ b → Under vars n b → Under added (n + 1) b
    added-under b h u i l =
        either (eqb i n)
        (λ t. rw (eqb-true i n t, added-node) h)
        (λ t. let e : i ≡ n → ⊥ = eqb-false i n t in rw (added-below (2 * i) (omega arith)) (u i (omega arith)))

    pub add-one : Held work w vars n → n < 16 → d ≤ 2 → variable_from 0 (variables_from work w vars 0 n) (name_at work node w) ≡ none → Stored ((name_at work node w, d) ∷ []) work w node n vars added (n + 1)
    add-one h l s e =
        record {
          list = added-list;
          held = record {
            most = omega arith;
            good = rw added-list (one_more (variables_from work w vars 0 n) (name_at work node w) d 0 h.good (omega (arith, variables_from-length vars 0 n)) s e);
          };
          under = added-under;
        }

  module _ (vars : List ℕ) (n node d : ℕ) where
    pub add-deep : 2 < d → (rest : List (Name × ℕ)) → are_variables (variables_from work w vars 0 n ++ ((name_at work node w, d) ∷ rest)) ≡ false
    add-deep h rest = too-deep (variables_from work w vars 0 n) (name_at work node w) d rest h

    pub add-many : 16 ≤ n → (rest : List (Name × ℕ)) → are_variables (variables_from work w vars 0 n ++ ((name_at work node w, d) ∷ rest)) ≡ false
    add-many h rest = too_many (variables_from work w vars 0 n) (name_at work node w) d rest (omega (arith, variables_from-length vars 0 n))

    pub add_twice : (p : ℕ × ℕ) → variable_from 0 (variables_from work w vars 0 n) (name_at work node w) ≡ some p → (rest : List (Name × ℕ)) → are_variables (variables_from work w vars 0 n ++ ((name_at work node w, d) ∷ rest)) ≡ false
    add_twice p e rest = twice (variables_from work w vars 0 n) (name_at work node w) d rest 0 p e

-- what `find` has answered
pub found : (r : code.Option (ℕ × ℕ)) (o : Option (ℕ × ℕ)) → option_of r ≡ o → is_some r ≡ true → (p : ℕ × ℕ) × (o ≡ some p)
found (Some p) o e s = (p, sym e)
found None o e s = absurd (false≢true s)

pub found-none : (r : code.Option (ℕ × ℕ)) (o : Option (ℕ × ℕ)) → option_of r ≡ o → is_some r ≡ false → o ≡ none
found-none (Some p) o e s = absurd (false≢true (sym s))
found-none None o e s = sym e

-- ---- depths

pub deeper-by : (dots : Name → Bool) (rest : Tree) (d : ℕ) (followed : Bool) (r : ℕ) → r ≡ cond followed (d + 1) d → followed ≡ dots_next dots rest → Deeper dots rest d r
unfolding depth_before
deeper-by dots rest d followed r e h = let one : d + 1 ≡ suc d = omega arith in e ∙ rw (← h, one) refl
