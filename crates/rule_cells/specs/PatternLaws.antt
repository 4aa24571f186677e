-- Laws of parsing a pattern, one for each way through the code.
use Rattle.std.specs.Prelude.{◌≡◌, Bool, not, ◌&&◌, cond, List, Some, None}
use Rattle.std.proofs.Math.Path.{refl, sym, ap, ap₂, subst}
use Rattle.std.proofs.Common.{◌∙◌}
use Rattle.std.proofs.Math.Bool.{true, false}
use Rattle.std.proofs.lemmas.Bool.{false≢true}
use Rattle.std.proofs.Math.Option.{Option, none, some}
use Prim.Native.Nat.{ℕ, suc, ◌+◌, ◌^◌, ◌≤◌, ◌<◌}
use native.Mathlib.Omega.{arith}
use Rattle.std.proofs.Math.ListN.{length, length-append}
use borrow.Author.Tests.{ne_eqb}
use Rattle.words.specs.Lists.{any_of}
use Rattle.words.specs.Options.{only_if, map_some, map_both}
use Rattle.words.specs.TestLaws.{and_left, and_right}
use Rattle.datum.specs.Constant.{Constant}
use Rattle.recipe.specs.Name.{Name, is_wildcard, binding_key}
use Rattle.recipe.specs.Tree.{Tree, empty, constant, name, pair, size, names, on_name, on_pair, elements, tail}
use Rattle.expansion.specs.Rules.{Pattern, variable_p, literal_p, wildcard_p, constant_p, empty_p, pair_p, ellipsis_p, dots_next, depth_before, is_variable, variables, pattern_of}
use Rattle.arena.specs.Offsets.{KIND, HEAD, TAIL, FIRST, SECOND}
use Rattle.arena.specs.Arena.{word_at, reference_at, name_at, constant_at, tree_at}
use Rattle.words.specs.ListLaws.{either}
use Rattle.arena.specs.NodeLaws.{tree_at-empty, tree_at-name, tree_at-constant}
use Rattle.arena.specs.CellLaws.{tree-kept}
use Rattle.arena.specs.Lists.{Means, Counts}
use Rattle.arena.specs.ListLaws.{tree-cases}
use Rattle.rule_cells.specs.Cells.{pattern_at, pattern_from}
use Rattle.rule_cells.specs.Made.{Made, MadeLiteral}
use Rattle.rule_cells.specs.MadeLaws.{pattern-kept}
use Rattle.rule_cells.specs.Dots.{dots_at, dots_among, DotsBelow, dots-higher, dots-kept}
use Rattle.rule_cells.specs.Parse.{Asks, Behind, PatternMade, PatternLeft}
use Rattle.rule_cells.specs.ParseLaws.{grows-nothing, grows-leaf, kept-both, tree_is, size_is, rest-kept, grows-pair}
use Rattle.rule_cells.specs.declared.rules_form.Form.{Form}
use Rattle.rule_cells.specs.declared.patterns.ParsedPattern.{ParsedPattern}
use Rattle.std.specs.declared.option.Option as code

-- the empty pattern is reference 0
pub pattern_at-none : (work : List ℕ) → pattern_at work 0 ≡ empty_p
unfolding pattern_at pattern_from
pattern_at-none work = refl

-- ---- names

module _ (dots : Name → Bool) (literals : List Name) (k : ℕ) (x : Name) where
  name-dots : dots x ≡ true → pattern_of dots literals k false (name x) ≡ none
  unfolding pattern_of only_if
  name-dots e = rw e refl

  count_none : is_variable dots literals x ≡ false → k ≡ k + length (variables dots literals 0 (name x))
  unfolding variables
  count_none e = rw e (omega arith)

  count-one : is_variable dots literals x ≡ true → k + 1 ≡ k + length (variables dots literals 0 (name x))
  unfolding variables
  count-one e = rw e refl

  name-variable : dots x ≡ false → is_variable dots literals x ≡ true → pattern_of dots literals k false (name x) ≡ some (variable_p k)
  unfolding pattern_of only_if
  name-variable n e = rw (e, n) refl

  name-wildcard : dots x ≡ false → x.number ≡ 7 → is_variable dots literals x ≡ false → pattern_of dots literals k false (name x) ≡ some wildcard_p
  unfolding pattern_of only_if is_wildcard
  name-wildcard n m e = rw (e, n, m) refl

  name-literal : dots x ≡ false → (x.number ≡ 7 → ⊥) → is_variable dots literals x ≡ false → pattern_of dots literals k false (name x) ≡ some (literal_p x)
  unfolding pattern_of only_if is_wildcard
  name-literal n m e = rw (e, n, ne_eqb _ _ m) refl

  -- what is left after each
  module _ (old : List ℕ) (top : ℕ) where
    pub left-dots : dots x ≡ true → PatternLeft dots literals k false (name x) old old top None
    left-dots e = (name-dots e, refl)

    pub left-wildcard : (new : List ℕ) (r : ℕ) → dots x ≡ false → x.number ≡ 7 → is_variable dots literals x ≡ false → Made pattern_at wildcard_p old new top r → PatternLeft dots literals k false (name x) old new top (Some (record { at = r; top = r; next = k }))
    left-wildcard new r n m v c =
        record { means = name-wildcard n m v ∙ ap some (sym c.means); counts = count_none v; grows = grows-leaf (name x) old new top r c.end c.kept }

    pub left-literal : (node w number key : ℕ) (new : List ℕ) (r : ℕ) → x ≡ name_at old node w → dots x ≡ false → (x.number ≡ 7 → ⊥) → is_variable dots literals x ≡ false → number ≡ x.number → key ≡ binding_key x.binding → MadeLiteral node w number key old new top r → PatternLeft dots literals k false (name x) old new top (Some (record { at = r; top = r; next = k }))
    left-literal node w number key new r is n m v e f c =
        record {
          means = name-literal n m v ∙ ap some (ap literal_p is ∙ sym (c.means (e ∙ ap (λ (y : Name). y.number) is) (f ∙ ap (λ (y : Name). binding_key y.binding) is)));
          counts = count_none v;
          grows = grows-leaf (name x) old new top r c.end c.kept;
        }

    pub left-variable : (new : List ℕ) (r : ℕ) → dots x ≡ false → is_variable dots literals x ≡ true → Made pattern_at (variable_p k) old new top r → PatternLeft dots literals k false (name x) old new top (Some (record { at = r; top = r; next = k + 1 }))
    left-variable new r n v c =
        record { means = name-variable n v ∙ ap some (sym c.means); counts = count-one v; grows = grows-leaf (name x) old new top r c.end c.kept }

-- ---- leaves

module _ (dots : Name → Bool) (literals : List Name) (k : ℕ) (old : List ℕ) (node w top : ℕ) where
  pub left-name : (new : List ℕ) (r : code.Option ParsedPattern) → word_at old node KIND ≡ 3 → PatternLeft dots literals k false (name (name_at old node w)) old new top r → PatternLeft dots literals k false (tree_at old node w) old new top r
  left-name new r e g = subst (λ (t : Tree). PatternLeft dots literals k false t old new top r) (sym (tree_at-name old node w e)) g

  empty_left : PatternLeft dots literals k false empty old old top (Some (record { at = 0; top = top; next = k }))
  unfolding pattern_of variables
  empty_left = record { means = ap some (sym (pattern_at-none old)); counts = omega arith; grows = grows-nothing empty old top }

  pub left-empty : word_at old node KIND ≡ 0 → PatternLeft dots literals k false (tree_at old node w) old old top (Some (record { at = 0; top = top; next = k }))
  left-empty e = subst (λ (t : Tree). PatternLeft dots literals k false t old old top (Some (record { at = 0; top = top; next = k }))) (sym (tree_at-empty old node w e)) empty_left

  constant-left : (a : Constant) (new : List ℕ) (r : ℕ) → Made pattern_at (constant_p a) old new top r → PatternLeft dots literals k false (constant a) old new top (Some (record { at = r; top = r; next = k }))
  unfolding pattern_of variables
  constant-left a new r c = record { means = ap some (sym c.means); counts = omega arith; grows = grows-leaf (constant a) old new top r c.end c.kept }

  pub left-constant : (kind first second : ℕ) (new : List ℕ) (r : ℕ) → kind ≡ word_at old node KIND → first ≡ word_at old node FIRST → second ≡ word_at old node SECOND → (word_at old node KIND ≡ 0 → ⊥) → (word_at old node KIND ≡ 3 → ⊥) → (word_at old node KIND ≡ 4 → ⊥) → Made pattern_at (constant_p (record { kind = kind; first = first; second = second })) old new top r → PatternLeft dots literals k false (tree_at old node w) old new top (Some (record { at = r; top = r; next = k }))
  unfolding constant_at
  left-constant kind first second new r e f g n0 n3 n4 c =
      let is : constant (record { kind = kind; first = first; second = second }) ≡ tree_at old node w = rw (e, f, g) (sym (tree_at-constant old node w n0 n3 n4)) in
      subst (λ (t : Tree). PatternLeft dots literals k false t old new top (Some (record { at = r; top = r; next = k }))) is (constant-left (record { kind = kind; first = first; second = second }) new r c)

-- ---- the variables of a pattern, counted

-- variables of a pattern whose ellipses are the names that `dots` tells
module _ (dots : Name → Bool) (literals : List Name) where
  -- there are as many at any depth
  variables-count : (d e : ℕ) (t : Tree) → length (variables dots literals d t) ≡ length (variables dots literals e t)
  unfolding variables
  variables-count d e empty = refl
  variables-count d e (constant a) = refl
  variables-count d e (name x) = either (is_variable dots literals x) (λ v. rw v refl) (λ v. rw v refl)
  variables-count d e (pair p ps) =
      length-append (variables dots literals (depth_before dots ps d) p) (variables dots literals d ps)
      ∙ ap₂ ◌+◌ (variables-count (depth_before dots ps d) (depth_before dots ps e) p) (variables-count d e ps)
      ∙ sym (length-append (variables dots literals (depth_before dots ps e) p) (variables dots literals e ps))

  pub count-pair : (h s : Tree) → length (variables dots literals 0 (pair h s)) ≡ length (variables dots literals 0 h) + length (variables dots literals 0 s)
  unfolding variables
  count-pair h s =
      length-append (variables dots literals (depth_before dots s 0) h) (variables dots literals 0 s)
      ∙ ap (λ (n : ℕ). n + length (variables dots literals 0 s)) (variables-count (depth_before dots s 0) 0 h)

  variables-size : (d : ℕ) (t : Tree) → length (variables dots literals d t) ≤ size t
  unfolding variables size
  variables-size d empty = omega arith
  variables-size d (constant a) = omega arith
  variables-size d (name x) = either (is_variable dots literals x) (λ v. rw v (omega arith)) (λ v. rw v (omega arith))
  variables-size d (pair p ps) =
      omega (arith, length-append (variables dots literals (depth_before dots ps d) p) (variables dots literals d ps), variables-size (depth_before dots ps d) p, variables-size d ps)

  -- the ellipsis itself is none
  pub dots-count : (h : Tree) → on_name dots false h ≡ true → length (variables dots literals 0 h) ≡ 0
  unfolding on_name variables is_variable
  dots-count empty e = absurd (false≢true e)
  dots-count (constant a) e = absurd (false≢true e)
  dots-count (name x) e = rw e refl
  dots-count (pair p q) e = absurd (false≢true e)

-- ---- pairs

module _ (dots : Name → Bool) (literals : List Name) (k : ℕ) (h s : Tree) where
  abbrev first_of : Option Pattern
  first_of = pattern_of dots literals k false h

  abbrev later_of : Option Pattern
  later_of = pattern_of dots literals (k + length (variables dots literals 0 h)) (dots_next dots s) s

  abbrev crowded : Bool
  crowded = any_of (on_name dots false) (elements (tail s))

  pair-taken : on_name dots false h ≡ true → pattern_of dots literals k true (pair h s) ≡ pattern_of dots literals k false s
  unfolding pattern_of
  pair-taken e = ap (λ (n : ℕ). pattern_of dots literals n false s) (let l = dots-count dots literals h e in omega (arith, l))

  pair_is : pattern_of dots literals k false (pair h s)
      ≡ cond (dots_next dots s) (only_if (not crowded) (map_both (λ x y. ellipsis_p x (length (elements (tail s))) y) first_of later_of)) (map_both pair_p first_of later_of)
  unfolding pattern_of
  pair_is = refl

  pair-crowded : true ≡ (dots_next dots s && crowded) → pattern_of dots literals k false (pair h s) ≡ none
  unfolding only_if
  pair-crowded e = pair_is ∙ rw (and_left (dots_next dots s) crowded (sym e), and_right (dots_next dots s) crowded (sym e)) refl

  pair-bad : first_of ≡ none → pattern_of dots literals k false (pair h s) ≡ none
  unfolding only_if map_both
  pair-bad e =
      pair_is
      ∙ rw e
      (either (dots_next dots s)
      (λ d. either crowded (λ c. rw (d, c) refl) (λ c. rw (d, c) refl))
      (λ d. rw d refl))

  module _ (x : Pattern) (f : first_of ≡ some x) where
    pair-bad-rest : later_of ≡ none → pattern_of dots literals k false (pair h s) ≡ none
    unfolding only_if map_both map_some
    pair-bad-rest e =
        pair_is
        ∙ rw (f, e)
        (either (dots_next dots s)
        (λ d. either crowded (λ c. rw (d, c) refl) (λ c. rw (d, c) refl))
        (λ d. rw d refl))

    pair-both : (y : Pattern) → false ≡ (dots_next dots s && crowded) → later_of ≡ some y
        → pattern_of dots literals k false (pair h s) ≡ some (cond (dots_next dots s) (ellipsis_p x (length (elements (tail s))) y) (pair_p x y))
    unfolding only_if map_both map_some
    pair-both y u e =
        pair_is
        ∙ rw (f, e)
        (either (dots_next dots s)
        (λ d. let c : false ≡ crowded = rw d at u in rw (d, ← c) refl)
        (λ d. rw d refl))

-- one tree's pattern is another's, no larger and with as many variables
module _ (dots : Name → Bool) (literals : List Name) (k : ℕ) (taken : Bool) (t s : Tree) (old new : List ℕ) (top : ℕ) (same : pattern_of dots literals k false s ≡ pattern_of dots literals k taken t)
    (counted : length (variables dots literals 0 s) ≡ length (variables dots literals 0 t)) (smaller : size s ≤ size t) where
  left_as : (r : code.Option ParsedPattern) → PatternLeft dots literals k false s old new top r → PatternLeft dots literals k taken t old new top r
  left_as (Some p) m =
      record {
        means = sym same ∙ m.means;
        counts = omega (arith, m.counts, counted);
        grows = record { at_most = m.grows.at_most; up = m.grows.up; words = omega (arith, m.grows.words); kept = m.grows.kept };
      }
  left_as None m = (sym same ∙ m.0, m.1)

-- a leaf may begin after the ellipsis or not
leaf-taken : (dots : Name → Bool) (literals : List Name) (k : ℕ) (taken : Bool) (old : List ℕ) (node w : ℕ) → (word_at old node KIND ≡ 4 → ⊥) → pattern_of dots literals k false (tree_at old node w) ≡ pattern_of dots literals k taken (tree_at old node w)
unfolding pattern_of
leaf-taken dots literals k taken old node w n =
    tree-cases old node w (λ t. pattern_of dots literals k false t ≡ pattern_of dots literals k taken t) (λ e. refl) (λ e. refl) (λ e. absurd (n e)) (λ p q r. refl)

pub left-leaf : (dots : Name → Bool) (literals : List Name) (k : ℕ) (taken : Bool) (old : List ℕ) (node w top : ℕ) (new : List ℕ) (r : code.Option ParsedPattern) → (word_at old node KIND ≡ 4 → ⊥)
    → PatternLeft dots literals k false (tree_at old node w) old new top r → PatternLeft dots literals k taken (tree_at old node w) old new top r
left-leaf dots literals k taken old node w top new r n m = left_as dots literals k taken _ _ old new top (leaf-taken dots literals k taken old node w n) refl (omega arith) r m

-- what stands behind the ellipsis
pub behind-count : (work : List ℕ) (rest after n : ℕ) (followed : Bool) → Means work rest after tail → Counts work after n → Behind work rest followed n
behind-count work rest after n followed m c w e = c.is w ∙ ap (λ (t : Tree). length (elements t)) (m.is w)

pub behind-none : (work : List ℕ) (rest : ℕ) (followed : Bool) → followed ≡ false → Behind work rest followed 0
behind-none work rest followed e w f = absurd (false≢true (sym e ∙ f))

-- a pair of a list of patterns or rules at hand, opened
pub record PairHere (old : List ℕ) (form : Form) (node top head rest : ℕ) : Type 0 where
  pub asks : Asks old node form.wrap top
  pub dots-below : DotsBelow form.dots top
  pub literals-below : form.literals ≤ top
  pub is-pair : word_at old node KIND ≡ 4
  pub head-is : head ≡ reference_at old node HEAD
  pub rest-is : rest ≡ reference_at old node TAIL

pub pair-here : (old : List ℕ) (form : Form) (node top : ℕ) {head rest : ℕ} → Asks old node form.wrap top → DotsBelow form.dots top → form.literals ≤ top
    → word_at old node KIND ≡ 4 → head ≡ reference_at old node HEAD → rest ≡ reference_at old node TAIL → PairHere old form node top head rest
pair-here old form node top asks dots literals e f g =
    record { asks = asks; dots-below = dots; literals-below = literals; is-pair = e; head-is = f; rest-is = g }

-- what is left after each way through a pair
module _ {old : List ℕ} {form : Form} {node top head rest : ℕ} (here : PairHere old form node top head rest) (k : ℕ) where
  abbrev ds : Name → Bool
  ds = dots_at old form.dots form.wrap

  abbrev listed : List Name
  listed = names (tree_at old form.literals form.wrap)

  abbrev h : Tree
  h = tree_at old head form.wrap

  abbrev s : Tree
  s = tree_at old rest form.wrap

  whole_is : tree_at old node form.wrap ≡ pair h s
  whole_is = tree_is old node form.wrap top here.asks head rest here.is-pair here.head-is here.rest-is

  whole-size : size (tree_at old node form.wrap) ≡ suc (size h + size s)
  whole-size = size_is old node form.wrap top here.asks head rest here.is-pair here.head-is here.rest-is

  pub small-head : k + size (tree_at old node form.wrap) < 2 ^ 32 → k + size h < 2 ^ 32
  small-head l = omega (arith, whole-size)

  pub small-tail : k + size (tree_at old node form.wrap) < 2 ^ 32 → k + size s < 2 ^ 32
  small-tail l = omega (arith, whole-size)

  pub left-taken : (taken : Bool) (new : List ℕ) (r : code.Option ParsedPattern) → taken ≡ true → (taken ≡ true → dots_next ds (tree_at old node form.wrap) ≡ true) → PatternLeft ds listed k false s old new top r → PatternLeft ds listed k taken (tree_at old node form.wrap) old new top r
  unfolding dots_next on_pair
  left-taken taken new r q d m =
      let begins : on_name ds false h ≡ true = rw whole_is at (d q) in
      left_as ds listed k taken (tree_at old node form.wrap) s old new top (rw (q, whole_is) (sym (pair-taken ds listed k h s begins)))
      (rw whole_is (omega (arith, count-pair ds listed h s, dots-count ds listed h begins))) (omega (arith, whole-size)) r m

  module _ {taken followed : Bool} (untaken : taken ≡ false) (next : followed ≡ dots_next ds s) where
    whole : pattern_of ds listed k taken (tree_at old node form.wrap) ≡ pattern_of ds listed k false (pair h s)
    whole = rw (untaken, whole_is) refl

    pub left-crowded : true ≡ (followed && dots_among old form.dots form.wrap (tail s)) → PatternLeft ds listed k taken (tree_at old node form.wrap) old old top None
    left-crowded c = (whole ∙ pair-crowded ds listed k h s (c ∙ ap (λ (b : Bool). b && dots_among old form.dots form.wrap (tail s)) next), refl)

    pub left-bad : (mid : List ℕ) (r : code.Option ParsedPattern) → r ≡ None → PatternLeft ds listed k false h old mid top r → PatternLeft ds listed k taken (tree_at old node form.wrap) old mid top None
    left-bad mid r b p =
        let q : PatternLeft ds listed k false h old mid top None = subst (λ (z : code.Option ParsedPattern). PatternLeft ds listed k false h old mid top z) b p in
        (whole ∙ pair-bad ds listed k h s q.0, q.1)

    pub made-head : (mid : List ℕ) (r : code.Option ParsedPattern) (p : ParsedPattern) → r ≡ Some p → PatternLeft ds listed k false h old mid top r → PatternMade ds listed k false h old mid top p.at p.top p.next
    made-head mid r p b m = subst (λ (z : code.Option ParsedPattern). PatternLeft ds listed k false h old mid top z) b m

    module _ {mid : List ℕ} {a t n : ℕ} (same_length : length mid ≡ length old) (made : PatternMade ds listed k false h old mid top a t n) where
      abbrev again : Tree
      again = tree_at mid rest form.wrap

      abbrev ds-again : Name → Bool
      ds-again = dots_at mid form.dots form.wrap

      abbrev listed-again : List Name
      listed-again = names (tree_at mid form.literals form.wrap)

      same-listed : listed-again ≡ listed
      same-listed = ap names (tree-kept old mid top form.literals form.wrap here.literals-below here.asks.wrap-below made.grows.kept)

      same-dots : ds-again ≡ ds
      same-dots = dots-kept old mid top made.grows.kept form.dots form.wrap here.dots-below here.asks.wrap-below

      s-is : again ≡ s
      s-is = rest-kept old node form.wrap top here.asks head rest here.is-pair here.head-is here.rest-is mid a t same_length made.grows

      pub small-rest : k + size (tree_at old node form.wrap) < 2 ^ 32 → n + size again < 2 ^ 32
      small-rest l = rw s-is (omega (arith, whole-size, made.counts, variables-size ds listed 0 h))

      pub literals-still : form.literals ≤ t
      literals-still = omega (arith, here.literals-below, made.grows.up)

      pub dots-still : DotsBelow form.dots t
      dots-still = dots-higher form.dots top t made.grows.up here.dots-below

      pub begins-still : followed ≡ true → dots_next ds-again again ≡ true
      begins-still q = rw (same-dots, s-is) (sym next ∙ q)

      rest-means : pattern_of ds-again listed-again n followed again ≡ later_of ds listed k h s
      rest-means = rw (same-dots, same-listed, s-is, made.counts, next) refl

      pub left-bad-rest : (new : List ℕ) (r : code.Option ParsedPattern) → r ≡ None → PatternLeft ds-again listed-again n followed again mid new t r → PatternLeft ds listed k taken (tree_at old node form.wrap) old new top None
      left-bad-rest new r b p =
          let q : PatternLeft ds-again listed-again n followed again mid new t None = subst (λ (z : code.Option ParsedPattern). PatternLeft ds-again listed-again n followed again mid new t z) b p in
          (whole ∙ pair-bad-rest ds listed k h s (pattern_at mid a) made.means (sym rest-means ∙ q.0), kept-both h old mid new top a t made.grows q.1)

      pub made-rest : (last : List ℕ) (r : code.Option ParsedPattern) (p : ParsedPattern) → r ≡ Some p → PatternLeft ds-again listed-again n followed again mid last t r → PatternMade ds-again listed-again n followed again mid last t p.at p.top p.next
      made-rest last r p q m = subst (λ (z : code.Option ParsedPattern). PatternLeft ds-again listed-again n followed again mid last t z) q m

      pub left-list : (last new : List ℕ) (b u m r c : ℕ) → false ≡ (followed && dots_among old form.dots form.wrap (tail s)) → (followed ≡ true → c ≡ length (elements (tail s))) → PatternMade ds-again listed-again n followed again mid last t b u m
          → Made pattern_at (cond followed (ellipsis_p (pattern_at last a) c (pattern_at last b)) (pair_p (pattern_at last a) (pattern_at last b))) last new u r → PatternLeft ds listed k taken (tree_at old node form.wrap) old new top (Some (record { at = r; top = r; next = m }))
      left-list last new b u m r c lone counted second made-it =
          record {
            means =
                whole
                ∙ pair-both ds listed k h s (pattern_at mid a) made.means (pattern_at last b) (lone ∙ ap (λ (z : Bool). z && dots_among old form.dots form.wrap (tail s)) next) (sym rest-means ∙ second.means)
                ∙ ap some (ap₂ (λ (z : Bool) (x : Pattern). cond z (ellipsis_p x (length (elements (tail s))) (pattern_at last b)) (pair_p x (pattern_at last b))) (sym next) (sym (pattern-kept mid last t second.grows.kept a made.grows.at_most))
                ∙ either followed (λ z. rw (z, counted z) refl) (λ z. rw z refl) ∙ sym made-it.means);
            counts = rw whole_is (let q : m ≡ n + length (variables ds listed 0 s) = (rw (same-dots, same-listed, s-is) at second.counts) in omega (arith, made.counts, count-pair ds listed h s));
            grows = grows-pair old node form.wrap top here.asks head rest here.is-pair here.head-is here.rest-is mid a t same_length made.grows last new b u r second.grows made-it.end made-it.kept;
          }
