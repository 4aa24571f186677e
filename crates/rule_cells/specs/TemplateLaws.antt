-- Laws of parsing a template, one for each way through the code.
use Rattle.std.proofs.Math.Path.{◌≡◌, refl, sym, ap, ap₂, subst}
use Rattle.std.proofs.Common.{◌∙◌, arith}
use Rattle.std.specs.Prelude.{Bool, not, ◌||◌, cond, length, take, Some, None}
use Rattle.std.proofs.Math.Bool.{true, false}
use Rattle.std.proofs.lemmas.Bool.{false≢true}
use mathlib.Core.List.{List, ◌∷◌}
use Rattle.std.proofs.Math.Option.{Option, none, some}
use Prim.Native.Nat.{ℕ, zero, suc, ◌+◌, ◌*◌, ◌≤◌, ◌<◌}
use Rattle.std.proofs.Math.Dec.{ltb}
use Rattle.std.proofs.Math.ListN.{get_or}
use Rattle.words.specs.Options.{only_if, map_some, map_both}
use Rattle.datum.specs.Constant.{Constant}
use Rattle.recipe.specs.Name.{Name}
use Rattle.recipe.specs.Tree.{Tree, empty, constant, name, pair, size, on_empty, on_name, on_pair, is_list, is_list_of, elements, element}
use Rattle.expansion.specs.Rules.{Template, variable_t, insert_t, constant_t, empty_t, pair_t, ellipsis_t, drivers, is_driven, depth_fits, variable_from, name_template, list_template, Place, as_element, as_rest, as_taken, as_escaped, no_ellipsis, dots_next, depth_before, place_after, template_of}
use Rattle.arena.specs.Offsets.{KIND, HEAD, TAIL, FIRST, SECOND}
use Rattle.arena.specs.Arena.{word_at, reference_at, name_at, constant_at, tree_at}
use Rattle.words.specs.ListLaws.{either}
use Rattle.arena.specs.NodeLaws.{tree_at-empty, tree_at-name, tree_at-constant}
use Rattle.rule_cells.specs.Cells.{template_at, template_from}
use Rattle.rule_cells.specs.Made.{Made}
use Rattle.rule_cells.specs.MadeLaws.{template-kept, name-kept}
use Rattle.arena.specs.ListLaws.{tree-cases}
use Rattle.arena.specs.Lists.{Means}
use Rattle.rule_cells.specs.declared.templates.Scope.{Scope}
use Rattle.rule_cells.specs.Dots.{dots_at, DotsBelow, dots-higher, dots-kept}
use Rattle.rule_cells.specs.Variables.{variable_at, variables_from, Under, Deeper}
use Rattle.rule_cells.specs.Drive.{drives}
use Rattle.rule_cells.specs.declared.rules.Parsed.{Parsed}
use Rattle.std.specs.declared.option.Option as code
use Rattle.rule_cells.specs.Parse.{Asks, rest_place, TemplateMade, TemplateLeft}
use Rattle.rule_cells.specs.ParseLaws.{grows-nothing, grows-leaf, kept-both, tree_is, size_is, rest_below, rest-kept, grows-pair}
use Rattle.rule_cells.specs.declared.dots.Dots.TheVariants.{Never}

-- the empty template is reference 0
pub template_at-none : (work : List ℕ) → template_at work 0 ≡ empty_t
unfolding template_at template_from
template_at-none work = refl

-- ---- names

module _ (dots : Name → Bool) (vs : List (Name × ℕ)) (d : ℕ) (x : Name) where
  name-dots : dots x ≡ true → template_of dots vs d as_element (name x) ≡ none
  unfolding template_of only_if
  name-dots e = rw e refl

  name-is : dots x ≡ false → template_of dots vs d as_element (name x) ≡ name_template d x (variable_from 0 vs x)
  unfolding template_of only_if
  name-is n = rw n refl

  name-variable : (k e : ℕ) → variable_from 0 vs x ≡ some (k, e) → name_template d x (variable_from 0 vs x) ≡ only_if (depth_fits e d) (some (variable_t k e))
  unfolding name_template
  name-variable k e f = rw f refl

  name-insert : variable_from 0 vs x ≡ none → name_template d x (variable_from 0 vs x) ≡ some (insert_t x)
  unfolding name_template
  name-insert f = rw f refl

  module _ (old : List ℕ) (top : ℕ) where
    pub left-dots : dots x ≡ true → TemplateLeft dots vs d as_element (name x) old old top None
    left-dots e = (name-dots e, refl)

    pub left-depth : (k e : ℕ) → dots x ≡ false → variable_from 0 vs x ≡ some (k, e) → false ≡ depth_fits e d → TemplateLeft dots vs d as_element (name x) old old top None
    unfolding only_if
    left-depth k e n f h = (name-is n ∙ name-variable k e f ∙ ap (λ (b : Bool). only_if b (some (variable_t k e))) (sym h), refl)

    pub left-variable : (k e : ℕ) (new : List ℕ) (r : ℕ) → dots x ≡ false → variable_from 0 vs x ≡ some (k, e) → true ≡ depth_fits e d → Made template_at (variable_t k e) old new top r → TemplateLeft dots vs d as_element (name x) old new top (Some (record { at = r; top = r }))
    unfolding only_if
    left-variable k e new r n f h c =
        record {
          means = name-is n ∙ name-variable k e f ∙ ap (λ (b : Bool). only_if b (some (variable_t k e))) (sym h) ∙ ap some (sym c.means);
          grows = grows-leaf (name x) old new top r c.end c.kept;
        }

    pub left-insert : (node w : ℕ) (new : List ℕ) (r : ℕ) → x ≡ name_at old node w → dots x ≡ false → variable_from 0 vs x ≡ none → Made template_at (insert_t (name_at old node w)) old new top r → TemplateLeft dots vs d as_element (name x) old new top (Some (record { at = r; top = r }))
    left-insert node w new r is n f c =
        record {
          means = name-is n ∙ name-insert f ∙ ap some (ap insert_t is ∙ sym c.means);
          grows = grows-leaf (name x) old new top r c.end c.kept;
        }

-- ---- leaves

module _ (dots : Name → Bool) (vs : List (Name × ℕ)) (d : ℕ) (old : List ℕ) (node w top : ℕ) where
  pub left-name : (new : List ℕ) (r : code.Option Parsed) → word_at old node KIND ≡ 3 → TemplateLeft dots vs d as_element (name (name_at old node w)) old new top r → TemplateLeft dots vs d as_element (tree_at old node w) old new top r
  left-name new r e g = subst (λ (t : Tree). TemplateLeft dots vs d as_element t old new top r) (sym (tree_at-name old node w e)) g

  empty_left : TemplateLeft dots vs d as_element empty old old top (Some (record { at = 0; top = top }))
  unfolding template_of
  empty_left = record { means = ap some (sym (template_at-none old)); grows = grows-nothing empty old top }

  pub left-empty : word_at old node KIND ≡ 0 → TemplateLeft dots vs d as_element (tree_at old node w) old old top (Some (record { at = 0; top = top }))
  left-empty e = subst (λ (t : Tree). TemplateLeft dots vs d as_element t old old top (Some (record { at = 0; top = top }))) (sym (tree_at-empty old node w e)) empty_left

  constant-left : (a : Constant) (new : List ℕ) (r : ℕ) → Made template_at (constant_t a) old new top r → TemplateLeft dots vs d as_element (constant a) old new top (Some (record { at = r; top = r }))
  unfolding template_of
  constant-left a new r c = record { means = ap some (sym c.means); grows = grows-leaf (constant a) old new top r c.end c.kept }

  pub left-constant : (kind first second : ℕ) (new : List ℕ) (r : ℕ) → kind ≡ word_at old node KIND → first ≡ word_at old node FIRST → second ≡ word_at old node SECOND → (word_at old node KIND ≡ 0 → ⊥) → (word_at old node KIND ≡ 3 → ⊥) → (word_at old node KIND ≡ 4 → ⊥) → Made template_at (constant_t (record { kind = kind; first = first; second = second })) old new top r → TemplateLeft dots vs d as_element (tree_at old node w) old new top (Some (record { at = r; top = r }))
  unfolding constant_at
  left-constant kind first second new r e f g n0 n3 n4 c =
      let is : constant (record { kind = kind; first = first; second = second }) ≡ tree_at old node w = rw (e, f, g) (sym (tree_at-constant old node w n0 n3 n4)) in
      subst (λ (t : Tree). TemplateLeft dots vs d as_element t old new top (Some (record { at = r; top = r }))) is (constant-left (record { kind = kind; first = first; second = second }) new r c)

-- ---- pairs

first-size : (s : Tree) → size (element 0 s) ≤ size s
unfolding size element elements
first-size empty = omega arith
first-size (constant a) = omega arith
first-size (name x) = omega arith
first-size (pair h t) = omega arith

-- what an escape holds
inside_is : (vs : List (Name × ℕ)) (d : ℕ) (u : Tree) → true ≡ is_list_of 1 u → template_of no_ellipsis vs d as_escaped u ≡ template_of no_ellipsis vs d as_element (element 0 u)
unfolding template_of is_list_of is_list on_empty on_pair element elements
inside_is vs d empty m = absurd (false≢true (sym m))
inside_is vs d (constant a) m = absurd (false≢true (sym m))
inside_is vs d (name x) m = absurd (false≢true (sym m))
inside_is vs d (pair p q) m = refl

module _ (dots : Name → Bool) (vs : List (Name × ℕ)) (d : ℕ) (h s : Tree) where
  abbrev first_of : Option Template
  first_of = template_of dots vs (depth_before dots s d) as_element h

  abbrev later_of : Option Template
  later_of = template_of dots vs d (place_after dots s) s

  -- a whole list: an escape, another list that begins with the ellipsis, or one that does not
  element-plain : on_name dots false h ≡ false → template_of dots vs d as_element (pair h s) ≡ template_of dots vs d as_rest (pair h s)
  unfolding template_of
  element-plain e = rw e refl

  element-none : on_name dots false h ≡ true → false ≡ is_list_of 1 s → template_of dots vs d as_element (pair h s) ≡ none
  unfolding template_of only_if
  element-none e l = rw (e, ← l) refl

  element-escape : on_name dots false h ≡ true → true ≡ is_list_of 1 s → template_of no_ellipsis vs d as_element (element 0 s) ≡ template_of dots vs d as_element (pair h s)
  unfolding template_of only_if
  element-escape e l = sym (rw (e, ← l) (inside_is vs d s l))

  pair-taken : template_of dots vs d as_taken (pair h s) ≡ template_of dots vs d as_rest s
  unfolding template_of
  pair-taken = refl

  pair_is : template_of dots vs d as_rest (pair h s) ≡ cond (dots_next dots s) (only_if (is_driven first_of) (map_both ellipsis_t first_of later_of)) (map_both pair_t first_of later_of)
  unfolding template_of list_template
  pair_is = refl

  pair-bad : first_of ≡ none → template_of dots vs d as_rest (pair h s) ≡ none
  unfolding only_if map_both is_driven
  pair-bad e = pair_is ∙ rw e (either (dots_next dots s) (λ t. rw t refl) (λ t. rw t refl))

  module _ (x : Template) (f : first_of ≡ some x) where
    pair-undriven : false ≡ (not (dots_next dots s) || drives 0 x) → template_of dots vs d as_rest (pair h s) ≡ none
    unfolding only_if is_driven drives
    pair-undriven u =
        pair_is
        ∙ rw f
        (either (dots_next dots s)
        (λ t. let v : false ≡ ltb 0 (length (drivers 0 x)) = rw t at u in rw (t, ← v) refl)
        (λ t. let v : false ≡ true = rw t at u in absurd (let z : ◌≡◌ {A = ℕ} 0 1 = cc in omega arith)))

    pair-bad-rest : later_of ≡ none → template_of dots vs d as_rest (pair h s) ≡ none
    unfolding only_if map_both map_some
    pair-bad-rest e =
        pair_is
        ∙ rw (f, e)
        (either (dots_next dots s)
        (λ t. either (is_driven (some x)) (λ v. rw (t, v) refl) (λ v. rw (t, v) refl))
        (λ t. rw t refl))

    pair-both : (y : Template) → true ≡ (not (dots_next dots s) || drives 0 x) → later_of ≡ some y → template_of dots vs d as_rest (pair h s) ≡ some (cond (dots_next dots s) (ellipsis_t x y) (pair_t x y))
    unfolding only_if map_both map_some is_driven drives
    pair-both y u e =
        pair_is
        ∙ rw (f, e)
        (either (dots_next dots s)
        (λ t. let v : true ≡ ltb 0 (length (drivers 0 x)) = rw t at u in rw (t, ← v) refl)
        (λ t. rw t refl))

-- ---- the table of variables, after new cells

module _ (old new : List ℕ) (w top : ℕ) (wrap-below : w ≤ top) (kept : take top new ≡ take top old) (vars : List ℕ) where
  variables-from : (i n : ℕ) → ((j : ℕ) → j < i + n → get_or vars (2 * j) 0 ≤ top) → variables_from new w vars i n ≡ variables_from old w vars i n
  unfolding variables_from variable_at
  variables-from i zero u = refl
  variables-from i (suc n) u =
      ap₂ ◌∷◌ (ap (λ (x : Name). (x, get_or vars (2 * i + 1) 0)) (name-kept old new top kept (get_or vars (2 * i) 0) w (u i (omega arith)) wrap-below))
      (variables-from (suc i) n (λ j l. u j (omega arith)))

  pub variables-kept : (n : ℕ) → Under vars n top → variables_from new w vars 0 n ≡ variables_from old w vars 0 n
  variables-kept n u = variables-from 0 n (λ j l. u j (omega arith))

-- a leaf means the same wherever it stands
leaf-placed : (dots : Name → Bool) (vs : List (Name × ℕ)) (d : ℕ) (place : Place) (old : List ℕ) (node w : ℕ) → (word_at old node KIND ≡ 4 → ⊥) → template_of dots vs d as_element (tree_at old node w) ≡ template_of dots vs d place (tree_at old node w)
unfolding template_of
leaf-placed dots vs d place old node w n =
    tree-cases old node w (λ t. template_of dots vs d as_element t ≡ template_of dots vs d place t) (λ e. refl) (λ e. refl) (λ e. absurd (n e)) (λ p q r. refl)

-- one tree's template is another's, no larger
module _ (vs : List (Name × ℕ)) (old new : List ℕ) (top d : ℕ) (dots dots' : Name → Bool) (place place' : Place) (t s : Tree) (same : template_of dots' vs d place' s ≡ template_of dots vs d place t) (smaller : size s ≤ size t) where
  left_as : (r : code.Option Parsed) → TemplateLeft dots' vs d place' s old new top r → TemplateLeft dots vs d place t old new top r
  left_as (Some p) m =
      record {
        means = sym same ∙ m.means;
        grows = record { at_most = m.grows.at_most; up = m.grows.up; words = omega (arith, m.grows.words); kept = m.grows.kept };
      }
  left_as None m = (sym same ∙ m.0, m.1)

pub left-leaf : (dots : Name → Bool) (vs : List (Name × ℕ)) (d : ℕ) (place : Place) (old : List ℕ) (node w top : ℕ) (new : List ℕ) (r : code.Option Parsed) → (word_at old node KIND ≡ 4 → ⊥) → TemplateLeft dots vs d as_element (tree_at old node w) old new top r → TemplateLeft dots vs d place (tree_at old node w) old new top r
left-leaf dots vs d place old node w top new r n m = left_as vs old new top d dots dots place as_element _ _ (leaf-placed dots vs d place old node w n) (omega arith) r m

-- a pair of a template at hand, opened
pub record TemplateHere (old vars : List ℕ) (scope : Scope) (node top head rest : ℕ) : Type 0 where
  pub asks : Asks old node scope.wrap top
  pub under : Under vars scope.count top
  pub dots-below : DotsBelow scope.dots top
  pub is-pair : word_at old node KIND ≡ 4
  pub head-is : head ≡ reference_at old node HEAD
  pub rest-is : rest ≡ reference_at old node TAIL

pub template-here : (old vars : List ℕ) (scope : Scope) (node top : ℕ) {head rest : ℕ} → Asks old node scope.wrap top → Under vars scope.count top → DotsBelow scope.dots top
    → word_at old node KIND ≡ 4 → head ≡ reference_at old node HEAD → rest ≡ reference_at old node TAIL → TemplateHere old vars scope node top head rest
template-here old vars scope node top asks under dots e f g =
    record { asks = asks; under = under; dots-below = dots; is-pair = e; head-is = f; rest-is = g }

-- what is left after each way through a pair
module _ {old vars : List ℕ} {scope : Scope} {node top head rest : ℕ} (here : TemplateHere old vars scope node top head rest) where
  abbrev ds : Name → Bool
  ds = dots_at old scope.dots scope.wrap

  abbrev vs : List (Name × ℕ)
  vs = variables_from old scope.wrap vars 0 scope.count

  abbrev h : Tree
  h = tree_at old head scope.wrap

  abbrev s : Tree
  s = tree_at old rest scope.wrap

  whole_is : tree_at old node scope.wrap ≡ pair h s
  whole_is = tree_is old node scope.wrap top here.asks head rest here.is-pair here.head-is here.rest-is

  whole-size : size (tree_at old node scope.wrap) ≡ suc (size h + size s)
  whole-size = size_is old node scope.wrap top here.asks head rest here.is-pair here.head-is here.rest-is

  begins : (b : Bool) → b ≡ dots_next ds (tree_at old node scope.wrap) → on_name ds false h ≡ b
  unfolding dots_next on_pair
  begins b q = let z : b ≡ dots_next ds (pair h s) = q ∙ ap (dots_next ds) whole_is in sym z

  -- a whole list that begins with the ellipsis, or not
  pub left-plain : (new : List ℕ) (r : code.Option Parsed) → false ≡ dots_next ds (tree_at old node scope.wrap) → TemplateLeft ds vs scope.d as_rest (tree_at old node scope.wrap) old new top r → TemplateLeft ds vs scope.d as_element (tree_at old node scope.wrap) old new top r
  left-plain new r q m = left_as vs old new top scope.d ds ds as_element as_rest _ _ (rw whole_is (sym (element-plain ds vs scope.d h s (begins false q)))) (omega arith) r m

  pub left-unescaped : true ≡ dots_next ds (tree_at old node scope.wrap) → false ≡ is_list_of 1 s → TemplateLeft ds vs scope.d as_element (tree_at old node scope.wrap) old old top None
  left-unescaped q l = (ap (template_of ds vs scope.d as_element) whole_is ∙ element-none ds vs scope.d h s (begins true q) l, refl)

  module _ {inside : ℕ} (first-is : Means old rest inside (element 0)) where
    pub inside-below : inside < node
    inside-below = omega (arith, first-is.low, rest_below old node scope.wrap top here.asks head rest here.is-pair here.head-is here.rest-is)

    pub asks-inside : Asks old inside scope.wrap top
    asks-inside =
        let l : size (tree_at old inside scope.wrap) ≤ size s = rw (first-is.is scope.wrap) (first-size s) in
        record {
          node-below = omega (arith, inside-below, here.asks.node-below);
          wrap-below = here.asks.wrap-below;
          room = record { fits = omega (arith, here.asks.room.fits, whole-size); small = omega (arith, here.asks.room.small, whole-size) };
        }

    pub left-escape : (new : List ℕ) (r : code.Option Parsed) → true ≡ dots_next ds (tree_at old node scope.wrap) → true ≡ is_list_of 1 s → TemplateLeft (dots_at old Never scope.wrap) vs scope.d as_element (tree_at old inside scope.wrap) old new top r → TemplateLeft ds vs scope.d as_element (tree_at old node scope.wrap) old new top r
    unfolding dots_at
    left-escape new r q l m =
        left_as vs old new top scope.d ds no_ellipsis as_element as_element (tree_at old node scope.wrap) (tree_at old inside scope.wrap)
        (rw (first-is.is scope.wrap, whole_is) (element-escape ds vs scope.d h s (begins true q) l)) (let z : size (tree_at old inside scope.wrap) ≤ size s = rw (first-is.is scope.wrap) (first-size s) in omega (arith, whole-size)) r m

  pub left-taken : (taken : Bool) (new : List ℕ) (r : code.Option Parsed) → taken ≡ true → TemplateLeft ds vs scope.d (rest_place false) s old new top r → TemplateLeft ds vs scope.d (rest_place taken) (tree_at old node scope.wrap) old new top r
  unfolding rest_place
  left-taken taken new r q m = left_as vs old new top scope.d ds ds (rest_place taken) as_rest (tree_at old node scope.wrap) s (rw (q, whole_is) (sym (pair-taken ds vs scope.d h s))) (omega (arith, whole-size)) r m

  module _ {taken followed : Bool} {inner : ℕ} (untaken : taken ≡ false) (next : followed ≡ dots_next ds s) (deeper : Deeper ds s scope.d inner) where
    first-means : template_of ds vs inner as_element h ≡ first_of ds vs scope.d h s
    first-means = rw deeper refl

    whole : template_of ds vs scope.d (rest_place taken) (tree_at old node scope.wrap) ≡ template_of ds vs scope.d as_rest (pair h s)
    unfolding rest_place
    whole = rw (untaken, whole_is) refl

    pub left-bad : (mid : List ℕ) (r : code.Option Parsed) → r ≡ None → TemplateLeft ds vs inner as_element h old mid top r → TemplateLeft ds vs scope.d (rest_place taken) (tree_at old node scope.wrap) old mid top None
    left-bad mid r b p =
        let q : TemplateLeft ds vs inner as_element h old mid top None = subst (λ (z : code.Option Parsed). TemplateLeft ds vs inner as_element h old mid top z) b p in
        (whole ∙ pair-bad ds vs scope.d h s (sym first-means ∙ q.0), q.1)

    pub made-head : (mid : List ℕ) (r : code.Option Parsed) (p : Parsed) → r ≡ Some p → TemplateLeft ds vs inner as_element h old mid top r → TemplateMade ds vs inner as_element h old mid top p.at p.top
    made-head mid r p b m = subst (λ (z : code.Option Parsed). TemplateLeft ds vs inner as_element h old mid top z) b m

    module _ {mid : List ℕ} {a t : ℕ} (same_length : length mid ≡ length old) (made : TemplateMade ds vs inner as_element h old mid top a t) where
      head-means : first_of ds vs scope.d h s ≡ some (template_at mid a)
      head-means = sym first-means ∙ made.means

      pub left-undriven : false ≡ (not followed || drives 0 (template_at mid a)) → TemplateLeft ds vs scope.d (rest_place taken) (tree_at old node scope.wrap) old mid top None
      left-undriven u = (whole ∙ pair-undriven ds vs scope.d h s (template_at mid a) head-means (u ∙ ap (λ (b : Bool). not b || drives 0 (template_at mid a)) next), made.grows.kept)

      pub under-still : Under vars scope.count t
      under-still i l = omega (arith, here.under i l, made.grows.up)

      pub dots-still : DotsBelow scope.dots t
      dots-still = dots-higher scope.dots top t made.grows.up here.dots-below

      abbrev again : Tree
      again = tree_at mid rest scope.wrap

      abbrev ds-again : Name → Bool
      ds-again = dots_at mid scope.dots scope.wrap

      abbrev vs-again : List (Name × ℕ)
      vs-again = variables_from mid scope.wrap vars 0 scope.count

      rest-means : template_of ds-again vs-again scope.d (rest_place followed) again ≡ later_of ds vs scope.d h s
      unfolding rest_place place_after
      rest-means =
          rw (dots-kept old mid top made.grows.kept scope.dots scope.wrap here.dots-below here.asks.wrap-below, variables-kept old mid scope.wrap top here.asks.wrap-below made.grows.kept vars scope.count here.under, rest-kept old node scope.wrap top here.asks head rest here.is-pair here.head-is here.rest-is mid a t same_length made.grows, next) refl

      pub left-bad-rest : (new : List ℕ) (r : code.Option Parsed) → r ≡ None → TemplateLeft ds-again vs-again scope.d (rest_place followed) again mid new t r → TemplateLeft ds vs scope.d (rest_place taken) (tree_at old node scope.wrap) old new top None
      left-bad-rest new r b p =
          let q : TemplateLeft ds-again vs-again scope.d (rest_place followed) again mid new t None = subst (λ (z : code.Option Parsed). TemplateLeft ds-again vs-again scope.d (rest_place followed) again mid new t z) b p in
          (whole ∙ pair-bad-rest ds vs scope.d h s (template_at mid a) head-means (sym rest-means ∙ q.0), kept-both h old mid new top a t made.grows q.1)

      pub made-rest : (last : List ℕ) (r : code.Option Parsed) (p : Parsed) → r ≡ Some p → TemplateLeft ds-again vs-again scope.d (rest_place followed) again mid last t r → TemplateMade ds-again vs-again scope.d (rest_place followed) again mid last t p.at p.top
      made-rest last r p q m = subst (λ (z : code.Option Parsed). TemplateLeft ds-again vs-again scope.d (rest_place followed) again mid last t z) q m

      pub left-list : (last new : List ℕ) (b u r : ℕ) → true ≡ (not followed || drives 0 (template_at mid a)) → TemplateMade ds-again vs-again scope.d (rest_place followed) again mid last t b u → Made template_at (cond followed (ellipsis_t (template_at last a) (template_at last b)) (pair_t (template_at last a) (template_at last b))) last new u r → TemplateLeft ds vs scope.d (rest_place taken) (tree_at old node scope.wrap) old new top (Some (record { at = r; top = r }))
      left-list last new b u r ok second c =
          let x-is : template_at last a ≡ template_at mid a = template-kept mid last t second.grows.kept a made.grows.at_most in
          record {
            means =
                whole
                ∙ pair-both ds vs scope.d h s (template_at mid a) head-means (template_at last b) (ok ∙ ap (λ (z : Bool). not z || drives 0 (template_at mid a)) next) (sym rest-means ∙ second.means)
                ∙ ap some (ap₂ (λ (z : Bool) (x : Template). cond z (ellipsis_t x (template_at last b)) (pair_t x (template_at last b))) (sym next) (sym x-is) ∙ sym c.means);
            grows = grows-pair old node scope.wrap top here.asks head rest here.is-pair here.head-is here.rest-is mid a t same_length made.grows last new b u r second.grows c.end c.kept;
          }
