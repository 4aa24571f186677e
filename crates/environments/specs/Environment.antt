-- Environments: what each variable of a pattern takes at a place of the template, by how many of the innermost indices count for
-- it. Copies are entered element by element, so that transcription by an environment knows no index; that it is the definition's
-- is a law (EnvironmentLaws).
use Rattle.std.specs.Prelude.{ℕ, zero, suc, Bool, true, cond, ◌&&◌, List, [], map, nat_eq, slice_index}
use Rattle.std.proofs.Math.Option.{Option, none, some}
use Rattle.words.specs.Lists.{all_of}
use Rattle.recipe.specs.Tree.{Tree, empty, constant, name, pair, element}
use Rattle.expansion.specs.Rules.{Pattern, variable_p, literal_p, wildcard_p, constant_p, empty_p, pair_p, ellipsis_p, Template, variable_t, insert_t, constant_t, empty_t, pair_t, ellipsis_t, drivers}
use Rattle.expansion.specs.Match.{share, holds, part}
use Rattle.expansion.specs.Transcribe.{copies, all_below}

-- the pattern of the element before an ellipsis, and how many elements follow the ellipsis
abbrev pub Ellipsis : Type 0
Ellipsis = Pattern × ℕ

-- what a variable takes under none, one and two of the innermost indices, and the ellipses that a first and a second index enter,
-- where one is left
pub record Taking : Type 0 where
  pub whole : Tree
  pub one : Tree
  pub two : Tree
  pub first : Option Ellipsis
  pub second : Option Ellipsis

abbrev pub Environment : Type 0
Environment = ℕ → Taking

-- what it takes under the innermost d indices
unfoldable pub takes : ℕ → Taking → Tree
takes zero x = x.whole
takes (suc zero) x = x.one
takes (suc (suc d)) x = x.two

-- ---- copies

-- what variable k takes of element i of a list, by the element's pattern; without one, what it took before
unfoldable pub within : (k i : ℕ) → Option Ellipsis → Tree → Tree
within k i none t = t
within k i (some e) t = part e.0 k [] (element i t)

unfoldable pub entering : (k i : ℕ) → Option Ellipsis → Taking → Taking
entering k i none x = record { whole = x.whole; one = x.whole; two = x.one; first = x.first; second = x.second }
entering k i (some e) x =
    record { whole = x.whole; one = part e.0 k [] (element i x.whole); two = within k i x.second x.one; first = x.first; second = x.second }

-- the environment of copy i of an element
unfoldable pub enter : ℕ → Environment → Environment
enter i v k = entering k i (v k).first (v k)

-- ---- transcription, as in the definition

-- how many elements of a list an ellipsis takes
unfoldable pub share_of : Option Ellipsis → Tree → ℕ
share_of none t = 0
share_of (some e) t = share e.1 t

-- how many copies a variable's list drives, under d indices
unfoldable pub counts : ℕ → Taking → ℕ
counts zero x = share_of x.first x.whole
counts (suc d) x = share_of x.second x.one

-- the lengths of the lists that drive the copies of an element; t is the part of it under j ellipses
unfoldable pub lengths_by : Environment → ℕ → Template → List ℕ
lengths_by v j t = map (λ x. counts x.1 (v x.0)) (drivers j t)

unfoldable pub count_by : Environment → Template → ℕ
count_by v e = slice_index (lengths_by v 0 e) 0

-- ground 17
unfoldable pub agree_by : Environment → Template → Bool
agree_by v (variable_t k d) = true
agree_by v (insert_t x) = true
agree_by v (constant_t a) = true
agree_by v empty_t = true
agree_by v (pair_t a b) = agree_by v a && agree_by v b
agree_by v (ellipsis_t e r) = all_of (nat_eq (count_by v e)) (lengths_by v 0 e) && (all_below (λ i. agree_by (enter i v) e) (count_by v e) && agree_by v r)

unfoldable pub result_by : Environment → Template → Tree
result_by v (variable_t k d) = takes d (v k)
result_by v (insert_t x) = name x
result_by v (constant_t a) = constant a
result_by v empty_t = empty
result_by v (pair_t a b) = pair (result_by v a) (result_by v b)
result_by v (ellipsis_t e r) = copies (λ i. result_by (enter i v) e) 0 (count_by v e) (result_by v r)

-- ---- the environment of a pattern and a use

-- the ellipsis that a first index enters on the way to variable k
unfoldable pub entered : ℕ → Pattern → Option Ellipsis
entered k (variable_p j) = none
entered k (literal_p x) = none
entered k wildcard_p = none
entered k (constant_p a) = none
entered k empty_p = none
entered k (pair_p p q) = cond (holds k p) (entered k p) (entered k q)
entered k (ellipsis_p p n q) = cond (holds k p) (some (p, n)) (entered k q)

-- and a second
unfoldable pub entered_next : ℕ → Pattern → Option Ellipsis
entered_next k (variable_p j) = none
entered_next k (literal_p x) = none
entered_next k wildcard_p = none
entered_next k (constant_p a) = none
entered_next k empty_p = none
entered_next k (pair_p p q) = cond (holds k p) (entered_next k p) (entered_next k q)
entered_next k (ellipsis_p p n q) = cond (holds k p) (entered k p) (entered_next k q)

-- what a variable takes at no index
unfoldable pub taking : Tree → Option Ellipsis → Option Ellipsis → Taking
taking t p q = record { whole = t; one = t; two = t; first = p; second = q }

unfoldable pub environment : Pattern → Tree → Environment
environment p used k = taking (part p k [] used) (entered k p) (entered_next k p)
