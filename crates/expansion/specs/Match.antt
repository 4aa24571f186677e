-- Matching (document 01, 'Forms'; request L3 for elements after an ellipsis): from the left, up to the first misfit; no rule matches is
-- ground 16.
-- Two functions: whether a pattern fits a use, with the names looked up on the way; and what a variable takes from a use that fits.
use Rattle.std.specs.Prelude.{Bool, true, false, ◌||◌, cond, List, [], ◌∷◌, ◌++◌, ℕ, zero, suc, ◌-◌, eqb, leb, length}
use Rattle.std.proofs.Math.Option.{Option, none, some}
use Rattle.datum.specs.Constant.{matches}
use Rattle.recipe.specs.Name.{Name}
use Rattle.recipe.specs.Tree.{Tree, empty, constant, name, pair, on_empty, on_constant, on_name, on_pair, elements, element, tail, past}
use Rattle.expansion.specs.Lookup.{agree}
use Rattle.expansion.specs.Rules.{Pattern, variable_p, literal_p, wildcard_p, constant_p, empty_p, pair_p, ellipsis_p, Rule}

-- ---- whether a pattern fits

-- the names looked up, and whether it fits
abbrev pub Fit : Type 0
Fit = List Name × Bool

unfoldable pub fitting : Fit
fitting = ([], true)

unfoldable pub misfit : Fit
misfit = ([], false)

-- the second part is looked at only where the first fits
unfoldable pub and_then : List Name → Bool → Fit → Fit
and_then l true f = (l ++ f.0, f.1)
and_then l false f = (l, false)

unfoldable pub both_fit : Fit → Fit → Fit
both_fit f g = and_then f.0 f.1 g

-- of a list's elements an ellipsis takes all but the n that follow it (request L3)
unfoldable pub share : ℕ → Tree → ℕ
share n t = length (elements t) - n

-- where a list has fewer elements than follow the ellipsis, that is a misfit at once, and nothing is looked up (request L3)
unfoldable pub enough : ℕ → Tree → Fit
enough n t = ([], leb n (length (elements t)))

-- c elements, and then the rest of the list
unfoldable pub each_fits : (f g : Tree → Fit) → ℕ → Tree → Fit
each_fits f g zero t = g t
each_fits f g (suc c) t = on_pair (λ h u. both_fit (f h) (each_fits f g c u)) misfit t

-- a literal is compared with a name only, and both names are looked up
unfoldable pub fit : Pattern → Tree → Fit
fit (variable_p k) t = fitting
fit (literal_p x) t = on_name (λ y. (x ∷ y ∷ [], agree x y)) misfit t
fit wildcard_p t = fitting
fit (constant_p a) t = on_constant (λ b. ([], matches a b)) misfit t
fit empty_p t = on_empty fitting misfit t
fit (pair_p p q) t = on_pair (λ h u. both_fit (fit p h) (fit q u)) misfit t
fit (ellipsis_p p n q) t = both_fit (enough n t) (each_fits (fit p) (fit q) (share n t) t)

unfoldable pub or_next : Rule → List Name → Bool → List Name × Option Rule → List Name × Option Rule
or_next r l true later = (l, some r)
or_next r l false later = (l ++ later.0, later.1)

-- the first rule that matches the use's elements after its first
unfoldable pub first_fit : List Rule → Tree → List Name × Option Rule
first_fit [] used = ([], none)
first_fit (r ∷ rs) used =
    let f = fit r.pattern used in
    let later = first_fit rs used in
    or_next r f.0 f.1 later

-- ---- what a variable takes

-- the pattern holds variable k
unfoldable pub holds : ℕ → Pattern → Bool
holds k (variable_p j) = eqb k j
holds k (literal_p x) = false
holds k wildcard_p = false
holds k (constant_p a) = false
holds k empty_p = false
holds k (pair_p p q) = holds k p || holds k q
holds k (ellipsis_p p n q) = holds k p || holds k q

-- what variable k takes, with an index for each ellipsis over it, the outermost first; where one is missing, the whole list that it
-- would count
unfoldable pub part : Pattern → ℕ → List ℕ → Tree → Tree
part (variable_p j) k is t = t
part (literal_p x) k is t = empty
part wildcard_p k is t = empty
part (constant_p a) k is t = empty
part empty_p k is t = empty
part (pair_p p q) k is t = cond (holds k p) (part p k is (element 0 t)) (part q k is (tail t))
part (ellipsis_p p n q) k [] t = cond (holds k p) t (part q k [] (past (share n t) t))
part (ellipsis_p p n q) k (i ∷ is) t = cond (holds k p) (part p k is (element i t)) (part q k (i ∷ is) (past (share n t) t))

-- where one is missing: how many elements the ellipsis takes that it would count
unfoldable pub taken_count : Pattern → ℕ → List ℕ → Tree → ℕ
taken_count (variable_p j) k is t = 0
taken_count (literal_p x) k is t = 0
taken_count wildcard_p k is t = 0
taken_count (constant_p a) k is t = 0
taken_count empty_p k is t = 0
taken_count (pair_p p q) k is t = cond (holds k p) (taken_count p k is (element 0 t)) (taken_count q k is (tail t))
taken_count (ellipsis_p p n q) k [] t = cond (holds k p) (share n t) (taken_count q k [] (past (share n t) t))
taken_count (ellipsis_p p n q) k (i ∷ is) t = cond (holds k p) (taken_count p k is (element i t)) (taken_count q k (i ∷ is) (past (share n t) t))
