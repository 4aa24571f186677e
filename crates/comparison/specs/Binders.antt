-- Which formal each reference means. Formals of the lambdas round a reference are counted from the innermost outwards.
use Rattle.std.specs.Prelude.{cond, List, [], ◌∷◌, ◌++◌, ℕ, zero, suc, eqb, length}
use Rattle.std.proofs.Math.Option.{Option, none, some}
use Rattle.words.specs.Options.{map_some}
use Rattle.core_term.specs.Term.{variable_c, operation_c, datum_c, if_c, lambda_c, application_c, none_c, more_c, Plain, Plains}
use Rattle.comparison.specs.Expression.{Expression, reference_e, datum_e, if_e, lambda_e, application_e, Expressions, none_e, more_e}
use Rattle.comparison.specs.Closed.{inside}

-- the nearest place of n
unfoldable pub place : ℕ → List ℕ → Option ℕ
place n [] = none
place n (x ∷ xs) = let outer = map_some suc (place n xs) in cond (eqb n x) (some 0) outer

-- a lambda's variables
unfoldable pub numbers : (first count : ℕ) → List ℕ
numbers v zero = []
numbers v (suc k) = v ∷ numbers (suc v) k

-- for each reference of an expression, from the left, the place of its formal; none where no lambda round it has one
unfoldable mutual
  pub binders : List ℕ → Expression → List (Option ℕ)
  binders round (reference_e n) = place n round ∷ []
  binders round (datum_e d) = []
  binders round (if_e x y z) = binders round x ++ (binders round y ++ binders round z)
  binders round (lambda_e ns x) = binders (inside ns round) x
  binders round (application_e h xs) = binders round h ++ binders_all round xs

  pub binders_all : List ℕ → Expressions → List (Option ℕ)
  binders_all round none_e = []
  binders_all round (more_e x xs) = binders round x ++ binders_all round xs

-- the same of our term
unfoldable mutual
  pub our_binders : List ℕ → Plain → List (Option ℕ)
  our_binders round (variable_c v) = place v round ∷ []
  our_binders round (operation_c p) = none ∷ []
  our_binders round (datum_c d) = []
  our_binders round (if_c x y z) = our_binders round x ++ (our_binders round y ++ our_binders round z)
  our_binders round (lambda_c v fs x) = our_binders (inside (numbers v (length fs)) round) x
  our_binders round (application_c h ts) = our_binders round h ++ our_binders_all round ts

  pub our_binders_all : List ℕ → Plains → List (Option ℕ)
  our_binders_all round none_c = []
  our_binders_all round (more_c t ts) = our_binders round t ++ our_binders_all round ts
