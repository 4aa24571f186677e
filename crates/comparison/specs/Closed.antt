-- Ground 22: an expression that is a name which neither a lambda round it nor the operation list has.
use Rattle.std.specs.Prelude.{Bool, true, ◌&&◌, ◌||◌, List, [], ◌∷◌, ℕ, eqb}
use Rattle.words.specs.Lists.{any_of}
use Rattle.comparison.specs.Expression.{Expression, reference_e, datum_e, if_e, lambda_e, application_e, Expressions, none_e, more_e}

-- one lambda's formals, the last of them innermost, inside others
unfoldable pub inside : List ℕ → List ℕ → List ℕ
inside [] round = round
inside (n ∷ ns) round = inside ns (n ∷ round)

-- `is_operation` says whether the operation list has a name, `round` are the formals of the lambdas round an expression
module _ (is_operation : ℕ → Bool) where
  unfoldable mutual
    pub closed : List ℕ → Expression → Bool
    closed round (reference_e n) = any_of (eqb n) round || is_operation n
    closed round (datum_e d) = true
    closed round (if_e x y z) = closed round x && (closed round y && closed round z)
    closed round (lambda_e ns x) = closed (inside ns round) x
    closed round (application_e h xs) = closed round h && closed_all round xs

    pub closed_all : List ℕ → Expressions → Bool
    closed_all round none_e = true
    closed_all round (more_e x xs) = closed round x && closed_all round xs
