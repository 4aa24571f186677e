-- The code's scope: of each formal its name in the text and our variable, the innermost formal last.
use Rattle.std.specs.Prelude.{◌≡◌, cond, List, [], ◌∷◌, ℕ, zero, suc, ◌<◌, eqb, get_or, Option, None, Some}
use Rattle.comparison.specs.Agrees as A
use Rattle.supplier.specs.declared.scope.Formal.{Formal}

-- formals that there is room for: a lambda's eight behind those of the lambdas round it, two items of the text for each
abbrev pub formals_room : ℕ
formals_room = 2056

abbrev pub nobody : Formal
nobody = record { name = 0; variable = 0 }

abbrev pub name_in : List Formal → ℕ → ℕ
name_in scope k = (get_or scope k nobody).name

abbrev pub variable_in : List Formal → ℕ → ℕ
variable_in scope k = (get_or scope k nobody).variable

-- the first `top` of them, the innermost first
unfoldable pub scope_of : List Formal → ℕ → A.Scope
scope_of scope zero = []
scope_of scope (suc k) = (name_in scope k, variable_in scope k) ∷ scope_of scope k

-- the place after the innermost of this name
unfoldable pub innermost : ℕ → List Formal → ℕ → ℕ
innermost n scope zero = 0
innermost n scope (suc k) = let outer = innermost n scope k in cond (eqb n (name_in scope k)) (suc k) outer

-- the place after one that was found, 0 where there is none
unfoldable pub place_after : Option ℕ → ℕ
place_after None = 0
place_after (Some k) = suc k

-- the first `top` are as they were
abbrev pub Kept : ℕ → List Formal → List Formal → Type 0
Kept top before after = (k : ℕ) → k < top → get_or after k nobody ≡ get_or before k nobody
