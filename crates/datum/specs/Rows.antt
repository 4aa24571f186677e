-- Constants that match and that do not, computed from the definition.
use Rattle.std.specs.Prelude.{◌≡◌, refl, Bool, true, false, List, [], ◌∷◌, map}
use Rattle.datum.specs.Constant.{Constant, matches, integer, boolean, decimal}

-- a pattern's constant, another, and whether they match
unfoldable rows : List (Constant × Constant × Bool)
unfolding integer boolean decimal
rows =
    -- 0.8 and itself, 0.80, 0.08, 8
    (decimal 8 1, decimal 8 1, true) ∷ (decimal 8 1, decimal 80 2, false) ∷ (decimal 8 1, decimal 8 2, false) ∷ (decimal 8 1, integer 8, false) ∷
    -- 1 and 1.0, both ways; 1 and 1; 0.0 as -0.0 is read
    (integer 1, decimal 10 1, false) ∷ (decimal 10 1, integer 1, false) ∷ (integer 1, integer 1, true) ∷ (integer 1, integer 2, false) ∷ (decimal 0 1, decimal 0 1, true) ∷
    -- -0.5 and itself, 0.5
    (decimal 4294967291 1, decimal 4294967291 1, true) ∷ (decimal 4294967291 1, decimal 5 1, false) ∷
    -- -214748.3648 and itself, 214748.3647; -2147483648 and itself
    (decimal 2147483648 4, decimal 2147483648 4, true) ∷ (decimal 2147483648 4, decimal 2147483647 4, false) ∷ (integer 2147483648, integer 2147483648, true) ∷
    -- booleans and numbers
    (boolean 1, boolean 1, true) ∷ (boolean 1, boolean 0, false) ∷ (boolean 1, integer 1, false) ∷ (integer 0, boolean 0, false) ∷ (decimal 0 1, boolean 0, false) ∷
    []

rows-hold : map (λ r. (r.0, r.1, matches r.0 r.1)) rows ≡ rows
unfolding rows matches
rows-hold = refl
