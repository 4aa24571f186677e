-- Two expressions of two texts that differ in the choice of bound names: each reference means the formal at the same place, and other names
-- are spelled alike, each by its own text's name table.
use Rattle.std.specs.Prelude.{◌≡◌, List, [], ◌∷◌, ℕ, length}
use Rattle.datum.specs.Constant.{Constant}
use Rattle.datum.specs.Datum.{Datum, constant_d, name_d, list_d, Data, none_d, more_d}
use Rattle.comparison.specs.Expression.{Expression, reference_e, datum_e, if_e, lambda_e, application_e, Expressions, none_e, more_e}

-- the formals of the lambdas round both, the innermost first: the name here, the name there
abbrev pub Pairs : Type 0
Pairs = List (ℕ × ℕ)

-- one lambda's formals in both
unfoldable pub pairs : List ℕ → List ℕ → Pairs → Pairs
pairs [] ms ps = ps
pairs (n ∷ ns) [] ps = ps
pairs (n ∷ ns) (m ∷ ms) ps = pairs ns ms ((n, m) ∷ ps)

-- how each text spells its names
module _ (here there : ℕ → List ℕ) where
  -- two names mean one formal, or no formal has either and they are spelled alike
  pub data Meet : ℕ → ℕ → Pairs → Type 0 where
    bound : {n m : ℕ} {ps : Pairs} → Meet n m ((n, m) ∷ ps)
    past : {n m x y : ℕ} {ps : Pairs} → (n ≡ x → ⊥) → (m ≡ y → ⊥) → Meet n m ps → Meet n m ((x, y) ∷ ps)
    free : {n m : ℕ} → here n ≡ there m → Meet n m []

  -- quoted names are spelled alike
  mutual
    pub data Alike : Datum → Datum → Type 0 where
      constant' : {a : Constant} → Alike (constant_d a) (constant_d a)
      name' : {n m : ℕ} → here n ≡ there m → Alike (name_d n) (name_d m)
      list' : {ds es : Data} → AlikeAll ds es → Alike (list_d ds) (list_d es)

    pub data AlikeAll : Data → Data → Type 0 where
      no_data : AlikeAll none_d none_d
      more_data : {d e : Datum} {ds es : Data} → Alike d e → AlikeAll ds es → AlikeAll (more_d d ds) (more_d e es)

  mutual
    pub data Renamed : Pairs → Expression → Expression → Type 0 where
      reference' : {ps : Pairs} {n m : ℕ} → Meet n m ps → Renamed ps (reference_e n) (reference_e m)
      datum' : {ps : Pairs} {d e : Datum} → Alike d e → Renamed ps (datum_e d) (datum_e e)
      if' : {ps : Pairs} {x y z a b c : Expression} → Renamed ps x a → Renamed ps y b → Renamed ps z c → Renamed ps (if_e x y z) (if_e a b c)
      lambda' : {ps : Pairs} {ns ms : List ℕ} {x y : Expression} → length ns ≡ length ms → Renamed (pairs ns ms ps) x y
          → Renamed ps (lambda_e ns x) (lambda_e ms y)
      application' : {ps : Pairs} {h g : Expression} {xs ys : Expressions} → Renamed ps h g → RenamedAll ps xs ys
          → Renamed ps (application_e h xs) (application_e g ys)

    pub data RenamedAll : Pairs → Expressions → Expressions → Type 0 where
      none' : {ps : Pairs} → RenamedAll ps none_e none_e
      more' : {ps : Pairs} {x y : Expression} {xs ys : Expressions} → Renamed ps x y → RenamedAll ps xs ys → RenamedAll ps (more_e x xs) (more_e y ys)
