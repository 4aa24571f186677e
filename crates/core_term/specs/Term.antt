-- Core terms. F is what a lambda says of each variable it binds: a run keeps the name there, words its number.
use Rattle.std.specs.Prelude.{List, [], ◌++◌, map, ℕ, suc, ◌+◌, length}
use Rattle.datum.specs.Datum.{Datum}

-- a datum is a constant, or what quote gives
mutual
  pub data Term (F : Type 0) : Type 0 where
    variable_c : (number : ℕ) → Term F
    operation_c : (place : ℕ) → Term F
    datum_c : Datum → Term F
    if_c : (test yes no : Term F) → Term F
    lambda_c : (first : ℕ) (formals : List F) (body : Term F) → Term F
    application_c : (head : Term F) (operands : Terms F) → Term F

  pub data Terms (F : Type 0) : Type 0 where
    none_c : Terms F
    more_c : (first : Term F) (rest : Terms F) → Terms F

module _ {F : Type 0} where
  -- how many terms
  unfoldable pub count : Terms F → ℕ
  count none_c = 0
  count (more_c t ts) = suc (count ts)

  -- how many variables its lambdas bind
  unfoldable mutual
    pub variables : Term F → ℕ
    variables (variable_c n) = 0
    variables (operation_c n) = 0
    variables (datum_c d) = 0
    variables (if_c x y z) = variables x + (variables y + variables z)
    variables (lambda_c first formals body) = length formals + variables body
    variables (application_c h ts) = variables h + variables_all ts

    pub variables_all : Terms F → ℕ
    variables_all none_c = 0
    variables_all (more_c t ts) = variables t + variables_all ts

  -- what is said of them, in the words' order
  unfoldable mutual
    pub formals_of : Term F → List F
    formals_of (variable_c n) = []
    formals_of (operation_c n) = []
    formals_of (datum_c d) = []
    formals_of (if_c x y z) = formals_of x ++ (formals_of y ++ formals_of z)
    formals_of (lambda_c first formals body) = formals ++ formals_of body
    formals_of (application_c h ts) = formals_of h ++ formals_all ts

    pub formals_all : Terms F → List F
    formals_all none_c = []
    formals_all (more_c t ts) = formals_of t ++ formals_all ts

-- a term as its words tell it: of each variable the number of its name
abbrev pub Plain : Type 0
Plain = Term ℕ

abbrev pub Plains : Type 0
Plains = Terms ℕ

-- the same with something else said of the variables
module _ {F G : Type 0} (say : F → G) where
  unfoldable mutual
    pub on_formals : Term F → Term G
    on_formals (variable_c n) = variable_c n
    on_formals (operation_c n) = operation_c n
    on_formals (datum_c d) = datum_c d
    on_formals (if_c x y z) = if_c (on_formals x) (on_formals y) (on_formals z)
    on_formals (lambda_c first formals body) = lambda_c first (map say formals) (on_formals body)
    on_formals (application_c h ts) = application_c (on_formals h) (on_formals_all ts)

    pub on_formals_all : Terms F → Terms G
    on_formals_all none_c = none_c
    on_formals_all (more_c t ts) = more_c (on_formals t) (on_formals_all ts)

-- and with nothing said of them, for a reader of terms that pays no heed to names
unfoldable pub forget : {F : Type 0} → Term F → Term (Unit {0})
unfolding on_formals
forget t = on_formals (λ f. tt) t
