-- Ground 19: the words are exactly one term with each variable inside its lambda, each lambda's first number the count
-- of variables before it, operations below the given count and good names. term_of is the term where all this holds.
use Rattle.std.specs.Prelude.{Bool, true, false, cond, ◌&&◌, ◌||◌, List, ℕ, ◌+◌, eqb, ltb, leb, length}
use Rattle.std.proofs.Math.Option.{Option, none, some}
use Rattle.words.specs.Limits.{operations_most, names_most}
use Rattle.words.specs.Lists.{all_of}
use Rattle.datum.specs.Datum as D
use Rattle.core_term.specs.Node.{Node, variable_n, operation_n, constant_n, name_n, list_n, if_n, lambda_n, application_n}
use Rattle.core_term.specs.Term.{Plain, count, variables}
use Rattle.core_term.specs.Every.{Asked, every, every_datum}
use Rattle.core_term.specs.Decode.{decode}

-- ---- what is asked of each node

-- the variables whose lambda is around
abbrev pub Scope : Type 0
Scope = ℕ → Bool

unfoldable pub outside : Scope
outside n = false

-- inside a lambda its own variables are in scope too
unfoldable pub inside : Scope → ℕ → Node → Scope
inside s b (variable_n n) = s
inside s b (operation_n n) = s
inside s b (constant_n a) = s
inside s b (name_n n) = s
inside s b (list_n n) = s
inside s b if_n = s
inside s b (lambda_n first names) = λ k. (leb first k && ltb k (first + length names)) || s k
inside s b (application_n n) = s

-- each variable inside its lambda
unfoldable pub variable_inside : Scope → ℕ → Node → Bool
variable_inside s b (variable_n n) = s n
variable_inside s b (operation_n n) = true
variable_inside s b (constant_n a) = true
variable_inside s b (name_n n) = true
variable_inside s b (list_n n) = true
variable_inside s b if_n = true
variable_inside s b (lambda_n first names) = true
variable_inside s b (application_n n) = true

-- each lambda's first number the count of variables before it
unfoldable pub first_number : Scope → ℕ → Node → Bool
first_number s b (variable_n n) = true
first_number s b (operation_n n) = true
first_number s b (constant_n a) = true
first_number s b (name_n n) = true
first_number s b (list_n n) = true
first_number s b if_n = true
first_number s b (lambda_n first names) = eqb first b
first_number s b (application_n n) = true

-- operations below the count, and good names: quoted ones, and those of a lambda's variables, used or not
unfoldable pub known : ℕ → (ℕ → Bool) → Scope → ℕ → Node → Bool
known operations name_good s b (variable_n n) = true
known operations name_good s b (operation_n n) = ltb n operations
known operations name_good s b (constant_n a) = true
known operations name_good s b (name_n n) = name_good n
known operations name_good s b (list_n n) = true
known operations name_good s b if_n = true
known operations name_good s b (lambda_n first names) = all_of name_good names
known operations name_good s b (application_n n) = true

-- ---- asked of a whole term

unfoldable pub asked : (Scope → ℕ → Node → Bool) → Asked Scope
asked test = record { test = test; enter = inside }

unfoldable pub scoped : Plain → Bool
scoped = every (asked variable_inside) outside 0

unfoldable pub numbered : Plain → Bool
numbered = every (asked first_number) outside 0

unfoldable pub all_known : ℕ → (ℕ → Bool) → Plain → Bool
all_known operations name_good = every (asked (known operations name_good)) outside 0

unfoldable pub passes : ℕ → (ℕ → Bool) → Plain → Bool
passes operations name_good t = scoped t && (numbered t && all_known operations name_good t)

-- ---- ground 19 of words

-- a service lent no name table tests only that names are below 1,024
unfoldable pub small : ℕ → Bool
small n = ltb n names_most

unfoldable pub passing : ℕ → (ℕ → Bool) → Option Plain → Option Plain
passing operations name_good none = none
passing operations name_good (some t) = cond (leb operations operations_most && passes operations name_good t) (some t) none

unfoldable pub is_some : Option Plain → Bool
is_some none = false
is_some (some t) = true

-- the term, or none where it is ground 19
unfoldable pub term_of : ℕ → (ℕ → Bool) → List ℕ → Option Plain
unfolding all_of every_datum every D.count count variables outside inside variable_inside first_number known asked scoped numbered all_known passes passing decode
term_of operations name_good ws = passing operations name_good (decode ws)

unfoldable pub is_term : ℕ → (ℕ → Bool) → List ℕ → Bool
is_term operations name_good ws = is_some (term_of operations name_good ws)
