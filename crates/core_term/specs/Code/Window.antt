-- The checker's way with scope: the variables of a window, from base on, have a flag each, set inside their lambda.
-- What it asks of a node is ground 19's, with the flags for the scope.
use Rattle.std.specs.Prelude.{Bool, true, false, cond, not, ◌&&◌, ◌||◌, List, ℕ, zero, suc, ◌+◌, ◌-◌, eqb, ltb, leb, length, get_or, set, None}
use Rattle.std.specs.declared.option.Option.{Option}
use Rattle.std.specs.Bool.{then_some}
use Rattle.words.specs.Limits.{formals_most}
use Rattle.words.specs.Lists.{all_of}
use Rattle.datum.specs.Constant.{is_constant}
use Rattle.datum.specs.NameTable.{has_name}
use Rattle.core_term.specs.Node.{Node, binds, is_datum_node, Got, got, missing, variable_n, operation_n, constant_n, name_n, list_n, if_n, lambda_n, application_n}
use Rattle.core_term.specs.Every.{Asked}
use Rattle.core_term.specs.Check.{small}

-- ---- flags

-- variable k's flag, where it is in the window
unfoldable pub put : ℕ → ℕ → ℕ → List ℕ → List ℕ
put base k v flags = cond (ltb k base) flags (set flags (k - base) v)

-- the flags of n variables from k on
unfoldable pub marked : ℕ → ℕ → ℕ → ℕ → List ℕ → List ℕ
marked base k zero v flags = flags
marked base k (suc n) v flags = put base (k + n) v (marked base k n v flags)

-- variable n is outside the window, or its flag is set
unfoldable pub noted : ℕ → List ℕ → ℕ → Bool
noted base flags n = ltb n base || eqb (get_or flags (n - base) 1) 1

-- ---- nodes

-- with a name table or without
unfoldable pub good_name : Bool → List ℕ → ℕ → Bool
good_name true table = has_name table
good_name false table = small

-- a node that may stand here, b variables before it
unfoldable pub allowed : ℕ → (ℕ → Bool) → ℕ → List ℕ → ℕ → Node → Bool
allowed operations name_good base flags b (variable_n n) = ltb n b && noted base flags n
allowed operations name_good base flags b (operation_n n) = ltb n operations
allowed operations name_good base flags b (constant_n a) = is_constant a
allowed operations name_good base flags b (name_n n) = name_good n
allowed operations name_good base flags b (list_n n) = true
allowed operations name_good base flags b if_n = true
allowed operations name_good base flags b (lambda_n first names) = leb (length names) formals_most && (eqb first b && all_of name_good names)
allowed operations name_good base flags b (application_n n) = true

unfoldable pub window : ℕ → (ℕ → Bool) → ℕ → Asked (List ℕ)
window operations name_good base = record { test = allowed operations name_good base; enter = λ flags b x. marked base b (binds x) 1 flags }

-- how many variables are bound behind a node that was read, if it may stand; quoted wants a datum
unfoldable pub head_of : Asked (List ℕ) → Bool → List ℕ → ℕ → Got Node → Option ℕ
head_of A quoted flags b missing = None
head_of A quoted flags b (got x left) = then_some ((is_datum_node x || not quoted) && A.test flags b x) (b + binds x)
